-- What a good frame orders: a command with all that it carries. Two frames mean the same when their orders are equal. Assumes nothing.
use Rattle.std.specs.Prelude.{ℕ, List}
use Rattle.command.specs.declared.Command.{Command}
use Rattle.command.specs.declared.Side.{Side}

-- a command of letters, signs and numbers; a label and its codes; a picture row and its columns
pub data Order : Type 0 where
  plain : Command → Order
  label : Side → List ℕ → Order
  draw : ℕ → List ℕ → Order
