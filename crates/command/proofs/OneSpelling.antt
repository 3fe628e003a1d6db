-- A command carries no picture data.
-- What it speaks of is in specs/OneSpelling.antt. Assumes nothing.
use Rattle.command.specs.Order.{plain}
use Rattle.command.specs.Grammar.{form}
use Rattle.command.specs.declared.Command.{Command}
use Rattle.frame_table.specs.Reader as commands
use Rattle.command.specs.First.{first, kind}
use Rattle.command.proofs.First.{tested}
use Rattle.command.specs.OneSpelling.{NoData, plain_no_data}

-- A command carries none.
pub no_data : (c : Command) → NoData (form (plain c))
no_data c = plain_no_data (form (plain c)) (commands.kind_plain first tested (kind c))
