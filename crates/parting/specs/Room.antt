-- LIMITED ROOM: a call stops exactly before the first byte whose whole answer does not fit. It is the calls of `turns`, at one byte.
-- Assumes nothing.
use Rattle.std.specs.Prelude.{ℕ, List}
use Rattle.turns.specs.Room
use Rattle.parting.specs.Meaning.{Meaning, State}
use Rattle.parting.specs.Reading.{step}

-- what a call leaves: the record, how many of the bytes it used, and what it answered
abbrev pub Ran : Type 0 → Type 0
Ran Core = Room.Ran (State Core)

-- A CALL with limited room
abbrev pub run : (M : Meaning) → State M.Core → List ℕ → ℕ → Ran M.Core
run M = Room.run (step M)
