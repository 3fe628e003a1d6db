-- ESC bytes counted, one byte after the other. Assumes nothing.
use Rattle.lists.specs.Counted.{Counting}
use Rattle.parting.specs.Count.{is_escape}
use Rattle.answer_room.proofs.escapes_in.Given as goal

abbrev pub invariant-loop-b : goal.invariant-loop-b
invariant-loop-b l = Counting is_escape l.bytes l.n l.b-index
