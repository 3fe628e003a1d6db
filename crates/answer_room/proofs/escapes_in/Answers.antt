-- ESC bytes counted, one byte after the other. Assumes nothing.
use Rattle.std.proofs.Common.{arith}
use Rattle.lists.specs.Counted.{count_ends}
use Rattle.parting.specs.Count.{is_escape, escapes}
use Rattle.answer_room.proofs.escapes_in.Goals as goal

pub returns : goal.returns
unfolding escapes
returns c = record { same = count_ends is_escape c.loop-b.invariant (omega arith) }
