-- `stream_input::hear_piece` keeps its promise. Assumes nothing.
use Rattle.std.proofs.Common.{◌-◌, length}
use Rattle.stream_input.specs.Laws.{SoFar}
use Rattle.stream_input.proofs.hear_piece.Given as goal

abbrev pub invariant-loop-at : goal.invariant-loop-at
invariant-loop-at l = SoFar l.initial.now l.piece l.now l.at

abbrev pub decreases-loop-at : goal.decreases-loop-at
decreases-loop-at l = length l.piece - l.at
