-- `stream_places::empty_from` keeps its promise. Assumes nothing.
use Rattle.std.specs.Prelude.{◌-◌, ◌≡◌, length}
use Rattle.stream_places.specs.Places.{emptied}
use Rattle.stream_places.proofs.empty_from.Given as goal

abbrev pub invariant-loop-i : goal.invariant-loop-i
invariant-loop-i l = (length l.bytes ≡ length l.initial.bytes) × (emptied l.initial.bytes l.len ≡ emptied l.bytes l.i)

abbrev pub decreases-loop-i : goal.decreases-loop-i
decreases-loop-i l = length l.initial.bytes - l.i
