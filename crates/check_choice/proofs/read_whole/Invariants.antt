-- No more is held than there are places; the places stay as many, and at each turn more of them are taken. Assumes nothing.
use Rattle.std.proofs.Common.{◌≡◌, ◌-◌, ◌≤◌, length}
use Rattle.check_choice.proofs.read_whole.Given as goal

abbrev pub invariant-loop-held : goal.invariant-loop-held
invariant-loop-held l = (length l.places ≡ length l.initial.places) × (l.held ≤ length l.places)

abbrev pub decreases-loop-held : goal.decreases-loop-held
decreases-loop-held l = length l.places - l.held
