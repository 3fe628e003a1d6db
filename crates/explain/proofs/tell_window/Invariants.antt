-- The parts follow each other and lie within the window. Assumes nothing.
use Rattle.std.proofs.Common.{◌-◌, ◌≤◌, length}
use Rattle.explain.proofs.tell_window.Given as goal

abbrev pub invariant-loop-front : goal.invariant-loop-front
invariant-loop-front l = l.at ≤ length l.window

abbrev pub decreases-loop-front : goal.decreases-loop-front
decreases-loop-front l = length l.window - l.at
