-- The window has room behind what it holds. Assumes nothing.
use Rattle.std.proofs.Common.{◌≤◌}
use Rattle.explain.proofs.explain.Given as goal

abbrev pub invariant-loop : goal.invariant-loop
invariant-loop l = l.held ≤ 252
