-- The loop: what is found from here on stays the same. Assumes nothing.
use Rattle.std.specs.Prelude.{◌≡◌, ◌≤◌, drop}
use Rattle.frame_table.specs.Numbers.{pair}
use Rattle.frame_table.specs.Run.{found_from}
use Rattle.frame_table.proofs.run.Given as goal

abbrev pub invariant-loop-b : goal.invariant-loop-b
invariant-loop-b l = (l.state ≤ 63) × (found_from l.class l.next l.states 1 (pair 0 0) l.f ≡ found_from l.class l.next l.states l.state l.numbers (drop l.b-index l.f))
