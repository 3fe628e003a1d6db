-- `key_log::take_sister_entries` keeps its promise. Assumes nothing.
use Rattle.std.specs.Prelude.{◌≡◌, length}
use Rattle.key_log.specs.Steps.{with_sister_keys}
use Rattle.key_log.specs.Turns.{Goes}
use Rattle.key_log.proofs.take_sister_entries.Given as goal

abbrev pub invariant-loop-tick : goal.invariant-loop-tick
invariant-loop-tick l = (l.used ≡ length l.yielded) × Goes l.small l.ticks l.edges l.initial.sent (λ r. with_sister_keys r l.left) l.used l.written l.sent
