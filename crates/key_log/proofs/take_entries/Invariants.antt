-- `key_log::take_entries` keeps its promise. Assumes nothing.
use Rattle.std.specs.Prelude.{◌≡◌, length}
use Rattle.key_entry.specs.Rules.{with_keys}
use Rattle.key_log.specs.Turns.{Goes}
use Rattle.key_log.proofs.take_entries.Given as goal

abbrev pub invariant-loop-tick : goal.invariant-loop-tick
invariant-loop-tick l = (l.used ≡ length l.yielded) × Goes l.small l.ticks l.edges l.initial.codes (λ r. with_keys r l.held l.light) l.used l.written l.codes
