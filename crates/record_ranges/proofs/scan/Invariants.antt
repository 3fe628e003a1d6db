-- `record_ranges::scan` keeps its promise. Assumes nothing.
use Rattle.std.specs.Prelude.{◌+◌, ◌-◌, ◌&&◌, ◌≡◌, drop}
use Rattle.record_ranges.specs.Scan.{test_of, filled}
use Rattle.record_ranges.proofs.scan.Given as goal

abbrev pub invariant-loop-b : goal.invariant-loop-b
invariant-loop-b l = (l.left + l.b-index ≡ 255) × (filled (test_of l.place) l.len l.s ≡ (l.ok && filled (test_of l.place) (l.len - l.b-index) (drop l.b-index l.s)))
