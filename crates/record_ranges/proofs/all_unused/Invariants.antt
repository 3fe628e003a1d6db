-- `record_ranges::all_unused` keeps its promise. Assumes nothing.
use Rattle.std.proofs.Math.Seq.{slice}
use Rattle.std.specs.Prelude.{◌&&◌, ◌≡◌, length}
use Rattle.lists.specs.Every.{every}
use Rattle.record.specs.Range.{is_unused}
use Rattle.record_ranges.proofs.all_unused.Given as goal

abbrev pub invariant-loop-b : goal.invariant-loop-b
invariant-loop-b l = every is_unused (slice 0 (length l.s) l.s) ≡ (l.ok && every is_unused (slice l.b-index (length l.s) l.s))
