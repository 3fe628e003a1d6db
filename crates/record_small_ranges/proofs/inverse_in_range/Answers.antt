-- The marks are counted. Assumes nothing.
use Rattle.std.proofs.Common.{rules}
use Rattle.record_small_ranges.proofs.Marks.{five_marks}
use Rattle.record_small_ranges.proofs.inverse_in_range.Goals as goal

pub returns : goal.returns
returns c = five_marks c.args.marks (search rules)
