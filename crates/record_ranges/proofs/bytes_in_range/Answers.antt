-- `record_ranges::bytes_in_range` keeps its promise. Assumes nothing.
use Rattle.std.proofs.Common.{arith, sym, ◌∙◌, length-take-le}
use Rattle.std.specs.Prelude.{◌&&◌}
use Rattle.record.specs.Range.{is_frame_byte}
use Rattle.record_ranges.specs.Scan.{in_parts}
use Rattle.record_ranges.proofs.bytes_in_range.Goals as goal

pub returns-then-len-le-SHORT_FRAME : goal.returns-then-len-le-SHORT_FRAME
returns-then-len-le-SHORT_FRAME c = let start = c.args in
    (λ i. c.scan.ensures i && c.all_unused.ensures i)
    ∙ sym (in_parts is_frame_byte start.len 32 start.bytes.now (omega arith))

pub slice_bounds-scan-end : goal.slice_bounds-scan-end
slice_bounds-scan-end c = sym (length-take-le 32 c.args.bytes.now (omega arith))
