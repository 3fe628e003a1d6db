-- `record_ranges::picture_in_range` keeps its promise. Assumes nothing.
use Rattle.std.proofs.Common.{rules, ◌∙◌, eq-eqb}
use Rattle.std.specs.Prelude.{◌≡◌, length}
use Rattle.record.specs.Range.{is_low_column, picture_in_range}
use Rattle.record_ranges.specs.Scan.{used_end}
use Rattle.record_ranges.proofs.picture_in_range.Goals as goal

pub returns : goal.returns
unfolding picture_in_range
returns c = let picture = c.args.picture.now in
    let full : length picture ≡ 672 = search rules in
    rw (eq-eqb _ _ full) (c.scan.ensures ∙ (rw full at (used_end is_low_column 576 672 picture full)))
