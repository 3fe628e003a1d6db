-- `record_ranges::text_in_range` keeps its promise. Assumes nothing.
use Rattle.std.proofs.Common.{rules, ◌∙◌, eq-eqb}
use Rattle.std.specs.Prelude.{◌≡◌, length}
use Rattle.record.specs.Range.{is_code, text_in_range}
use Rattle.record_ranges.specs.Scan.{used_whole}
use Rattle.record_ranges.proofs.text_in_range.Goals as goal

pub returns : goal.returns
unfolding text_in_range
returns c = let text = c.args.text.now in
    let full : length text ≡ 104 = search rules in
    rw (eq-eqb _ _ full) (c.scan.ensures ∙ used_whole is_code 104 text full)
