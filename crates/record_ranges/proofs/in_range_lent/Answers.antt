-- `record_ranges::in_range_lent` keeps its promise. Assumes nothing.
use Rattle.std.proofs.Common.{sym, ap, ◌∙◌}
use Rattle.std.specs.Prelude.{Bool, true, false, ◌&&◌}
use Rattle.record.specs.Range.{label_in_range, text_in_range, picture_in_range, frame_in_range}
use Rattle.record.specs.Parts.{whole}
use Rattle.record_small_ranges.specs.Small.{small_and_arrays}
use Rattle.record_ranges.specs.Editions.{first_asked_lem, sister_asked_lem, neither_refused}
use Rattle.record_ranges.proofs.in_range_lent.Goals as goal

pub returns-then-is_first : goal.returns-then-is_first
returns-then-is_first c = record {
  same = let r = whole c.args.parts in
      c.rest_in_range.ensures
      ∙ ap (λ (fine : Bool). fine && label_in_range r.settings.left && label_in_range r.settings.right && text_in_range r.text && picture_in_range r.picture && frame_in_range r.frame) c.small_in_range-fine.ensures.same
      ∙ small_and_arrays false r.edition.pwm r ∙ first_asked_lem r (sym c.is_first.ensures ∙ c.if-is_first.true);
}

pub returns-then-is_sister : goal.returns-then-is_sister
returns-then-is_sister c = record {
  same = let r = whole c.args.parts in
      c.rest_in_range-then-is_sister.ensures
      ∙ ap (λ (fine : Bool). fine && label_in_range r.settings.left && label_in_range r.settings.right && text_in_range r.text && picture_in_range r.picture && frame_in_range r.frame) c.sister_small_in_range-fine.ensures.same
      ∙ small_and_arrays true r.edition.pwm r ∙ sister_asked_lem r (sym c.is_sister.ensures ∙ c.if-is_sister.true);
}

pub returns-else-is_sister : goal.returns-else-is_sister
returns-else-is_sister c = record {
  same = neither_refused (whole c.args.parts) (sym c.is_first.ensures ∙ c.if-is_first.false)
      (sym c.is_sister.ensures ∙ c.if-is_sister.false);
}
