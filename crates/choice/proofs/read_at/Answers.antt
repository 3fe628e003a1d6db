-- The sign of the part that stands there, by its kind. Assumes nothing.
use Rattle.std.proofs.Common.{ℕ, List, ap, ◌∙◌, Some}
use Rattle.command.specs.Reading.{order_of}
use Rattle.choice.specs.declared.Sign.{Sign}
use Rattle.choice.specs.Signs.{frame_sign}
use Rattle.choice.proofs.Steps.{read_there, none_there, part_lent, in_stream}
use Rattle.choice.proofs.read_at.Goals as goal

pub returns-in_err-part : goal.returns-in_err-part
returns-in_err-part c = record { same = c.from_residual.ensures ∙ none_there c.args.bytes.now c.args.place c.in_err-part.ensures.same }

pub slice_bounds-frame_sign-count : goal.slice_bounds-frame_sign-count
slice_bounds-frame_sign-count c = (in_stream c.args.bytes.now c.args.place c.in_ok-part.ensures.same).in_order

pub slice_bounds-frame_sign-start : goal.slice_bounds-frame_sign-start
slice_bounds-frame_sign-start c = (in_stream c.args.bytes.now c.args.place c.in_ok-part.ensures.same).in_order

pub slice_bounds-frame_sign-end : goal.slice_bounds-frame_sign-end
slice_bounds-frame_sign-end c = (in_stream c.args.bytes.now c.args.place c.in_ok-part.ensures.same).within

pub returns-in-Text : goal.returns-in-Text
returns-in-Text c = record { same = read_there c.args.bytes.now c.args.place c.in_ok-part.ensures.same c.in-Text.is }

pub returns-in-Skipped : goal.returns-in-Skipped
returns-in-Skipped c = record { same = read_there c.args.bytes.now c.args.place c.in_ok-part.ensures.same c.in-Skipped.is }

pub returns-in-Closed : goal.returns-in-Closed
returns-in-Closed c = record {
  same =
      let part = c.in_ok-part.part in
      let lies = in_stream c.args.bytes.now c.args.place c.in_ok-part.ensures.same in
      let sign = c.frame_sign-sign.ensures.same ∙ ap (λ (body : List ℕ). frame_sign (order_of body)) (part_lent part.body part.body_end c.args.bytes.now lies.in_order lies.within) in
      ap (λ (s : Sign). Some (s, part.end)) sign ∙ read_there c.args.bytes.now c.args.place c.in_ok-part.ensures.same c.in-Closed.is;
}

pub returns-in-Abandoned : goal.returns-in-Abandoned
returns-in-Abandoned c = record { same = read_there c.args.bytes.now c.args.place c.in_ok-part.ensures.same c.in-Abandoned.is }

pub returns-in-Tail : goal.returns-in-Tail
returns-in-Tail c = record { same = read_there c.args.bytes.now c.args.place c.in_ok-part.ensures.same c.in-Tail.is }
