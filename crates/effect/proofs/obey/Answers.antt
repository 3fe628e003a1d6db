-- Each reading of the frame gives its order, and what was done carries it out. Assumes nothing.
use Rattle.std.proofs.Common.{sym, subst, ◌∙◌}
use Rattle.std.specs.Prelude.{refl, Option, IfSome}
use Rattle.command.specs.declared.PictureFrame.{PictureFrame}
use Rattle.command.specs.Found.{Fits}
use Rattle.effect.specs.Effect.{carry_out}
use Rattle.command.proofs.Found.{read_found, drawn_found, label_found, picture_fits}
use Rattle.sister_command.proofs.Own.{label_in_edition}
use Rattle.sister_command.specs.Reading.{read_in}
use Rattle.effect.specs.Obey.{core}
use Rattle.effect.proofs.Orders.{obeys, row_drawn}
use Rattle.effect.proofs.obey.Goals as goal

pub draw-requires : goal.draw-requires
unfolding carry_out
draw-requires c = (subst (λ (p : Option PictureFrame). IfSome p Fits) (sym c.read_picture.ensures.same ∙ c.in-Some.is) (picture_fits c.args.frame.now)).few_columns

pub returns-then-opens_picture : goal.returns-then-opens_picture
unfolding carry_out
returns-then-opens_picture c = record {
  obeys = let a = c.args in
      λ e. obeys
      (drawn_found a.frame.now c.opens_picture.ensures.same (read_in a.sister a.class.now a.next.now a.frame.now) c.if-opens_picture.true (sym c.in-Some.is ∙ c.read_picture.ensures.same))
      refl
      (row_drawn (core a.settings a.text.now a.picture.now e) _ c.in-Some.drawn.row _ c.draw.ensures.same);
}

pub obey_label-requires : goal.obey_label-requires
unfolding carry_out
obey_label-requires c = (label_found c.args.frame.now (label_in_edition c.args.sister c.args.class.now c.args.next.now c.args.frame.now (sym c.read_in.ensures.same ∙ (rw c.in-Some-Label.field-0-is at c.in-Some-Label.is)))).codes.most

pub returns-in-Some-Label : goal.returns-in-Some-Label
unfolding carry_out
returns-in-Some-Label c = record {
  obeys = λ e. obeys (read_found c.args.frame.now c.opens_picture.ensures.same c.if-opens_picture.false c.read_in.ensures.same (rw c.in-Some-Label.field-0-is at c.in-Some-Label.is)) refl (c.obey_label.ensures.same c.args.text.now c.args.picture.now e);
}
