-- Each reading of the frame gives its order, and the order its verdict. Assumes nothing.
use Rattle.std.proofs.Common.{◌≡◌, refl, sym, ap, ◌∙◌, List, ℕ}
use Rattle.std.proofs.Math.Option.{Option}
use Rattle.command.specs.Order.{Order}
use Rattle.command.specs.Reading.{order_of}
use Rattle.command.proofs.Found.{drawn_order, read_order}
use Rattle.verdict.specs.declared.Verdict.{Verdict}
use Rattle.verdict.specs.Verdict.{by_order, verdict_of}
use Rattle.verdict.proofs.judge.Goals as goal

-- the verdict by what was found
judged : (mode : ℕ) (frame : List ℕ) {found : Option Order} {v : Verdict} → order_of frame ≡ found → v ≡ by_order mode found → v ≡ verdict_of mode frame
unfolding verdict_of
judged mode frame e h = h ∙ ap (by_order mode) (sym e)

pub returns-then-opens_picture : goal.returns-then-opens_picture
returns-then-opens_picture c = record {
  same =
      judged c.args.mode c.args.frame.now
      (drawn_order c.args.frame.now c.opens_picture.ensures.same c.if-opens_picture.true c.read_picture.ensures.same)
      (c.of_picture.ensures.same c.args.mode);
}

pub returns-in-None : goal.returns-in-None
returns-in-None c = record {
  same =
      judged c.args.mode c.args.frame.now
      (read_order c.args.frame.now c.opens_picture.ensures.same c.if-opens_picture.false c.read_command.ensures.same c.in-None.is)
      refl;
}

pub returns-in-Some-Plain : goal.returns-in-Some-Plain
returns-in-Some-Plain c = record {
  same =
      judged c.args.mode c.args.frame.now
      (read_order c.args.frame.now c.opens_picture.ensures.same c.if-opens_picture.false c.read_command.ensures.same (rw c.in-Some-Plain.field-0-is at c.in-Some-Plain.is))
      (c.by_number.ensures.same ∙ rw (c.number_out.ensures.same, c.rows_named-rows.ensures.same));
}

pub returns-in-Some-Label : goal.returns-in-Some-Label
returns-in-Some-Label c = record {
  same =
      judged c.args.mode c.args.frame.now
      (read_order c.args.frame.now c.opens_picture.ensures.same c.if-opens_picture.false c.read_command.ensures.same (rw c.in-Some-Label.field-0-is at c.in-Some-Label.is))
      refl;
}
