-- Each reading of the frame gives its order, and the order its sign. Assumes nothing.
use Rattle.std.proofs.Common.{sym, ap, ◌∙◌}
use Rattle.command.proofs.Found.{drawn_order, read_order}
use Rattle.choice.specs.Signs.{frame_sign}
use Rattle.choice.proofs.Frames.{too_long, codes_behind}
use Rattle.choice.proofs.frame_sign.Goals as goal

pub returns-then-frame-gt-LONGEST_FRAME : goal.returns-then-frame-gt-LONGEST_FRAME
returns-then-frame-gt-LONGEST_FRAME c = record { same = sym (ap frame_sign (too_long c.args.frame.now c.if-frame-gt-LONGEST_FRAME.true)) }

pub returns-then-opens_picture : goal.returns-then-opens_picture
returns-then-opens_picture c = record {
  same =
      let frame = c.args.frame.now in
      c.picture_sign.ensures.same ∙ sym (ap frame_sign (drawn_order frame c.opens_picture.ensures.same c.if-opens_picture.true c.read_picture.ensures.same));
}

pub returns-in-None : goal.returns-in-None
returns-in-None c = record {
  same =
      let frame = c.args.frame.now in
      sym (ap frame_sign (read_order frame c.opens_picture.ensures.same c.if-opens_picture.false c.read_command.ensures.same c.in-None.is));
}

pub returns-in-Some-Plain : goal.returns-in-Some-Plain
returns-in-Some-Plain c = record {
  same =
      let frame = c.args.frame.now in
      c.command_sign.ensures.same
      ∙ sym (ap frame_sign (read_order frame c.opens_picture.ensures.same c.if-opens_picture.false c.read_command.ensures.same (rw c.in-Some-Plain.field-0-is at c.in-Some-Plain.is)));
}

pub returns-in-Some-Label : goal.returns-in-Some-Label
returns-in-Some-Label c = record {
  same =
      let frame = c.args.frame.now in
      (rw (codes_behind frame) at c.label_sign.ensures.same)
      ∙ sym (ap frame_sign (read_order frame c.opens_picture.ensures.same c.if-opens_picture.false c.read_command.ensures.same (rw c.in-Some-Label.field-0-is at c.in-Some-Label.is)));
}
