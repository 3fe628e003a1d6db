-- What write_label hands back and leaves in the room. Assumes nothing.
use Rattle.std.proofs.Common.{arith, sym, ◌∙◌}
use Rattle.writer_ranges.specs.Fitting.{is_label}
use Rattle.command.specs.Order.{label}
use Rattle.command.specs.Spell.{spelling}
use Rattle.writer.specs.Writing.{frame_of}
use Rattle.writer.specs.Laws.{label_told}
use Rattle.writer.proofs.Delivering.{refused, framed, delivered}
use Rattle.writer.proofs.write_label.Goals as goal

pub add_label-requires : goal.add_label-requires
add_label-requires c =
    let few = (label_told c.args.codes.now (sym c.label_in_range.ensures.same ∙ c.if-label_in_range.true)).0 in
    (omega (arith, c.opened.ensures.1), omega arith)

pub returns-then-label_in_range : goal.returns-then-label_in_range
returns-then-label_in_range c =
    let body = spelling (label c.args.side c.args.codes.now) in
    let w = delivered (is_label c.args.codes.now) _ body c.args.room.now (sym c.label_in_range.ensures.same ∙ c.if-label_in_range.true) (framed body c.opened.ensures.0 c.add_label.ensures (omega arith)) (c.deliver.ensures.same, c.deliver.ensures.left) in
    record { same = w.0; left = w.1 }

pub returns-else-label_in_range : goal.returns-else-label_in_range
returns-else-label_in_range c =
    let w = refused (frame_of (spelling (label c.args.side c.args.codes.now))) c.args.room.now (is_label c.args.codes.now) (sym c.label_in_range.ensures.same ∙ c.if-label_in_range.false) in
    record { same = w.0; left = w.1 }
