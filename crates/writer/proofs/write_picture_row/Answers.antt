-- What write_picture_row hands back and leaves in the room. Assumes nothing.
use Rattle.std.proofs.Common.{arith, sym, ◌∙◌}
use Rattle.writer_ranges.specs.Fitting.{is_row}
use Rattle.command.specs.Order.{draw}
use Rattle.command.specs.Spell.{spelling}
use Rattle.writer.specs.Writing.{frame_of}
use Rattle.writer.specs.Laws.{row_told}
use Rattle.writer.proofs.Delivering.{refused, framed, delivered}
use Rattle.writer.proofs.write_picture_row.Goals as goal

pub add_row-requires : goal.add_row-requires
add_row-requires c =
    let told = row_told c.args.row c.args.columns.now (sym c.row_in_range.ensures.same ∙ c.if-row_in_range.true) in
    (omega (arith, c.opened.ensures.1), told.low, told.most)

pub returns-then-row_in_range : goal.returns-then-row_in_range
returns-then-row_in_range c =
    let body = spelling (draw c.args.row c.args.columns.now) in
    let w = delivered (is_row c.args.row c.args.columns.now) _ body c.args.room.now (sym c.row_in_range.ensures.same ∙ c.if-row_in_range.true) (framed body c.opened.ensures.0 c.add_row.ensures (omega arith)) (c.deliver.ensures.same, c.deliver.ensures.left) in
    record { same = w.0; left = w.1 }

pub returns-else-row_in_range : goal.returns-else-row_in_range
returns-else-row_in_range c =
    let w = refused (frame_of (spelling (draw c.args.row c.args.columns.now))) c.args.room.now (is_row c.args.row c.args.columns.now) (sym c.row_in_range.ensures.same ∙ c.if-row_in_range.false) in
    record { same = w.0; left = w.1 }
