-- The loop keeps: the items written so far, the open run and the columns that are left give the same data. Assumes nothing.
use Rattle.std.proofs.Common.{arith}
use Rattle.picture.specs.WriteLaws.{item_length}
use Rattle.picture_writer.proofs.Encoding.{nothing_written, too_many, opens, one_more, next_item, put, closes}
use Rattle.picture_writer.proofs.write_data.Goals as goal
use Rattle.picture_writer.proofs.write_data.Goals.{then-next-column, else-next-column}

pub returns-then-columns-gt-MOST_COLUMNS : goal.returns-then-columns-gt-MOST_COLUMNS
returns-then-columns-gt-MOST_COLUMNS c = record { same = too_many c.args.columns.now c.if-columns-gt-MOST_COLUMNS.true }

pub returns-in_default : goal.returns-in_default
returns-in_default c = record { same = nothing_written c.args.columns.now (omega (arith, c.in_default.len_below)) }

pub loop-next-init : goal.loop-next-init
loop-next-init c = opens c.args.columns.now c.in-len1-up.len_at_least

pub put_item-used-requires : goal.put_item-used-requires
put_item-used-requires c = put c.loop-next.invariant c.if-columns-gt-MOST_COLUMNS.false

pub loop-next-preserved : goal.loop-next-preserved
loop-next-preserved c = let e = c.loop-next.invariant in
    elim c.if-next-column.branch [
      | then-next-column w ↦ rw (w.bytes-is, w.used-is, w.column-is, w.count-is) (one_more e (omega (arith, c.loop-next-test.true)) w.if-next-column.true)
      | else-next-column w ↦
          rw (w.bytes-is, w.used-is, w.column-is, w.count-is, w.put_item-used.ensures.end, w.put_item-used.ensures.same)
          (next_item e c.if-columns-gt-MOST_COLUMNS.false (omega (arith, c.loop-next-test.true)) w.if-next-column.false)
    ]

pub put_item-end-requires : goal.put_item-end-requires
put_item-end-requires c = put c.loop-next.invariant c.if-columns-gt-MOST_COLUMNS.false

pub overflow_cast-result : goal.overflow_cast-result
overflow_cast-result c = let e = c.loop-next.invariant in
    omega (arith, c.put_item-end.ensures.end, item_length c.loop-next.count c.loop-next.column e.least, e.room, e.within, c.if-columns-gt-MOST_COLUMNS.false)

pub returns : goal.returns
returns c = record { same = closes c.loop-next.invariant c.if-columns-gt-MOST_COLUMNS.false (omega (arith, c.loop-next-test.false)) c.put_item-end.ensures.end c.put_item-end.ensures.same }
