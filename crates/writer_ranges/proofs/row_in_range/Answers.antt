-- All columns of row 6 pass. Assumes nothing.
use Rattle.std.proofs.Common.{rules, arith, sym, ◌∙◌, ◌≡◌, le-leb, tests}
use Rattle.std.proofs.lemmas.Iterator.{YieldsList-from_slice}
use Rattle.std.proofs.lemmas.Iterator.Search.{all_from_yields_List}
use Rattle.std.specs.Prelude.{length}
use Rattle.lists.specs.Every.{every_all}
use Rattle.record.specs.Range.{is_low_column}
use Rattle.writer_ranges.specs.Fitting.{is_row}
use Rattle.writer_ranges.proofs.row_in_range.Goals as goal

pub returns-else-row-lt-LAST_ROW : goal.returns-else-row-lt-LAST_ROW
unfolding is_row
returns-else-row-lt-LAST_ROW c = let columns = c.args.columns.now in
    let low = c.if-row-le-LAST_ROW.true in
    let last : c.args.row ≡ 6 = omega arith in
    record {
      same = rw (last, le-leb 1 (length columns) low.0, le-leb (length columns) 96 low.1)
          (all_from_yields_List is_low_column _ _ c.all.result c.all.ensures.ran (YieldsList-from_slice columns cc) (λ x b q k. search (rules, tests)) ∙ sym (every_all is_low_column columns));
    }
