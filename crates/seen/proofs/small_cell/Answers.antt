-- `seen::small_cell` keeps its promise. Assumes nothing.
use Rattle.std.proofs.Common.{rules, arith, sym, ◌∙◌, get_or-drop}
use Rattle.std.specs.Prelude.{◌≡◌, length}
use Rattle.record.specs.Range.{line_of}
use Rattle.seen.specs.LineLaws.{line_length, small_cell, blank_cell}
use Rattle.seen.proofs.small_cell.Goals as goal

pub returns-then-cell-small_count : goal.returns-then-cell-small_count
returns-then-cell-small_count c = let told = c.args in
    let text = told.text.now in
    let full : length text ≡ 104 = search rules in
    sym (get_or-drop 80 text told.cell 0)
    ∙ sym (small_cell told.column (line_of text) told.cell (omega arith) (line_length text full) (omega (arith, c.small_count.ensures)))

pub returns-else-cell-small_count : goal.returns-else-cell-small_count
returns-else-cell-small_count c = let told = c.args in
    let text = told.text.now in
    let full : length text ≡ 104 = search rules in
    sym (blank_cell told.column (line_of text) told.cell (omega arith) (line_length text full) (omega (arith, c.small_count.ensures)) (omega arith))
