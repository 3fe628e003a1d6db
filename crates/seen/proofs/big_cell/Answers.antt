-- `seen::big_cell` keeps its promise. Assumes nothing.
use Rattle.std.proofs.Common.{rules, arith, sym, ◌∙◌, get_or-drop}
use Rattle.std.specs.Prelude.{◌+◌, ◌≡◌, length}
use Rattle.record.specs.Range.{line_of}
use Rattle.seen.specs.Line.{small_in}
use Rattle.seen.specs.LineLaws.{line_length, small_fits, big_cell}
use Rattle.seen.proofs.big_cell.Goals as goal

pub bounds-cells-small : goal.bounds-cells-small
bounds-cells-small c = let told = c.args in
    let text = told.text.now in
    let full : length text ≡ 104 = search rules in
    let few = small_fits told.column (line_of text) (omega arith) (line_length text full) in
    omega (arith, c.small_count-small.ensures)

pub returns : goal.returns
returns c = let told = c.args in
    let line = line_of told.text.now in
    let small = small_in told.column line in
    let there : 80 + small + told.cell ≡ 80 + (small + told.cell) = omega arith in
    rw (c.small_count-small.ensures, there)
    (sym (get_or-drop 80 told.text.now (small + told.cell) 0) ∙ sym (big_cell told.column line told.cell (omega arith)))
