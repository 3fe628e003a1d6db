-- `seen::small_line` keeps its promise. Assumes nothing.
use Rattle.std.proofs.Common.{rules, arith, sym, ◌∙◌, length-take-le}
use Rattle.std.proofs.Math.Seq.{slice}
use Rattle.std.specs.Prelude.{ℕ, ◌+◌, ◌≡◌, List, ◌≤◌, ◌++◌, length, take, replicate, drop}
use Rattle.lists.specs.Codes.{blank}
use Rattle.record.specs.Range.{line_of}
use Rattle.seen.specs.Line.{small_in, small_cells}
use Rattle.seen.specs.LineLaws.{line_length, from_place, left_out, small_fits}
use Rattle.seen.proofs.small_line.Goals as goal

-- as many of 16 blanks as codes are small
counted : (small : ℕ) → small ≤ 16 → length (take small (replicate 16 blank)) ≡ small
counted small h = length-take-le small (replicate 16 blank) h

-- The first codes of the line, and blanks after them.
done : (text filled : List ℕ) (column small : ℕ) → column ≤ 24 → length text ≡ 104 → small ≡ small_in column (line_of text)
    → filled ≡ slice 80 (80 + length (take small (replicate 16 blank))) text
    → filled ++ drop small (replicate 16 blank) ≡ small_cells column (line_of text)
unfolding small_cells
done text filled column small h l e f =
    let few : small ≤ 16 = omega (arith, small_fits column (line_of text) h (line_length text l)) in
    let first : filled ≡ take small (line_of text) = f ∙ rw (counted small few) (from_place 80 small text (omega arith)) in
    rw (first, left_out small 16 blank few, e)

pub slice_bounds-codes-end : goal.slice_bounds-codes-end
slice_bounds-codes-end c = let told = c.args in
    let text = told.text.now in
    let full : length text ≡ 104 = search rules in
    omega (arith, c.small_count-small.ensures, small_fits told.column (line_of text) (omega arith) (line_length text full))

pub slice_bounds-fill-end : goal.slice_bounds-fill-end
slice_bounds-fill-end c = let told = c.args in
    let text = told.text.now in
    let full : length text ≡ 104 = search rules in
    sym (counted c.small_count-small.result (omega (arith, c.small_count-small.ensures, small_fits told.column (line_of text) (omega arith) (line_length text full))))

pub returns : goal.returns
returns c = let told = c.args in
    let text = told.text.now in
    let full : length text ≡ 104 = search rules in
    let count = c.small_count-small in
    done text c.fill.new.to told.column count.result (omega arith) full count.ensures c.fill.ensures
