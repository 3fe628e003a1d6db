-- `seen::big_line` keeps its promise. Assumes nothing.
use Rattle.std.proofs.Common.{rules, arith, ap, ◌∙◌}
use Rattle.std.proofs.Math.Seq.{slice}
use Rattle.std.specs.Prelude.{ℕ, ◌+◌, ◌≡◌, List, ◌≤◌, ◌++◌, length, replicate}
use Rattle.lists.specs.Padded.{padded}
use Rattle.record.specs.Range.{line_of}
use Rattle.seen.specs.Line.{small_in, big_cells}
use Rattle.seen.specs.LineLaws.{line_length, further, small_fits, big_cells_eight}
use Rattle.seen.proofs.big_line.Goals as goal

-- Eight codes of the line from the first big one on, and zeros after them.
done : (text filled : List ℕ) (column small : ℕ) → column ≤ 24 → length text ≡ 104 → small ≡ small_in column (line_of text)
    → filled ≡ slice (80 + small) (80 + small + 8) text
    → filled ++ replicate 8 0 ≡ padded 16 (big_cells column (line_of text))
unfolding padded big_cells
done text filled column small h l e f =
    let eight : length (big_cells column (line_of text)) ≡ 8 = big_cells_eight column (line_of text) h (line_length text l) in
    let big : filled ≡ big_cells column (line_of text) = f ∙ further 80 small 8 text (omega arith) ∙ ap (λ (n : ℕ). slice n (n + 8) (line_of text)) e in
    rw (eight, big)

pub fill-requires : goal.fill-requires
fill-requires c = let told = c.args in
    let text = told.text.now in
    let full : length text ≡ 104 = search rules in
    omega (arith, c.small_count-small.ensures, small_fits told.column (line_of text) (omega arith) (line_length text full))

pub returns : goal.returns
returns c = let told = c.args in
    let text = told.text.now in
    let full : length text ≡ 104 = search rules in
    let count = c.small_count-small in
    done text c.fill.new.to told.column count.result (omega arith) full count.ensures c.fill.ensures
