-- The last code of a line, and which codes of the large line are small and which are big. Assumes nothing.
use Rattle.std.specs.Prelude.{ℕ, zero, suc, ◌+◌, ◌*◌, ◌-◌, ◌≤◌, ◌<◌, ◌≡◌, refl, true, List, [], ◌∷◌, ◌++◌, leb, eqb, length, take, drop, get_or, replicate}
use Rattle.std.proofs.Common.{suc-ne-zero, arith, ap, sym, ◌∙◌, append-nil, length-append, length-drop, length-take-le, take-add, take_at, take-suc, drop_at, drop-drop, get_or-append-add, get_or-drop, get_or-take, ne_eqb, eqb-true, leb-true, leb-false}
use Rattle.std.proofs.Math.Nat.{sub-zero, zero-sub, suc-sub-suc}
use Rattle.std.proofs.lemmas.List.{length-replicate, replicate-append-replicate, get_or-replicate}
use Rattle.std.proofs.Math.ListN.{get_or-append}
use Rattle.std.proofs.Math.Seq.{slice, drop-nil, length-slice}
use Rattle.lists.specs.Codes.{blank}
use Rattle.lists.specs.Both.{both}
use Rattle.lists.specs.Tests.{by_test, either_way}
use Rattle.record.specs.Range.{large, row_end_of, row_in_range, line_of, in_range}
use Rattle.record.specs.Laws.{ranges}
use Rattle.record.specs.declared.Record.{Record}
use Rattle.seen.specs.Rows.{row_of}
use Rattle.seen.specs.Line.{after_last, codes_in, small_in, small_cells, big_cells}

-- The place after the last code that is not blank -----------------------------------------------------------------

-- It is no further than the line.
pub after_within : (line : List ℕ) → after_last line ≤ length line
unfolding after_last
after_within [] = omega arith
after_within (b ∷ more) =
    by_test (eqb (after_last more) 0)
    (λ e. by_test (eqb b blank) (λ k. rw (e, k) (omega arith)) (λ k. rw (e, k) (omega arith)))
    (λ n. rw n (omega (arith, after_within more)))

-- A last code that is not blank is the last.
pub last_written : (line : List ℕ) (b : ℕ) → (b ≡ blank → ⊥) → after_last (line ++ (b ∷ [])) ≡ suc (length line)
unfolding after_last
last_written [] b h = rw (ne_eqb b blank h)
last_written (a ∷ more) b h = rw (last_written more b h, ne_eqb (suc (length more)) 0 (suc-ne-zero (length more)))

-- A last code that is blank is as none.
pub last_blank : (line : List ℕ) → after_last (line ++ (blank ∷ [])) ≡ after_last line
unfolding after_last
last_blank [] = refl
last_blank (a ∷ more) = rw (last_blank more)

-- Without the first code it is one less; where it is 0 the first code is blank, and it is 0 without that too.
less_more : (b i : ℕ) (more : List ℕ) → after_last (b ∷ more) ≤ suc i → after_last more ≤ i
unfolding after_last
less_more b i more h =
    by_test (eqb (after_last more) 0) (λ e. omega (arith, eqb-true (after_last more) 0 e)) (λ n. omega (arith, rw n at h))

none_more : (b : ℕ) (more : List ℕ) → after_last (b ∷ more) ≤ 0 → (b ≡ blank) × (after_last more ≤ 0)
unfolding after_last
none_more b more h =
    by_test (eqb (after_last more) 0)
    (λ e. by_test (eqb b blank) (λ k. (eqb-true b blank k, omega (arith, eqb-true (after_last more) 0 e))) (λ k. absurd (omega (arith, rw (e, k) at h))))
    (λ n. absurd (omega (arith, rw n at h)))

-- Past it every code is blank.
pub blank_past : (line : List ℕ) (i : ℕ) → after_last line ≤ i → drop i line ≡ replicate (length line - i) blank
blank_past [] i h = rw (drop-nil, zero-sub)
blank_past (b ∷ more) zero h =
    let rest = none_more b more h in
    rw (rest.0, sub-zero) (ap (λ (l : List ℕ). blank ∷ l) (rw sub-zero at (blank_past more zero rest.1)))
blank_past (b ∷ more) (suc i) h = rw suc-sub-suc (blank_past more i (less_more b i more h))

-- Of the codes up to a place a last one that is blank can be cut off, and one that is not is the last.
pub cut_blank : (line : List ℕ) (i : ℕ) → i < length line → get_or line i 0 ≡ blank → after_last (take (suc i) line) ≡ after_last (take i line)
cut_blank line i h e = rw (take-suc line i 0 h, e) (last_blank (take i line))

pub cut_written : (line : List ℕ) (i : ℕ) → i < length line → (get_or line i 0 ≡ blank → ⊥) → after_last (take (suc i) line) ≡ suc i
cut_written line i h n = rw (take-suc line i 0 h) (last_written (take i line) (get_or line i 0) n ∙ ap suc (length-take-le i line (omega arith)))

-- Parts of the text -----------------------------------------------------------------------------------------------

-- The line of a text has 24 codes.
pub line_length : (text : List ℕ) → length text ≡ 104 → length (line_of text) ≡ 24
line_length text l = length-drop 80 text ∙ omega arith

-- Of a record in range the column is none past the line's end.
pub column_fits : (r : Record) → in_range r ≡ true → r.settings.screen.column ≤ 24
column_fits r ok =
    let s = r.settings.screen in
    let parts : (row_in_range s.mode s.row ≡ true) × (leb s.column (row_end_of s.mode) ≡ true) = both (ranges r ok).settings.screen.cursor in
    either_way (λ (end : ℕ). leb s.column end ≡ true → s.column ≤ 24) (eqb s.mode large)
    (λ e h. leb-true s.column 24 h) (λ e h. omega (arith, leb-true s.column 16 h)) parts.1

-- Place i of row n is place width * n + i of the field.
pub row_at : (width : ℕ) (cells : List ℕ) (n i : ℕ) → i < width → get_or (row_of width cells n) i 0 ≡ get_or cells (width * n + i) 0
row_at width cells n i h = get_or-drop (width * n) (take (width * n + width) cells) i 0 ∙ get_or-take (width * n + width) cells (width * n + i) 0 (omega arith)

-- So many codes from a place on.
pub from_place : (at n : ℕ) (cells : List ℕ) → at ≤ length cells → slice at (at + n) cells ≡ take n (drop at cells)
from_place at n cells h = rw take-add (drop_at (take at cells) (take n (drop at cells)) at (length-take-le at cells h))

-- A part that begins past a place, as a part of what stands from that place on.
pub further : (at f n : ℕ) (cells : List ℕ) → at ≤ length cells → slice (at + f) (at + f + n) cells ≡ slice f (f + n) (drop at cells)
further at f n cells h =
    let e : at + f + n ≡ at + (f + n) = omega arith in
    rw (e, ← drop-drop f at (take (at + (f + n)) cells)) (ap (drop f) (from_place at (f + n) cells h))

-- Equal codes with some left out are equal codes.
pub left_out : (m n b : ℕ) → m ≤ n → drop m (replicate n b) ≡ replicate (n - m) b
left_out m n b h =
    let e : n ≡ m + (n - m) = omega arith in
    ap (λ (k : ℕ). drop m (replicate k b)) e ∙ ap (drop m) (sym (replicate-append-replicate m (n - m) b))
    ∙ drop_at (replicate m b) (replicate (n - m) b) m (length-replicate m b)

-- The small and the big codes -------------------------------------------------------------------------------------

-- Every code past those that the line has is blank.
pub past_blank : (column : ℕ) (line : List ℕ) (i : ℕ) → codes_in column line ≤ i → i < length line → get_or line i 0 ≡ blank
past_blank column line i h k =
    let first : i + 0 ≡ i = omega arith in
    let rest : get_or (drop i line) 0 0 ≡ get_or line i 0 = get_or-drop i line 0 0 ∙ ap (λ (j : ℕ). get_or line j 0) first in
    sym rest ∙ ap (λ (l : List ℕ). get_or l 0 0) (blank_past line i (omega arith)) ∙ get_or-replicate (length line - i) 0 blank 0 (omega arith)

-- Of a line of 24 codes at most 16 are small.
pub small_fits : (column : ℕ) (line : List ℕ) → column ≤ 24 → length line ≡ 24 → small_in column line ≤ 16
small_fits column line h l = omega (arith, after_within line)

-- The small codes have 16 cells, the big ones 8.
pub small_cells_sixteen : (column : ℕ) (line : List ℕ) → column ≤ 24 → length line ≡ 24 → length (small_cells column line) ≡ 16
unfolding small_cells
small_cells_sixteen column line h l =
    let small : small_in column line ≤ 16 = small_fits column line h l in
    let there : small_in column line ≤ length line = omega arith in
    rw (length-append, length-take-le (small_in column line) line there, length-replicate) (omega arith)

pub big_cells_eight : (column : ℕ) (line : List ℕ) → column ≤ 24 → length line ≡ 24 → length (big_cells column line) ≡ 8
unfolding big_cells
big_cells_eight column line h l =
    let small : small_in column line ≤ 16 = small_fits column line h l in
    length-slice (small_in column line) (small_in column line + 8) line (omega arith) ∙ omega arith

-- A cell of the small codes holds a code of the line, or is blank.
pub small_cell : (column : ℕ) (line : List ℕ) (cell : ℕ) → column ≤ 24 → length line ≡ 24 → cell < small_in column line
    → get_or (small_cells column line) cell 0 ≡ get_or line cell 0
unfolding small_cells
small_cell column line cell h l k =
    let there : small_in column line ≤ length line = omega (arith, small_fits column line h l) in
    let full : length (take (small_in column line) line) ≡ small_in column line = length-take-le (small_in column line) line there in
    get_or-append (take (small_in column line) line) (replicate (16 - small_in column line) blank) 0 cell (omega arith)
    ∙ get_or-take (small_in column line) line cell 0 k

pub blank_cell : (column : ℕ) (line : List ℕ) (cell : ℕ) → column ≤ 24 → length line ≡ 24 → small_in column line ≤ cell → cell < 16
    → get_or (small_cells column line) cell 0 ≡ blank
unfolding small_cells
blank_cell column line cell h l k m =
    let there : small_in column line ≤ length line = omega (arith, small_fits column line h l) in
    let full : length (take (small_in column line) line) ≡ small_in column line = length-take-le (small_in column line) line there in
    let after : cell ≡ length (take (small_in column line) line) + (cell - small_in column line) = omega arith in
    rw after
    (get_or-append-add (take (small_in column line) line) (replicate (16 - small_in column line) blank) (cell - small_in column line) 0
    ∙ get_or-replicate (16 - small_in column line) (cell - small_in column line) blank 0 (omega arith))

-- A cell of the big codes holds a code of the line.
pub big_cell : (column : ℕ) (line : List ℕ) (cell : ℕ) → cell < 8 → get_or (big_cells column line) cell 0 ≡ get_or line (small_in column line + cell) 0
unfolding big_cells
big_cell column line cell h =
    get_or-drop (small_in column line) (take (small_in column line + 8) line) cell 0
    ∙ get_or-take (small_in column line + 8) line (small_in column line + cell) 0 (omega arith)

-- Past the last code there are eight blanks or fewer.
blank_fill : (line : List ℕ) (n : ℕ) → length line ≡ 24 → after_last line ≤ n → n ≤ 8 → take (8 - n) (drop n line) ≡ replicate (8 - n) blank
blank_fill line n l h k =
    let parts : length line - n ≡ 8 - n + 16 = omega arith in
    rw (blank_past line n h, parts, ← replicate-append-replicate (8 - n) 16 blank)
    (take_at (replicate (8 - n) blank) (replicate 16 blank) (8 - n) (length-replicate (8 - n) blank))

last_eight : (line : List ℕ) (n : ℕ) → length line ≡ 24 → after_last line ≤ n → slice (n - 8) (n - 8 + 8) line ≡ slice (n - 8) n line ++ replicate (8 - n) blank
last_eight line n l h =
    by_test (leb 8 n)
    (λ e.
    let m : 8 ≤ n = leb-true 8 n e in
    let whole : n - 8 + 8 ≡ n = omega arith in
    let none : 8 - n ≡ 0 = omega arith in
    rw (whole, none, append-nil))
    (λ e.
    let m : n < 8 = leb-false 8 n e in
    let first : n - 8 ≡ 0 = omega arith in
    let eight : 8 ≡ n + (8 - n) = omega arith in
    rw first (ap (λ (k : ℕ). take k line) eight ∙ take-add n (8 - n) line ∙ ap (λ (more : List ℕ). take n line ++ more) (blank_fill line n l h (omega arith))))

-- With n codes in the line the big ones are the last eight, or all n if they are fewer, and then blanks.
pub big_are_last : (column : ℕ) (line : List ℕ) → length line ≡ 24
    → big_cells column line ≡ slice (codes_in column line - 8) (codes_in column line) line ++ replicate (8 - codes_in column line) blank
unfolding big_cells
big_are_last column line l = last_eight line (codes_in column line) l (omega arith)
