-- The row question and the column question agree: what a column shows is what its row has there. Assumes nothing.
use Rattle.std.specs.Prelude.{ℕ, zero, suc, ◌+◌, ◌-◌, ◌≤◌, ◌<◌, ◌≡◌, refl, true, false, List, [], ◌∷◌, ◌++◌, leb, ltb, length, get_or, take, drop, replicate, Result, Ok}
use Rattle.std.proofs.Common.{arith, sym, ap, ◌∙◌, append-nil, length-append, drop_of_length-le, take_all, length-take-le, get_or-take, get_or-drop, get_or-append-add, ltb-true, ltb-false, leb-true, le-leb, le-ltb}
use Rattle.std.proofs.lemmas.List.{length-replicate}
use Rattle.std.proofs.Math.ListN.{get_or-append}
use Rattle.lists.specs.Tests.{by_test}
use Rattle.lists.specs.Both.{both}
use Rattle.lists.specs.Padded.{padded}
use Rattle.record.specs.Range.{in_range}
use Rattle.record.specs.declared.Record.{Record}
use Rattle.record.specs.declared.Refusal.{Refusal}
use Rattle.seen_panels.specs.declared.Phase.{Phase}
use Rattle.seen_owners.specs.declared.Owner.{Owner}
use Rattle.seen_owners.specs.declared.Owner.TheVariants.{Nothing, IconBar, TextRow, PictureRow, SoftKeys, SmallLine, BigLine, PictureWithRocker}
use Rattle.seen.specs.declared.Shown.TheVariants as Shows
use Rattle.seen.specs.declared.Labels.{Labels}
use Rattle.seen.specs.declared.Row.{Row}
use Rattle.seen_owners.specs.Table.{last_row, last_column, is_rocker, owner_in, two_owners, row_owner}
use Rattle.seen_owners.specs.Laws.{one_owner}
use Rattle.seen.specs.Line.{big_line}
use Rattle.seen.specs.Rows.{picture_row, around_rocker, contents, row_seen, row_told}
use Rattle.seen.specs.Columns.{big_cell, soft_key_at, shown_at, place_of, column_seen, column_told, column_of, column_read}
use Rattle.seen.specs.Laws.{seen_row, seen_column, contents_told}

-- Zeros after a list change no place of it, since a place past its end is read as zero too.
zeros : (k i : ℕ) → get_or {A = ℕ} (replicate k 0) i 0 ≡ 0
zeros zero i = refl
zeros (suc k) zero = refl
zeros (suc k) (suc i) = zeros k i

zeros_after : (xs : List ℕ) (k i : ℕ) → get_or (xs ++ replicate k 0) i 0 ≡ get_or xs i 0
zeros_after [] k i = zeros k i
zeros_after (x ∷ xs) k zero = refl
zeros_after (x ∷ xs) k (suc i) = zeros_after xs k i

-- Outside the rocker panel a picture row with the rocker is the picture row.
outside_rocker : (l : List ℕ) (i : ℕ) → is_rocker i ≡ false → get_or (around_rocker l) i 0 ≡ get_or l i 0
outside_rocker l i out =
    by_test (ltb (length l) 42)
    (λ short. rw (take_all 42 l (omega (arith, ltb-true (length l) 42 short)), drop_of_length-le l {i = 54} (omega (arith, ltb-true (length l) 42 short)), append-nil) (zeros_after l 12 i))
    (λ long.
    let left : length (take 42 l) ≡ 42 = length-take-le 42 l (ltb-false (length l) 42 long) in
    let half : length (take 42 l ++ replicate 12 0) ≡ 54 = rw (length-append, length-replicate, left) in
    by_test (ltb i 42)
    (λ before.
    let h : i < 42 = ltb-true i 42 before in
    get_or-append (take 42 l ++ replicate 12 0) (drop 54 l) 0 i (omega arith) ∙ get_or-append (take 42 l) (replicate 12 0) 0 i (omega arith) ∙ get_or-take 42 l i 0 h)
    (λ from.
    let past : 54 ≤ i = ltb-false i 54 (rw (le-leb 42 i (ltb-false i 42 from)) at out) in
    let e : length (take 42 l ++ replicate 12 0) + (i - 54) ≡ i = omega arith in
    let e' : 54 + (i - 54) ≡ i = omega arith in
    rw e at (get_or-append-add (take 42 l ++ replicate 12 0) (drop 54 l) (i - 54) 0) ∙ get_or-drop 54 l (i - 54) 0 ∙ ap (λ (n : ℕ). get_or l n 0) e'))

-- In the rocker panel the soft keys show icon W.
inside_rocker : (l : Labels) (column : ℕ) → is_rocker column ≡ true → soft_key_at l column ≡ Shows.Rocker l.w
unfolding soft_key_at
inside_rocker l column inside =
    let ends : (leb 42 column ≡ true) × (ltb column 54 ≡ true) = both inside in
    rw (le-ltb column 42 (leb-true 42 column ends.0), ends.1)

-- Of every owner of a row: what the row tells of a column is what the column's own owner shows there.
place_in_row : (r : Record) (phase : Phase) (column : ℕ) (o : Owner) → place_of r phase column (owner_in o column) ≡ column_of (contents r phase o) column
unfolding contents shown_at padded
place_in_row r phase column Nothing = refl
place_in_row r phase column IconBar = refl
place_in_row r phase column (TextRow n) = refl
place_in_row r phase column (PictureRow n) = refl
place_in_row r phase column SoftKeys = refl
place_in_row r phase column SmallLine = refl
place_in_row r phase column (BigLine half) = rw (zeros_after (big_line r) _ (big_cell column))
place_in_row r phase column (PictureWithRocker n) =
    by_test (is_rocker column)
    (λ inside. rw (inside, inside_rocker _ column inside))
    (λ outside. rw (outside, outside_rocker (picture_row r n) column outside))

-- The column question tells what the row question has at that column: the number, the owner, what stands there, and the bar. Where a
-- row has one owner it is each column's; where it has two each column has its own.
pub columns_agree : (r : Record) (row column : ℕ) (phase : Phase) → in_range r ≡ true → row ≤ last_row → column ≤ last_column
    → column_seen r row column phase ≡ column_read (row_seen r row phase) column
columns_agree r row column phase ok h k =
    seen_column r row column phase ok h k
    ∙ ap Ok (place_in_row r phase column (row_owner r row))
    ∙ ap (λ (q : Result Row Refusal). column_read q column) (sym (seen_row r row phase ok h))

-- Where a row's columns have one owner the row question names it.
pub row_names_owner : (r : Record) (row column : ℕ) (phase : Phase) → in_range r ≡ true → row ≤ last_row → column ≤ last_column → two_owners r.settings.screen row ≡ false
    → (column_told (column_seen r row column phase)).owner ≡ (row_told (row_seen r row phase)).owner
row_names_owner r row column phase ok h k one =
    rw (seen_column r row column phase ok h k, seen_row r row phase ok h, (contents_told r phase (row_owner r row)).1) (one_owner r.settings.screen row column one)
