-- What follows from the table alone, on every screen: who a row's owner can be, the owners of a row and of its columns, that an owner
-- names a row that the record has. Assumes nothing.
use Rattle.std.specs.Prelude.{ℕ, ◌-◌, ◌≤◌, ◌<◌, ◌≡◌, refl, true, false, cond, ◌&&◌, leb, eqb}
use Prim.Native.Char.{code}
use Rattle.std.proofs.Common.{arith, sym, ap, true≢false, leb-true, lt-ltb}
use Rattle.std.proofs.Math.Bool.{and-false}
use Rattle.lists.specs.Tests.{either_way}
use Rattle.lists.specs.Both.{both}
use Rattle.record.specs.declared.Screen.{Screen}
use Rattle.seen_owners.specs.declared.Owner.{Owner}
use Rattle.seen_owners.specs.declared.Owner.TheVariants.{Nothing, IconBar, TextRow, PictureRow, SoftKeys, SmallLine, BigLine, PictureWithRocker}
use Rattle.seen_owners.specs.Table.{mode_line, line_of, letter_at, by_letter, owner_of_row, is_rocker, owner_in, owner_on, is_two, two_owners, is_line, placed, last_row}

pub between : (low high n : ℕ) → (leb low n && leb n high) ≡ true → (low ≤ n) × (n ≤ high)
between low high n e =
    let ends : (leb low n ≡ true) × (leb n high ≡ true) = both e in (leb-true low n ends.0, leb-true n high ends.1)

-- Each line is one of the table's.
pub mode_line_fits : (mode : ℕ) → mode_line mode < 12
unfolding mode_line
mode_line_fits mode = either_way (λ (n : ℕ). n < 12) (leb mode 1) (λ _. omega arith) (λ _. either_way (λ (n : ℕ). n < 12) (eqb mode 10) (λ _. omega arith) (λ _. omega arith))

pub line_fits : (overlay mode : ℕ) → line_of overlay mode < 12
unfolding line_of
line_fits overlay mode =
    let P : ℕ → Type 0 = λ n. n < 12 in
    either_way P (eqb overlay 0) (λ _. mode_line_fits mode)
    (λ _. either_way P (leb 11 overlay && leb overlay 18)
    (λ e. omega (arith, (between 11 18 overlay e).1))
    (λ _. omega arith))

-- What holds of each owner that a row can have, holds of the one that it has.
pub each_owner : (P : Owner → Type 0) (s : Screen) (row : ℕ) → P Nothing → P IconBar → ((n : ℕ) → n < 5 → P (TextRow n)) → (row < 7 → P (PictureRow row)) → P SoftKeys
    → P SmallLine → ((half : ℕ) → P (BigLine half)) → (row < 7 → P (PictureWithRocker row)) → P (owner_of_row s row)
unfolding owner_of_row by_letter
each_owner P s row nothing bar text picture keys small big rocker =
    let letter = letter_at s.overlay s.mode row in
    either_way P (s.display && leb row last_row)
    (λ here.
    let within : row < 7 = let ends : (s.display ≡ true) × (leb row last_row ≡ true) = both here in omega (arith, leb-true row last_row ends.1) in
    either_way P (leb (code "0") letter && leb letter (code "4"))
    (λ e. text (letter - code "0") (omega (arith, (between (code "0") (code "4") letter e).1)))
    (λ _. either_way P (eqb letter (code "B")) (λ _. bar)
    (λ _. either_way P (eqb letter (code "S")) (λ _. small)
    (λ _. either_way P (eqb letter (code "U")) (λ _. big 0)
    (λ _. either_way P (eqb letter (code "L")) (λ _. big 1)
    (λ _. either_way P (eqb letter (code "P")) (λ _. picture within)
    (λ _. either_way P (eqb letter (code "K")) (λ _. keys)
    (λ _. either_way P (eqb letter (code "R")) (λ _. rocker within) (λ _. nothing)))))))))
    (λ _. nothing)

-- With the display off no row has an owner, nor has one above the last.
pub off_nothing : (s : Screen) (row : ℕ) → s.display ≡ false → owner_of_row s row ≡ Nothing
unfolding owner_of_row
off_nothing s row off = rw off

pub above_nothing : (s : Screen) (row : ℕ) → leb row last_row ≡ false → owner_of_row s row ≡ Nothing
unfolding owner_of_row
above_nothing s row above = rw (above, and-false)

-- The owner of a row names a row that the record has,
pub row_owner_placed : (s : Screen) (row : ℕ) → placed (owner_of_row s row) ≡ true
row_owner_placed s row = each_owner (λ (o : Owner). placed o ≡ true) s row refl refl (λ n h. lt-ltb n 5 h) (λ h. lt-ltb row 7 h) refl refl (λ _. refl) (λ h. lt-ltb row 7 h)

-- and so does that of each of its columns.
column_placed : (o : Owner) (column : ℕ) → placed o ≡ true → placed (owner_in o column) ≡ true
column_placed Nothing column h = h
column_placed IconBar column h = h
column_placed (TextRow n) column h = h
column_placed (PictureRow n) column h = h
column_placed SoftKeys column h = h
column_placed SmallLine column h = h
column_placed (BigLine half) column h = h
column_placed (PictureWithRocker n) column h = either_way (λ (o : Owner). placed o ≡ true) (is_rocker column) (λ _. refl) (λ _. h)

pub owner_placed : (s : Screen) (row column : ℕ) → placed (owner_on s row column) ≡ true
owner_placed s row column = column_placed (owner_of_row s row) column (row_owner_placed s row)

-- Every column of a row has the row's owner, unless that is two.
whole_row : (o : Owner) (column : ℕ) → is_two o ≡ false → owner_in o column ≡ o
whole_row Nothing column one = refl
whole_row IconBar column one = refl
whole_row (TextRow n) column one = refl
whole_row (PictureRow n) column one = refl
whole_row SoftKeys column one = refl
whole_row SmallLine column one = refl
whole_row (BigLine half) column one = refl
whole_row (PictureWithRocker n) column one = absurd (true≢false one)

pub one_owner : (s : Screen) (row column : ℕ) → two_owners s row ≡ false → owner_on s row column ≡ owner_of_row s row
one_owner s row column one = whole_row (owner_of_row s row) column one

not_two : {A : Type 0} → false ≡ true → A
not_two e = absurd (true≢false (sym e))

-- A row of two owners is told as that, and each of its columns has one: the soft keys in the rocker panel, else the picture.
pub two_owners_lem : (s : Screen) (row : ℕ) → two_owners s row ≡ true
    → (owner_of_row s row ≡ PictureWithRocker row) × ((column : ℕ) → owner_on s row column ≡ cond (is_rocker column) SoftKeys (PictureRow row))
two_owners_lem s row two =
    let told : owner_of_row s row ≡ PictureWithRocker row = each_owner (λ (o : Owner). is_two o ≡ true → o ≡ PictureWithRocker row) s row not_two not_two (λ _ _. not_two) (λ _. not_two) not_two not_two (λ _. not_two) (λ _ _. refl) two in
    (told, λ column. ap (λ (o : Owner). owner_in o column) told)

-- No place has two owners.
one_place : (o : Owner) (column place : ℕ) → owner_in (owner_in o column) place ≡ owner_in o column
one_place Nothing column place = refl
one_place IconBar column place = refl
one_place (TextRow n) column place = refl
one_place (PictureRow n) column place = refl
one_place SoftKeys column place = refl
one_place SmallLine column place = refl
one_place (BigLine half) column place = refl
one_place (PictureWithRocker n) column place = either_way (λ (o : Owner). owner_in o place ≡ o) (is_rocker column) (λ _. refl) (λ _. refl)

pub no_place_has_two : (s : Screen) (row column place : ℕ) → owner_in (owner_on s row column) place ≡ owner_on s row column
no_place_has_two s row column place = one_place (owner_of_row s row) column place

-- A column shows the large line only where its row does.
pub line_of_row : (o : Owner) (column : ℕ) → is_line (owner_in o column) ≡ true → is_line o ≡ true
line_of_row Nothing column h = h
line_of_row IconBar column h = h
line_of_row (TextRow n) column h = h
line_of_row (PictureRow n) column h = h
line_of_row SoftKeys column h = h
line_of_row SmallLine column h = h
line_of_row (BigLine half) column h = h
line_of_row (PictureWithRocker n) column h = either_way (λ (o : Owner). is_line o ≡ true → false ≡ true) (is_rocker column) (λ _ e. e) (λ _ e. e) h
