-- THE SENTENCES OF THE PAPER about who owns a place, each by itself, and that the table says the same of every screen in range: at each
-- place at most one of them claims it, and its owner is the one that does. Assumes nothing.
use Rattle.std.specs.Prelude.{ℕ, ◌-◌, ◌≤◌, ◌≡◌, refl, Bool, true, false, not, cond, ◌&&◌, ◌||◌, List, [], ◌∷◌, ◌++◌, map, leb, eqb, length, get_or}
use Rattle.std.proofs.Common.{arith, sym, ap, ◌∙◌, subst, true≢false, leb-true, eqb-true}
use Rattle.lists.specs.Every.{every}
use Rattle.lists.specs.Tests.{by_test, either_way}
use Rattle.lists.specs.Both.{and_both}
use Rattle.record.specs.Laws.{ranges}
use Rattle.record.specs.Range.{in_range, large}
use Rattle.record.specs.With.{with_display, with_mode, with_overlay}
use Rattle.record.specs.declared.Record.{Record}
use Rattle.record.specs.declared.Screen.{Screen}
use Rattle.seen_owners.specs.declared.Owner.{Owner}
use Rattle.seen_owners.specs.declared.Owner.TheVariants.{Nothing, IconBar, TextRow, PictureRow, SoftKeys, SmallLine, BigLine, PictureWithRocker}
use Rattle.seen_owners.specs.Table.{letter_in, mode_line, line_of, letter_at, by_letter, owner_of_row, row_owner, is_rocker, owner_in, owner_on, owner_at, two_owners, is_line}
use Rattle.seen_owners.specs.Laws.{off_nothing, above_nothing, line_of_row}
use Rattle.seen_owners.specs.Tests.{each_mode, each_overlay, each_row}

-- the rows that an overlay's picture has: 11: rows 1-4; 12: 0-4; 13: 0-6; 14: 1-6; 15: 0-6; 16: 1, 2; 17: 3, 4; 18: 5, 6
abbrev pub covers : ℕ → ℕ → Bool
covers overlay row =
    (eqb overlay 11 && leb 1 row && leb row 4)
    || (eqb overlay 12 && leb row 4)
    || (eqb overlay 13 && leb row 6)
    || (eqb overlay 14 && leb 1 row && leb row 6)
    || (eqb overlay 15 && leb row 6)
    || (eqb overlay 16 && leb 1 row && leb row 2)
    || (eqb overlay 17 && leb 3 row && leb row 4)
    || (eqb overlay 18 && leb 5 row && leb row 6)

-- in row 5 overlays 14, 15 and 18 cover all but the rocker panel
abbrev pub leaves_rocker : ℕ → ℕ → Bool
leaves_rocker overlay row = eqb row 5 && (eqb overlay 14 || eqb overlay 15 || eqb overlay 18)

unfoldable pub covered : Screen → ℕ → ℕ → Bool
covered s row column = covers s.overlay row && not (leaves_rocker s.overlay row && is_rocker column)

-- row 0 shows the icon bar under overlays 11, 14, 16, 17 and 18 in every mode, and with no overlay in modes 0, 1 and 10
unfoldable pub under_bar : Screen → ℕ → Bool
under_bar s row =
    eqb row 0
    && (eqb s.overlay 11 || eqb s.overlay 14 || eqb s.overlay 16 || eqb s.overlay 17 || eqb s.overlay 18
    || (eqb s.overlay 0 && (leb s.mode 1 || eqb s.mode large)))

-- row 5 shows the soft keys, the labels and icon W, with no overlay and under 11, 12, 16 and 17; under 14, 15 and 18 the rocker panel
unfoldable pub under_labels : Screen → ℕ → ℕ → Bool
under_labels s row column =
    eqb row 5
    && (eqb s.overlay 0 || eqb s.overlay 11 || eqb s.overlay 12 || eqb s.overlay 16 || eqb s.overlay 17
    || (leaves_rocker s.overlay row && is_rocker column))

-- the rows that are of the text mode: 0-4 with no overlay; 3, 4 under 16; 1, 2 under 17; 1-4 under 18
abbrev pub of_text_mode : ℕ → ℕ → Bool
of_text_mode overlay row =
    (eqb overlay 0 && leb row 4)
    || (eqb overlay 16 && leb 3 row && leb row 4)
    || (eqb overlay 17 && leb 1 row && leb row 2)
    || (eqb overlay 18 && leb 1 row && leb row 4)

-- text row 0 stands at row 1 in modes 0 and 1, at row 0 in 5 and 6
abbrev pub first_text_row : ℕ → ℕ
first_text_row mode = cond (leb mode 1) 1 0

-- text rows 0-3 stand at rows 1-4 in modes 0 and 1, text rows 0-4 at rows 0-4 in 5 and 6
unfoldable pub under_text : Screen → ℕ → Bool
under_text s row = of_text_mode s.overlay row && not (eqb s.mode large) && leb (first_text_row s.mode) row

-- in mode 10 row 1 shows the small codes of the large line, rows 2 and 3 the upper and the lower half of its big ones; row 4 nothing
unfoldable pub under_small : Screen → ℕ → Bool
under_small s row = of_text_mode s.overlay row && eqb s.mode large && eqb row 1

unfoldable pub under_big : Screen → ℕ → Bool
under_big s row = of_text_mode s.overlay row && eqb s.mode large && leb 2 row && leb row 3

-- all that claim a place while the display is on
abbrev pub claims : Screen → ℕ → ℕ → List Owner
claims s row column =
    cond (covered s row column) (PictureRow row ∷ []) []
    ++ cond (under_bar s row) (IconBar ∷ []) []
    ++ cond (under_labels s row column) (SoftKeys ∷ []) []
    ++ cond (under_text s row) (TextRow (row - first_text_row s.mode) ∷ []) []
    ++ cond (under_small s row) (SmallLine ∷ []) []
    ++ cond (under_big s row) (BigLine (row - 2) ∷ []) []

-- the one claim that an owner comes from
abbrev pub only : Owner → List Owner
only Nothing = []
only IconBar = IconBar ∷ []
only (TextRow n) = TextRow n ∷ []
only (PictureRow n) = PictureRow n ∷ []
only SoftKeys = SoftKeys ∷ []
only SmallLine = SmallLine ∷ []
only (BigLine half) = BigLine half ∷ []
only (PictureWithRocker n) = PictureWithRocker n ∷ []

abbrev display_rows : List ℕ
display_rows = 0 ∷ 1 ∷ 2 ∷ 3 ∷ 4 ∷ 5 ∷ 6 ∷ []

-- All that the claims ask of a column is whether it is the rocker panel's,
abbrev side_of : ℕ → ℕ
side_of column = cond (is_rocker column) 42 0

claims_by_side : (s : Screen) (row column : ℕ) → claims s row column ≡ claims s row (side_of column)
unfolding covered under_labels
claims_by_side s row column = by_test (is_rocker column) (λ inside. rw inside) (λ outside. rw outside)

-- and so it is with the owner of a place.
owner_by_side : (o : Owner) (column : ℕ) → owner_in o column ≡ owner_in o (side_of column)
owner_by_side Nothing column = refl
owner_by_side IconBar column = refl
owner_by_side (TextRow n) column = refl
owner_by_side (PictureRow n) column = refl
owner_by_side SoftKeys column = refl
owner_by_side SmallLine column = refl
owner_by_side (BigLine half) column = refl
owner_by_side (PictureWithRocker n) column = by_test (is_rocker column) (λ inside. rw inside) (λ outside. rw outside)

-- EVERY SCREEN IN RANGE -------------------------------------------------------------------------------------------

-- what the sentences say of a display row: the claims on either side of the rocker panel's borders, whether the panel is left free, and
-- that the large line is seen in mode 10 alone
abbrev Said : Type 0
Said = List Owner × List Owner × Bool × Bool

abbrev said : Screen → ℕ → Said
said s row = (claims s row 0, claims s row 42, leaves_rocker s.overlay row, eqb s.mode large || not (is_line (owner_of_row s row)))

-- the same by the table
abbrev tabled : Screen → ℕ → Said
tabled s row = (only (owner_on s row 0), only (owner_on s row 42), two_owners s row, true)

abbrev Told : Screen → Type 0
Told s = map (said s) display_rows ≡ map (tabled s) display_rows

all_told : (r : Record) → in_range r ≡ true → Told (with_display r.settings.screen true)
unfolding owner_of_row letter_at letter_in mode_line line_of by_letter covered under_bar under_labels under_text under_small under_big
all_told r ok =
    let k = (ranges r ok).settings.screen in
    let s = r.settings.screen in
    let P : ℕ → ℕ → Type 0 = λ overlay mode. Told (with_overlay (with_mode (with_display s true) mode) overlay) in
    let modes : (overlay : ℕ) → P overlay 0 → P overlay 1 → P overlay 5 → P overlay 6 → P overlay 10 → P overlay s.mode =
    λ overlay p0 p1 p5 p6 p10. each_mode (P overlay) p0 p1 p5 p6 p10 s.mode k.mode in
    each_overlay (λ (overlay : ℕ). P overlay s.mode)
    (modes 0 refl refl refl refl refl)
    (modes 11 refl refl refl refl refl)
    (modes 12 refl refl refl refl refl)
    (modes 13 refl refl refl refl refl)
    (modes 14 refl refl refl refl refl)
    (modes 15 refl refl refl refl refl)
    (modes 16 refl refl refl refl refl)
    (modes 17 refl refl refl refl refl)
    (modes 18 refl refl refl refl refl)
    s.overlay
    k.overlay

row_of : {A : Type 0} (f : ℕ → A) (none : A) (row : ℕ) → row ≤ 6 → get_or (map f display_rows) row none ≡ f row
row_of f none = each_row (λ (row : ℕ). get_or (map f display_rows) row none ≡ f row) refl refl refl refl refl refl refl

-- a row of it
told_row : (s : Screen) (row : ℕ) → Told s → row ≤ 6 → said s row ≡ tabled s row
told_row s row told h =
    let none : Said = ([], [], false, false) in
    sym (row_of (said s) none row h) ∙ ap (λ (l : List Said). get_or l row none) told ∙ row_of (tabled s) none row h

-- of a screen whose display is on
told_on : (r : Record) (row : ℕ) → in_range r ≡ true → r.settings.screen.display ≡ true → row ≤ 6 → said r.settings.screen row ≡ tabled r.settings.screen row
told_on r row ok on h = told_row r.settings.screen row (subst (λ (b : Bool). Told (with_display r.settings.screen b)) (sym on) (all_told r ok)) h

-- On every record in range whose display is on, at every place: one sentence claims it, whose the place is by the table, or none, and it
-- is nobody's.
pub one_says : (r : Record) (row column : ℕ) → in_range r ≡ true → r.settings.screen.display ≡ true → row ≤ 6
    → claims r.settings.screen row column ≡ only (owner_at r row column)
one_says r row column ok on h =
    let s = r.settings.screen in
    let told = told_on r row ok on h in
    let left : claims s row 0 ≡ only (owner_on s row 0) = ap (λ (q : Said). q.0) told in
    let inside : claims s row 42 ≡ only (owner_on s row 42) = ap (λ (q : Said). q.1) told in
    let here : claims s row (side_of column) ≡ only (owner_on s row (side_of column)) =
    either_way (λ (n : ℕ). claims s row n ≡ only (owner_on s row n)) (is_rocker column) (λ _. inside) (λ _. left) in
    claims_by_side s row column ∙ here ∙ ap only (sym (owner_by_side (owner_of_row s row) column))

-- A row has two owners where an overlay leaves the rocker panel free.
pub two_say : (r : Record) (row : ℕ) → in_range r ≡ true → r.settings.screen.display ≡ true → row ≤ 6
    → leaves_rocker r.settings.screen.overlay row ≡ two_owners r.settings.screen row
two_say r row ok on h = ap (λ (q : Said). q.2) (told_on r row ok on h)

-- at most one sentence claims each of the seven rows at a column
abbrev pub at_most_one : Screen → ℕ → Bool
at_most_one s column = every (λ (row : ℕ). leb (length (claims s row column)) 1) display_rows

one_only : (o : Owner) → leb (length (only o)) 1 ≡ true
one_only Nothing = refl
one_only IconBar = refl
one_only (TextRow n) = refl
one_only (PictureRow n) = refl
one_only SoftKeys = refl
one_only SmallLine = refl
one_only (BigLine half) = refl
one_only (PictureWithRocker n) = refl

-- On every record in range, and at every column, at most one sentence of the paper claims a place.
pub one_claim : (r : Record) → in_range r ≡ true → (column : ℕ) → at_most_one r.settings.screen column ≡ true
unfolding covered under_bar under_labels under_text under_small under_big
one_claim r ok column =
    let s = with_display r.settings.screen true in
    let one : (row : ℕ) → row ≤ 6 → leb (length (claims s row column)) 1 ≡ true =
    λ row h.
    let told = told_row s row (all_told r ok) h in
    let left : leb (length (claims s row 0)) 1 ≡ true = rw (ap (λ (q : Said). q.0) told) (one_only (owner_on s row 0)) in
    let inside : leb (length (claims s row 42)) 1 ≡ true = rw (ap (λ (q : Said). q.1) told) (one_only (owner_on s row 42)) in
    rw (claims_by_side s row column) (either_way (λ (n : ℕ). leb (length (claims s row n)) 1 ≡ true) (is_rocker column) (λ _. inside) (λ _. left)) in
    and_both (one 0 (omega arith))
    (and_both (one 1 (omega arith))
    (and_both (one 2 (omega arith))
    (and_both (one 3 (omega arith))
    (and_both (one 4 (omega arith)) (and_both (one 5 (omega arith)) (and_both (one 6 (omega arith)) refl))))))

-- The large line is seen in mode 10 alone: by row
pub line_in_row : (r : Record) (row : ℕ) → in_range r ≡ true → is_line (row_owner r row) ≡ true → r.settings.screen.mode ≡ large
line_in_row r row ok line =
    let s = r.settings.screen in
    let nobody : owner_of_row s row ≡ Nothing → s.mode ≡ large = λ e. absurd (true≢false (sym line ∙ ap is_line e)) in
    by_test s.display
    (λ on. by_test (leb row 6)
    (λ within.
    let told : (eqb s.mode large || not (is_line (owner_of_row s row))) ≡ true = ap (λ (q : Said). q.3) (told_on r row ok on (leb-true row 6 within)) in
    by_test (eqb s.mode large) (λ yes. eqb-true s.mode large yes) (λ no. absurd (true≢false (sym (rw (no, line) at told)))))
    (λ above. nobody (above_nothing s row above)))
    (λ off. nobody (off_nothing s row off))

-- and by column.
pub line_at : (r : Record) (row column : ℕ) → in_range r ≡ true → is_line (owner_at r row column) ≡ true → r.settings.screen.mode ≡ large
line_at r row column ok line = line_in_row r row ok (line_of_row (row_owner r row) column line)
