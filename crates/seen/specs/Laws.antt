-- What follows from the definitions: numbers and refusals, the phase, display off, the owners of a row and of its columns, the
-- cursor, and whose the contents are. Assumes nothing.
use Rattle.std.specs.Prelude.{ℕ, ◌+◌, ◌*◌, ◌≤◌, ◌<◌, ◌≡◌, Bool, true, false, not, ◌||◌, get_or, Result, Ok, Err}
use Rattle.std.proofs.Common.{ap, lt-ltb, le-ltb}
use Rattle.std.proofs.Math.Path.{refl}
use Rattle.std.proofs.Math.Bool.{cond, or-true}
use Rattle.std.proofs.Math.Dec.{ltb}
use Rattle.lists.specs.Tests.{by_test}
use Rattle.record.specs.Number.{paper_number, numbered, ended}
use Rattle.record.specs.declared.Refusal.{Refusal}
use Rattle.record.specs.declared.Refusal.TheVariants.{FieldOutOfRange, NotListed}
use Rattle.record.specs.Range.{in_range, large}
use Rattle.record.specs.With.{with_settings, with_screen, with_shown, with_row, with_column}
use Rattle.record.specs.declared.Record.{Record}
use Rattle.seen_panels.specs.Panels.{sms_panel, volume_panel, steady_panel}
use Rattle.seen_panels.specs.declared.Phase.{Phase}
use Rattle.seen_panels.specs.declared.Phase.TheVariants.{Lit}
use Rattle.seen_owners.specs.declared.Owner.{Owner}
use Rattle.seen_owners.specs.declared.Owner.TheVariants.{Nothing, IconBar, TextRow, PictureRow, SoftKeys, SmallLine, BigLine, PictureWithRocker}
use Rattle.seen.specs.declared.Row.{Row}
use Rattle.seen.specs.declared.ColumnSeen.{ColumnSeen}
use Rattle.seen.specs.LineLaws.{row_at}
use Rattle.seen_owners.specs.Table.{last_row, last_column, owner_of_row, row_owner, owner_at, is_line}
use Rattle.seen_owners.specs.Laws.{off_nothing}
use Rattle.seen_owners.specs.Sentences.{line_in_row, line_at}
use Rattle.seen.specs.Rows.{nothing_seen, contents, row_seen, row_told, sms_seen, volume_seen}
use Rattle.seen.specs.Columns.{shown_at, no_place, place_of, column_seen, column_told}

-- The row question, once it is not refused.
pub seen_row : (r : Record) (row : ℕ) (phase : Phase) → in_range r ≡ true → row ≤ last_row → row_seen r row phase ≡ Ok (contents r phase (row_owner r row))
unfolding row_seen
seen_row r row phase ok h = rw (ok, le-ltb last_row row h)

-- And the column question.
pub seen_column : (r : Record) (row column : ℕ) (phase : Phase) → in_range r ≡ true → row ≤ last_row → column ≤ last_column
    → column_seen r row column phase ≡ Ok (place_of r phase column (owner_at r row column))
unfolding column_seen
seen_column r row column phase ok h k = rw (ok, le-ltb last_row row h, le-ltb last_column column k)

-- Numbers -------------------------------------------------------------------------------------------------------

-- Contents are told with number 0 and with their owner.
pub contents_told : (r : Record) (phase : Phase) (o : Owner) → (ended {T = Row} (Ok (contents r phase o)) ≡ numbered 0) × ((contents r phase o).owner ≡ o)
unfolding contents
contents_told r phase Nothing = (refl, refl)
contents_told r phase IconBar = (refl, refl)
contents_told r phase (TextRow n) = (refl, refl)
contents_told r phase (PictureRow n) = (refl, refl)
contents_told r phase SoftKeys = (refl, refl)
contents_told r phase SmallLine = (refl, refl)
contents_told r phase (BigLine half) = (refl, refl)
contents_told r phase (PictureWithRocker n) = (refl, refl)

-- The row question hands back 1 for a field out of range, then 4 for a display row above the last, else 0.
pub row_number : (r : Record) (row : ℕ) (phase : Phase) → paper_number (ended (row_seen r row phase)) ≡ cond (not (in_range r)) 1 (cond (ltb last_row row) 4 0)
unfolding row_seen
row_number r row phase =
    by_test (in_range r)
    (λ ok. by_test (ltb last_row row) (λ above. rw (ok, above)) (λ above. rw (ok, above)))
    (λ bad. rw bad)

-- The column question hands back 1 for a field out of range, then 4 for a display row or a column above the last, else 0.
pub column_number : (r : Record) (row column : ℕ) (phase : Phase)
    → paper_number (ended (column_seen r row column phase)) ≡ cond (not (in_range r)) 1 (cond (ltb last_row row || ltb last_column column) 4 0)
unfolding column_seen
column_number r row column phase =
    by_test (in_range r) (λ ok. by_test (ltb last_row row || ltb last_column column) (λ above. rw (ok, above)) (λ above. rw (ok, above))) (λ bad. rw bad)

-- The panels' questions hand back 1 for a field out of range, else 0.
pub panel_numbers : (r : Record) (phase : Phase)
    → (paper_number (ended (sms_seen r phase)) ≡ cond (not (in_range r)) 1 0) × (paper_number (ended (volume_seen r)) ≡ cond (not (in_range r)) 1 0)
unfolding sms_seen volume_seen
panel_numbers r phase = by_test (in_range r) (λ ok. (rw ok, rw ok)) (λ bad. (rw bad, rw bad))

-- A question that is refused tells nothing: the whole of what comes back, for number 1 and for number 4.
pub row_refused : (r : Record) (row : ℕ) (phase : Phase)
    → (in_range r ≡ false → row_seen r row phase ≡ Err FieldOutOfRange) × (in_range r ≡ true → last_row < row → row_seen r row phase ≡ Err NotListed)
unfolding row_seen
row_refused r row phase = (λ bad. rw bad, λ ok above. rw (ok, lt-ltb last_row row above))

pub column_refused : (r : Record) (row column : ℕ) (phase : Phase)
    → (in_range r ≡ false → column_seen r row column phase ≡ Err FieldOutOfRange)
    × (in_range r ≡ true → last_row < row → column_seen r row column phase ≡ Err NotListed)
    × (in_range r ≡ true → last_column < column → column_seen r row column phase ≡ Err NotListed)
unfolding column_seen
column_refused r row column phase = (λ bad. rw bad, λ ok above. rw (ok, lt-ltb last_row row above), λ ok above. rw (ok, lt-ltb last_column column above, or-true))

pub panels_refused : (r : Record) (phase : Phase) → in_range r ≡ false
    → (sms_seen r phase ≡ Err FieldOutOfRange) × (volume_seen r ≡ Err FieldOutOfRange)
unfolding sms_seen volume_seen
panels_refused r phase bad = (rw bad, rw bad)

-- Else the panels' questions tell what the panels show.
pub panels_told : (r : Record) (phase : Phase) → in_range r ≡ true
    → (sms_seen r phase ≡ Ok (sms_panel r.settings.icons phase)) × (volume_seen r ≡ Ok (volume_panel r.settings.volume))
unfolding sms_seen volume_seen
panels_told r phase ok = (rw ok, rw ok)

-- The phase -----------------------------------------------------------------------------------------------------

module _ (r : Record) (phase : Phase) (steady : r.settings.icons.u ≡ 255 → ⊥) where
  steady_contents : (o : Owner) → contents r phase o ≡ contents r Lit o
  unfolding contents
  steady_contents Nothing = refl
  steady_contents IconBar = rw (steady_panel r.settings.icons steady phase)
  steady_contents (TextRow n) = refl
  steady_contents (PictureRow n) = refl
  steady_contents SoftKeys = refl
  steady_contents SmallLine = refl
  steady_contents (BigLine half) = refl
  steady_contents (PictureWithRocker n) = refl

  steady_place : (column : ℕ) (o : Owner) → place_of r phase column o ≡ place_of r Lit column o
  unfolding contents
  steady_place column Nothing = refl
  steady_place column IconBar = rw (steady_panel r.settings.icons steady phase)
  steady_place column (TextRow n) = refl
  steady_place column (PictureRow n) = refl
  steady_place column SoftKeys = refl
  steady_place column SmallLine = refl
  steady_place column (BigLine half) = refl
  steady_place column (PictureWithRocker n) = refl

  -- With U not 255 the phase changes nothing: no row, no column and not the SMS panel.
  pub steady_unseen :
      ((row : ℕ) → row_seen r row phase ≡ row_seen r row Lit)
      × ((row column : ℕ) → column_seen r row column phase ≡ column_seen r row column Lit)
      × (sms_seen r phase ≡ sms_seen r Lit)
  unfolding row_seen column_seen sms_seen
  steady_unseen =
      (λ row. rw (steady_contents (row_owner r row)), λ row column. rw (steady_place column (owner_at r row column)), rw (steady_panel r.settings.icons steady phase))

-- Display off -----------------------------------------------------------------------------------------------------

-- With the display off every row and every column of every record shows nothing.
pub off_shows_nothing : (r : Record) (row : ℕ) (phase : Phase) → r.settings.screen.display ≡ false
    → (row_told (row_seen r row phase) ≡ nothing_seen)
    × ((column : ℕ) → column_told (column_seen r row column phase) ≡ no_place)
unfolding row_seen column_seen contents shown_at
off_shows_nothing r row phase off =
    let nobody = off_nothing r.settings.screen row off in
    by_test (in_range r)
    (λ ok. (
      by_test (ltb last_row row) (λ above. rw (ok, above)) (λ above. rw (ok, above, nobody)),
      λ column. by_test (ltb last_row row || ltb last_column column) (λ above. rw (ok, above)) (λ above. rw (ok, above, nobody)),
    ))
    (λ bad. (rw bad, λ column. rw bad))

-- The cursor ------------------------------------------------------------------------------------------------------

-- the record with another cursor: shown or not, and its position
abbrev pub with_cursor : Record → Bool → ℕ → ℕ → Record
with_cursor r shown row column =
    with_settings r (with_shown (with_screen r.settings (with_column (with_row r.settings.screen row) column)) shown)

-- Two records that differ only in the cursor are seen alike, but where the large line is: there with one column.
module _ (r : Record) (shown : Bool) (row column : ℕ) (phase : Phase) where
  contents_alike : (o : Owner) → (is_line o ≡ true → column ≡ r.settings.screen.column) → contents (with_cursor r shown row column) phase o ≡ contents r phase o
  unfolding contents
  contents_alike Nothing same = refl
  contents_alike IconBar same = refl
  contents_alike (TextRow n) same = refl
  contents_alike (PictureRow n) same = refl
  contents_alike SoftKeys same = refl
  contents_alike SmallLine same = rw (same refl)
  contents_alike (BigLine half) same = rw (same refl)
  contents_alike (PictureWithRocker n) same = refl

  place_alike : (place : ℕ) (o : Owner) → (is_line o ≡ true → column ≡ r.settings.screen.column) → place_of (with_cursor r shown row column) phase place o ≡ place_of r phase place o
  unfolding shown_at contents
  place_alike place Nothing same = refl
  place_alike place IconBar same = refl
  place_alike place (TextRow n) same = refl
  place_alike place (PictureRow n) same = refl
  place_alike place SoftKeys same = refl
  place_alike place SmallLine same = rw (same refl)
  place_alike place (BigLine half) same = rw (same refl)
  place_alike place (PictureWithRocker n) same = refl

  -- The cursor is no part of what is seen, but in mode 10 the column is, which says how many codes the large line has. Two records in
  -- range that differ only in the cursor, and in mode 10 have one column, are seen alike: every row, every column and both panels.
  pub cursor_unseen : in_range r ≡ true → in_range (with_cursor r shown row column) ≡ true → (r.settings.screen.mode ≡ large → column ≡ r.settings.screen.column)
      → ((at : ℕ) → row_seen (with_cursor r shown row column) at phase ≡ row_seen r at phase)
      × ((at place : ℕ) → column_seen (with_cursor r shown row column) at place phase ≡ column_seen r at place phase)
      × (sms_seen (with_cursor r shown row column) phase ≡ sms_seen r phase)
      × (volume_seen (with_cursor r shown row column) ≡ volume_seen r)
  unfolding row_seen column_seen sms_seen volume_seen owner_of_row
  cursor_unseen ok ok' same = (
    λ at. rw (ok, ok') (ap (λ (q : Row). cond {A = Result Row Refusal} (ltb last_row at) (Err NotListed) (Ok q))
        (contents_alike (row_owner r at) (λ line. same (line_in_row r at ok line)))),
    λ at place. rw (ok, ok') (ap (λ (q : ColumnSeen). cond {A = Result ColumnSeen Refusal} (ltb last_row at || ltb last_column place) (Err NotListed) (Ok q))
        (place_alike place (owner_at r at place) (λ line. same (line_at r at place ok line)))),
    rw (ok, ok'),
    rw (ok, ok'),
  )

-- The contents ----------------------------------------------------------------------------------------------------

-- Text row n shows codes 16n to 16n + 15 of the text.
pub text_row_own : (r : Record) (row n i : ℕ) (phase : Phase) → in_range r ≡ true → row ≤ last_row → row_owner r row ≡ TextRow n → i < 16
    → get_or (row_told (row_seen r row phase)).codes i 0 ≡ get_or r.text (16 * n + i) 0
unfolding contents
text_row_own r row n i phase ok h e k = rw (seen_row r row phase ok h, e) (row_at 16 r.text n i k)

-- Picture row n shows columns 96n to 96n + 95 of the picture.
pub picture_row_own : (r : Record) (row n i : ℕ) (phase : Phase) → in_range r ≡ true → row ≤ last_row → row_owner r row ≡ PictureRow n → i < 96
    → get_or (row_told (row_seen r row phase)).columns i 0 ≡ get_or r.picture (96 * n + i) 0
unfolding contents
picture_row_own r row n i phase ok h e k = rw (seen_row r row phase ok h, e) (row_at 96 r.picture n i k)
