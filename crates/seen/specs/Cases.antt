-- Worked cases: the paper's on Mute, and our own on the panels, the rows, the large line, the columns and the inverse mark.
-- Assumes nothing.
use Rattle.std.specs.Prelude.{ℕ, ◌-◌, ◌≡◌, refl, Bool, true, false, List, [], ◌∷◌, ◌++◌, map, length, replicate, set}
use Prim.Native.Char.{code}
use Rattle.lists.specs.Codes.{ascii, blank}
use Rattle.lists.specs.Padded.{padded}
use Rattle.record.specs.PowerOn.{power_on}
use Rattle.record.specs.Range.{large, in_range, text_in_range, label_in_range, picture_in_range, inverse_in_range, frame_in_range}
use Rattle.record.specs.With.{with_settings, with_text, with_picture, with_screen, with_left, with_right, with_icons, with_icon_w, with_display, with_mode, with_overlay, with_column, with_inverse}
use Rattle.record.specs.declared.Number.{Number}
use Rattle.record.specs.Number.{numbered, ended}
use Rattle.record.specs.declared.Icons.{Icons}
use Rattle.record.specs.declared.Record.{Record}
use Rattle.record.specs.declared.Volume.{Volume}
use Rattle.seen_owners.specs.declared.Owner.{Owner}
use Rattle.seen_owners.specs.declared.Owner.TheVariants.{Nothing, IconBar, TextRow, PictureRow, SoftKeys, SmallLine, BigLine, PictureWithRocker}
use Rattle.seen.specs.declared.Shown.{Shown}
use Rattle.seen.specs.declared.Shown.TheVariants as Shows
use Rattle.seen_panels.specs.declared.Phase.TheVariants.{Lit, Pause}
use Rattle.seen_panels.specs.declared.SmsPanel.TheVariants as Sms
use Rattle.seen_panels.specs.declared.VolumePanel.TheVariants as Sound
use Rattle.seen_panels.specs.Panels.{sms_panel, volume_panel}
use Rattle.seen_owners.specs.Table.{letter_in, mode_line, line_of, letter_at, by_letter, owner_of_row}
use Rattle.seen.specs.Line.{after_last, small_cells, big_cells}
use Rattle.seen.specs.Rows.{no_label, contents, row_seen, row_told}
use Rattle.seen.specs.Columns.{soft_key_at, shown_at, column_seen, column_told}

abbrev volume : ℕ → ℕ → Bool → Bool → Volume
volume which level mute hidden = record { which = which; level = level; mute = mute; hidden = hidden }

abbrev icons : ℕ → ℕ → Icons
icons s u = record { s = s; u = u; f = 0; r = 0; p = 0; w = 0 }

-- neither S nor U, S alone; U 1 without and with S; U 255 without and with S
abbrev six_icons : List Icons
six_icons = icons 0 0 ∷ icons 1 0 ∷ icons 0 1 ∷ icons 1 1 ∷ icons 0 255 ∷ icons 1 255 ∷ []

-- The panels: after IL4 and IM1 Mute is shown, after IL0 nothing, after IL4 again Mute. Then IM0 after it; IJ10; IM1 with no
-- volume icon; IL0 alone; the power-on volume. The six pairs of S and U, lit and in the pause.
pub panel_cases :
    (map volume_panel
    (volume 1 4 true false
    ∷ volume 0 0 true true
    ∷ volume 1 4 true false
    ∷ volume 1 4 false false
    ∷ volume 2 10 false false
    ∷ volume 0 0 true false
    ∷ volume 0 0 false true
    ∷ volume 0 0 false false
    ∷ [])
    ≡ Sound.Mute ∷ Sound.Nothing ∷ Sound.Mute ∷ Sound.Private 4 ∷ Sound.Handsfree 10 ∷ Sound.Mute ∷ Sound.Nothing ∷ Sound.Nothing ∷ [])
    × (map (λ (i : Icons). sms_panel i Lit) six_icons ≡ Sms.Nothing ∷ Sms.Read ∷ Sms.Unread ∷ Sms.Unread ∷ Sms.Unread ∷ Sms.Unread ∷ [])
    × (map (λ (i : Icons). sms_panel i Pause) six_icons ≡ Sms.Nothing ∷ Sms.Read ∷ Sms.Unread ∷ Sms.Unread ∷ Sms.Nothing ∷ Sms.Read ∷ [])
panel_cases = (refl, refl, refl)

-- the power-on record in another text mode and under an overlay
abbrev screen : ℕ → ℕ → Record
screen mode overlay = with_settings power_on (with_screen power_on.settings (with_overlay (with_mode power_on.settings.screen mode) overlay))

abbrev off : Record
off = with_settings power_on (with_screen power_on.settings (with_display power_on.settings.screen false))

-- a text whose row 1 begins with the word Meter
abbrev written : Record
written = with_text power_on (replicate 16 blank ++ ascii "Meter" ++ replicate 83 blank)

-- a record and a row, the number and the owner
abbrev Asked : Type 0
Asked = Record × ℕ

abbrev told : Asked → Number × Owner
told q = (ended (row_seen q.0 q.1 Lit), (row_told (row_seen q.0 q.1 Lit)).owner)

-- The row question: row 0 under overlay 11 in mode 5 is the icon bar, with no overlay it is text row 0; row 5 under 12, 13 and 18;
-- row 6 with no overlay and under 13; row 4 in modes 0, 5 and 10; row 3 in mode 10 and under 16 and 17 in it; display off; a row
-- above 6; a mode out of range, which is judged before the row. Row 2 of a written screen is text row 1, and its codes begin with the
-- word.
pub row_cases :
    (map told
    ((screen 5 11, 0)
    ∷ (screen 5 0, 0)
    ∷ (screen 0 12, 5)
    ∷ (screen 0 13, 5)
    ∷ (screen 0 18, 5)
    ∷ (screen 6 0, 6)
    ∷ (screen 6 13, 6)
    ∷ (screen 0 0, 4)
    ∷ (screen 5 0, 4)
    ∷ (screen 10 0, 4)
    ∷ (screen 10 0, 3)
    ∷ (screen 10 16, 3)
    ∷ (screen 10 17, 3)
    ∷ (off, 5)
    ∷ (power_on, 7)
    ∷ (screen 2 0, 7)
    ∷ [])
    ≡ (numbered 0, IconBar)
    ∷ (numbered 0, TextRow 0)
    ∷ (numbered 0, SoftKeys)
    ∷ (numbered 0, PictureRow 5)
    ∷ (numbered 0, PictureWithRocker 5)
    ∷ (numbered 0, Nothing)
    ∷ (numbered 0, PictureRow 6)
    ∷ (numbered 0, TextRow 3)
    ∷ (numbered 0, TextRow 4)
    ∷ (numbered 0, Nothing)
    ∷ (numbered 0, BigLine 1)
    ∷ (numbered 0, BigLine 1)
    ∷ (numbered 0, PictureRow 3)
    ∷ (numbered 0, Nothing)
    ∷ (numbered 4, Nothing)
    ∷ (numbered 1, Nothing)
    ∷ [])
    × ((row_told (row_seen written 2 Lit)).owner ≡ TextRow 1)
    × ((row_told (row_seen written 2 Lit)).codes ≡ ascii "Meter           ")
unfolding row_seen contents letter_in mode_line line_of letter_at by_letter owner_of_row in_range text_in_range label_in_range picture_in_range inverse_in_range frame_in_range
row_cases = (refl, refl, refl)

-- a large line that begins with these codes, and the column where text goes on
abbrev lined : ℕ → List ℕ → Record
lined column codes =
    with_text (with_settings power_on (with_screen power_on.settings (with_column (with_mode power_on.settings.screen large) column)))
    (replicate 80 blank ++ codes ++ replicate (24 - length codes) blank)

-- the codes of display rows 1 to 3
abbrev line_seen : Record → List (List ℕ)
line_seen r = map (λ (row : ℕ). (row_told (row_seen r row Lit)).codes) (1 ∷ 2 ∷ 3 ∷ [])

-- these are small, and these eight are big: both halves tell the same codes
abbrev small_and_big : List ℕ → List ℕ → List (List ℕ)
small_and_big small big = small ∷ padded 16 big ∷ padded 16 big ∷ []

-- The large line: five codes; eight; ten, the first two of which are small; all 24; five and ten that were kept while the column went
-- back to 0; eight and a blank typed after them, which is the ninth code, and the same when the column is 0.
pub line_cases :
    map line_seen
    (lined 5 (ascii "12345")
    ∷ lined 8 (ascii "12345678")
    ∷ lined 10 (ascii "1234567890")
    ∷ lined 24 (ascii "ABCDEFGHIJKLMNOPQRSTUVWX")
    ∷ lined 0 (ascii "12345")
    ∷ lined 0 (ascii "1234567890")
    ∷ lined 9 (ascii "12345678 ")
    ∷ lined 0 (ascii "12345678 ")
    ∷ [])
    ≡ small_and_big (ascii "                ") (ascii "12345   ")
    ∷ small_and_big (ascii "                ") (ascii "12345678")
    ∷ small_and_big (ascii "12              ") (ascii "34567890")
    ∷ small_and_big (ascii "ABCDEFGHIJKLMNOP") (ascii "QRSTUVWX")
    ∷ small_and_big (ascii "                ") (ascii "12345   ")
    ∷ small_and_big (ascii "12              ") (ascii "34567890")
    ∷ small_and_big (ascii "1               ") (ascii "2345678 ")
    ∷ small_and_big (ascii "                ") (ascii "12345678")
    ∷ []
unfolding row_seen contents after_last small_cells big_cells padded letter_in mode_line line_of letter_at by_letter owner_of_row in_range text_in_range label_in_range picture_in_range inverse_in_range frame_in_range
line_cases = refl

-- labels of seven and of four codes, icon W 2, and a picture of 3, 4 and 5 in row 5 before, in and after the rocker panel, under an
-- overlay
abbrev keyed : ℕ → Record
keyed overlay =
    let p = power_on.settings in
    let left = with_left p (record { len = 7; codes = ascii "Details" }) in
    let right = with_right left (record { len = 4; codes = ascii "Back" ++ replicate 3 0 }) in
    let w = with_icons right (with_icon_w p.icons 2) in
    with_picture (with_settings power_on (with_screen w (with_overlay p.screen overlay))) (replicate 522 3 ++ replicate 12 4 ++ replicate 138 5)

-- a record, a row and a column; the number, the owner and what stands there
abbrev place_told : Record × (ℕ × ℕ) → Number × (Owner × Shown)
place_told q =
    let p = column_seen q.0 q.1.0 q.1.1 Lit in
    (ended p, ((column_told p).owner, (column_told p).shown))

-- The column question: the borders of the rocker panel with no overlay and under 14, and a cell past the right label's length; a big
-- code's first and last column and the next code's first; the last place of the display; a row above 6, a column above 95, and a
-- mode out of range, which is judged before them.
pub column_cases :
    map place_told
    ((keyed 0, (5, 41))
    ∷ (keyed 0, (5, 42))
    ∷ (keyed 0, (5, 53))
    ∷ (keyed 0, (5, 54))
    ∷ (keyed 0, (5, 78))
    ∷ (keyed 14, (5, 41))
    ∷ (keyed 14, (5, 42))
    ∷ (keyed 14, (5, 53))
    ∷ (keyed 14, (5, 54))
    ∷ (lined 10 (ascii "1234567890"), (1, 6))
    ∷ (lined 10 (ascii "1234567890"), (2, 0))
    ∷ (lined 10 (ascii "1234567890"), (2, 11))
    ∷ (lined 10 (ascii "1234567890"), (3, 12))
    ∷ (power_on, (0, 95))
    ∷ (power_on, (6, 95))
    ∷ (power_on, (7, 0))
    ∷ (power_on, (0, 96))
    ∷ (screen 2 0, (7, 96))
    ∷ [])
    ≡ (numbered 0, (SoftKeys, Shows.LeftLabel (code "s")))
    ∷ (numbered 0, (SoftKeys, Shows.Rocker 2))
    ∷ (numbered 0, (SoftKeys, Shows.Rocker 2))
    ∷ (numbered 0, (SoftKeys, Shows.RightLabel (code "B")))
    ∷ (numbered 0, (SoftKeys, Shows.RightLabel 0))
    ∷ (numbered 0, (PictureRow 5, Shows.Column 3))
    ∷ (numbered 0, (SoftKeys, Shows.Rocker 2))
    ∷ (numbered 0, (SoftKeys, Shows.Rocker 2))
    ∷ (numbered 0, (PictureRow 5, Shows.Column 5))
    ∷ (numbered 0, (SmallLine, Shows.Code (code "2")))
    ∷ (numbered 0, (BigLine 0, Shows.Code (code "3")))
    ∷ (numbered 0, (BigLine 0, Shows.Code (code "3")))
    ∷ (numbered 0, (BigLine 1, Shows.Code (code "4")))
    ∷ (numbered 0, (IconBar, Shows.Bar))
    ∷ (numbered 0, (Nothing, Shows.Nothing))
    ∷ (numbered 4, (Nothing, Shows.Nothing))
    ∷ (numbered 4, (Nothing, Shows.Nothing))
    ∷ (numbered 1, (Nothing, Shows.Nothing))
    ∷ []
unfolding column_seen contents shown_at soft_key_at after_last small_cells big_cells letter_in mode_line line_of letter_at by_letter owner_of_row in_range text_in_range label_in_range picture_in_range inverse_in_range frame_in_range
column_cases = refl

-- Row 5 under 18 is told as the picture with zero in columns 42 to 53, and icon W.
pub rocker_case :
    ((row_told (row_seen (keyed 18) 5 Lit)).owner ≡ PictureWithRocker 5)
    × ((row_told (row_seen (keyed 18) 5 Lit)).columns ≡ replicate 42 3 ++ replicate 12 0 ++ replicate 42 5)
    × ((row_told (row_seen (keyed 18) 5 Lit)).labels ≡ record { left = no_label; right = no_label; w = 2 })
unfolding row_seen contents letter_in mode_line line_of letter_at by_letter owner_of_row in_range text_in_range label_in_range picture_in_range inverse_in_range frame_in_range
rocker_case = (refl, refl, refl)

-- a screen with the mark of one text row
abbrev row_marked : ℕ → ℕ → ℕ → Record
row_marked n mode overlay =
    let r = screen mode overlay in
    with_settings r (with_inverse r.settings (set (replicate 5 false) n true))

-- the mark as each display row tells it, and as its last column does
abbrev marks_seen : Record → List (Bool × Bool)
marks_seen r = map (λ (row : ℕ). ((row_told (row_seen r row Lit)).inverse, (column_told (column_seen r row 95 Lit)).inverse)) (0 ∷ 1 ∷ 2 ∷ 3 ∷ 4 ∷ 5 ∷ 6 ∷ [])

-- no row, and one alone
abbrev none_marked : List (Bool × Bool)
none_marked = replicate 7 (false, false)

abbrev only_marked : ℕ → List (Bool × Bool)
only_marked row = set none_marked row (true, true)

-- The inverse mark: of row 1 in mode 0, in display row 2 alone, and under overlay 16, whose picture stands there; of row 4 in mode 0,
-- which shows four text rows, and in mode 5; of row 1 in mode 10, where the large line is.
pub mark_cases :
    map marks_seen (row_marked 1 0 0 ∷ row_marked 1 0 16 ∷ row_marked 4 0 0 ∷ row_marked 4 5 0 ∷ row_marked 1 large 0 ∷ [])
    ≡ only_marked 2 ∷ none_marked ∷ none_marked ∷ only_marked 4 ∷ none_marked ∷ []
unfolding row_seen contents column_seen letter_in mode_line line_of letter_at by_letter owner_of_row in_range text_in_range label_in_range picture_in_range inverse_in_range frame_in_range
mark_cases = refl
