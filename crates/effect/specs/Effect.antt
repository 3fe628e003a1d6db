-- What each order does: document 01's third column, line by line ("The good frames"), and what a text byte does. Each line is a
-- setter of the fields that it names, so nothing else changes. Assumes nothing.
use Rattle.std.specs.Prelude.{ℕ, ◌+◌, ◌-◌, ◌*◌, ◌%◌, Bool, true, false, cond, List, [], map, eqb, ltb, length, set, replicate}
use Rattle.std.proofs.lemmas.List.Edits.{sets}
use Rattle.lists.specs.Codes.{blank}
use Rattle.lists.specs.Padded.{padded}
use Rattle.record.specs.declared.Label.{Label}
use Rattle.record.specs.declared.Screen.{Screen}
use Rattle.record.specs.declared.Volume.{Volume}
use Rattle.record.specs.declared.Backlight.{Backlight}
use Rattle.record.specs.Range.{row_end_of, line_start, row_start_of, off, on, auto}
use Rattle.record.specs.With.{with_shown, with_left, with_right, with_times, with_buzzer, with_display, with_column, with_icon_s, with_icon_u, with_icon_f, with_icon_r, with_icon_p, with_icon_w, with_mute, with_hidden, with_light, with_duration, with_seconds_left, with_keypad, with_contrast, with_inverse}
use Rattle.command.specs.Order.{Order, plain, label, draw}
use Rattle.command.specs.InRange.{in_range_in_mode}
use Rattle.command.specs.declared.Command.TheVariants.{DisplayOff, DisplayOn, Mode, CursorShown, CursorHidden, Clear, Position, LabelsEmpty, IconS, IconU, IconF, IconR, IconP, IconW, Private, Handsfree, HandsfreeOfNote, Mute, KeyTimes, Buzzer, Light, LightOn, LightAutoStart, LightAuto, DefaultDuration, KeypadSet, KeypadCleared, Contrast, ContrastAsked, HookAsked, VersionAsked, ClearLine, Inverse}
use Rattle.command.specs.declared.Side.TheVariants.{Left, Right}
use Rattle.effect_modes.specs.Modes.{at, to_mode, at_level}
use Rattle.record.specs.Core.{Core, on_settings, on_text, on_picture, on_screen, on_icons, on_volume, on_backlight}

-- Parts of a line -------------------------------------------------------------------------------------------------

-- all text to 0x20: the five rows and the large line
unfoldable pub blanks : List ℕ
blanks = replicate (line_start + 24) blank

-- the label t: its codes, and zero in the unused places
abbrev pub label_of : List ℕ → Label
label_of t = record { len = length t; codes = padded 7 t }

-- mute; 1 also sets hidden no
abbrev pub muted : Volume → ℕ → Volume
muted v n = cond (eqb n 0) (with_mute v false) (with_hidden (with_mute v true) false)

abbrev pub no_seconds : Backlight → Backlight
no_seconds b = with_seconds_left b (record { 0 = 0 })

-- IEn: 0 is off, left 0; 1-255 the duration
abbrev pub light_at : Backlight → ℕ → Backlight
light_at b n = cond (eqb n 0) (no_seconds (with_light b off)) (with_duration b (record { 0 = n }))

-- the codes from the position to the end of its row become 0x20; at the row's end nothing
unfoldable pub line_cleared : Screen → List ℕ → List ℕ
line_cleared s text = sets text (row_start_of s.mode s.row + s.column) (replicate (row_end_of s.mode - s.column) blank)

-- IZn: 0 no mark; k that of row k - 1 alone
abbrev pub marks_of : ℕ → List Bool
marks_of n = cond (eqb n 0) (replicate 5 false) (set (replicate 5 false) (n - 1) true)

-- in row 6 only the five low bits of a column are kept
abbrev pub kept_in : ℕ → ℕ → ℕ
kept_in row column = cond (eqb row 6) (column % 32) column

-- picture row r from column 0 takes the columns; every column past them stays
unfoldable pub drawn : List ℕ → ℕ → List ℕ → List ℕ
drawn picture row columns = sets picture (row * 96) (map (kept_in row) columns)

-- The table -------------------------------------------------------------------------------------------------------

abbrev pub effect : Order → Core → Core
effect (plain DisplayOff) c = on_screen c (with_display c.settings.screen false)
effect (plain DisplayOn) c = on_screen c (with_display c.settings.screen true)
effect (plain (Mode n)) c = on_screen c (to_mode c.settings.screen n)
effect (plain CursorShown) c = on_settings c (with_shown c.settings true)
effect (plain CursorHidden) c = on_settings c (with_shown c.settings false)
effect (plain Clear) c = on_text (on_screen c (at c.settings.screen 0 0)) blanks
effect (plain (Position row column)) c = on_screen c (at c.settings.screen row column)
effect (plain LabelsEmpty) c = on_settings c (with_right (with_left c.settings (label_of [])) (label_of []))
effect (label Left t) c = on_settings c (with_left c.settings (label_of t))
effect (label Right t) c = on_settings c (with_right c.settings (label_of t))
effect (plain (IconS n)) c = on_icons c (with_icon_s c.settings.icons n)
effect (plain (IconU n)) c = on_icons c (with_icon_u c.settings.icons n)
effect (plain (IconF n)) c = on_icons c (with_icon_f c.settings.icons n)
effect (plain (IconR n)) c = on_icons c (with_icon_r c.settings.icons n)
effect (plain (IconP n)) c = on_icons c (with_icon_p c.settings.icons n)
effect (plain (IconW n)) c = on_icons c (with_icon_w c.settings.icons n)
effect (plain (Private n)) c = on_volume c (at_level c.settings.volume 1 n)
effect (plain (Handsfree n)) c = on_volume c (at_level c.settings.volume 2 n)
effect (plain (HandsfreeOfNote n)) c = on_volume c (at_level c.settings.volume 2 n)
effect (plain (Mute n)) c = on_volume c (muted c.settings.volume n)
effect (plain (KeyTimes time1 time2)) c = on_settings c (with_times c.settings (record { time1 = record { 0 = time1 }; time2 = record { 0 = time2 } }))
effect (plain (Buzzer n)) c = on_settings c (with_buzzer c.settings (record { 0 = n }))
effect (plain (Light n)) c = on_backlight c (light_at c.settings.backlight n)
effect (plain LightOn) c = on_backlight c (no_seconds (with_light c.settings.backlight on))
effect (plain LightAutoStart) c = on_backlight c (with_seconds_left (with_light c.settings.backlight auto) c.settings.backlight.duration)
effect (plain LightAuto) c = on_backlight c (with_light c.settings.backlight auto)
effect (plain DefaultDuration) c = on_backlight c (with_duration c.settings.backlight (record { 0 = 30 }))
effect (plain KeypadSet) c = on_backlight c (with_keypad c.settings.backlight true)
effect (plain KeypadCleared) c = on_backlight c (with_keypad c.settings.backlight false)
effect (plain (Contrast n)) c = on_settings c (with_contrast c.settings n)
effect (plain ContrastAsked) c = c
effect (plain HookAsked) c = c
effect (plain VersionAsked) c = c
effect (plain ClearLine) c = on_text c (line_cleared c.settings.screen c.text)
effect (plain (Inverse n)) c = on_settings c (with_inverse c.settings (marks_of n))
effect (draw row columns) c = on_picture c (drawn c.picture row columns)

-- with a number out of range an order is passed over, else obeyed
unfoldable pub carry_out : Order → Core → Core
carry_out order c = cond (in_range_in_mode c.settings.screen.mode order) (effect order c) c

-- a text byte is stored at the cursor, in mode 10 in the large line, and the column rises by one; at the row's end it is dropped
unfoldable pub store_text : Core → ℕ → Core
store_text c b =
    let s = c.settings.screen in
    cond (ltb s.column (row_end_of s.mode)) (on_text (on_screen c (with_column s (s.column + 1))) (set c.text (row_start_of s.mode s.row + s.column) b)) c
