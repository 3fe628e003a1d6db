-- Worked cases of what the sister's frames do and are answered, from her power-on record on, computed from the definitions: each line of
-- request T-06, "Frames", as far as it is her own. Assumes nothing.
use Rattle.std.specs.Prelude.{ℕ, List, [], ◌∷◌, ◌++◌, map, ◌≡◌, refl, take}
use Rattle.lists.specs.Codes.{ascii, escape, carriage_return, line_feed}
use Rattle.lists.specs.Padded.{padded}
use Rattle.numeral.specs.Numeral.{digit_of}
use Rattle.picture.specs.Reading as picture
use Rattle.record.specs.PowerOn.{sister_power_on}
use Rattle.record.specs.Core.{Core, core_of}
use Rattle.record.specs.Fields.{bit}
use Rattle.frame_table.specs.Numbers.{numbers_after}
use Rattle.frame_table.specs.Reader as reader
use Rattle.command.specs.Pick as theirs
use Rattle.command.specs.Table as theirTable
use Rattle.command.specs.Reading.{is_text, label_read, read_with, read_of, opens_picture, row_and_data, drawn_row, picture_of, order_of}
use Rattle.effect.specs.Effect.{blanks, drawn, line_cleared, carry_out}
use Rattle.sister_command.specs.Table.{classes, next_states}
use Rattle.sister_command.specs.Pick.{asked_or, stepped_or, mode_of, light_of, after_i, after_and, after_k, command_of}
use Rattle.sister_command.specs.Reading.{sister_read, sister_order_of}
use Rattle.sister_effect.specs.Obey.{carry_out_own, obey_any, answers_to}

-- frames, one after the other, from her power-on record on
abbrev pub obeying : Core → List (List ℕ) → Core
obeying c [] = c
obeying c (frame ∷ more) = obeying (obey_any c (sister_order_of frame)) more

abbrev pub after : List (List ℕ) → Core
after frames = obeying (core_of sister_power_on) frames

-- A case: what the definitions give, and what is asked for
abbrev pub Case : Type 0
Case = List ℕ × List ℕ

-- a frame after others is answered with a line, as a bad one, or not at all
abbrev answered : List (List ℕ) → List ℕ → List ℕ → Case
answered frames frame value = (answers_to (after frames) (sister_order_of frame), value)

abbrev tells : List (List ℕ) → List ℕ → List ℕ → Case
tells frames frame value = answered frames frame (escape ∷ (value ++ carriage_return ∷ line_feed ∷ []))

abbrev bad : List (List ℕ) → List ℕ → Case
bad frames frame = answered frames frame (ascii "?" ++ carriage_return ∷ line_feed ∷ [])

abbrev silent : List (List ℕ) → List ℕ → Case
silent frames frame = answered frames frame []

-- display, text mode, overlay, cursor row, column and whether it is shown
abbrev screen : List (List ℕ) → List ℕ
screen frames =
    let p = (after frames).settings in
    bit p.screen.display ∷ p.screen.mode ∷ p.screen.overlay ∷ p.screen.row ∷ p.screen.column ∷ bit p.shown ∷ []

-- off, on or auto; PWM; duration; seconds left; keypad flag
abbrev light : List (List ℕ) → List ℕ
light frames =
    let c = after frames in
    let b = c.settings.backlight in
    b.mode ∷ bit c.edition.pwm ∷ b.duration.0 ∷ b.left.0 ∷ bit b.keypad ∷ []

abbrev icon_u : List (List ℕ) → List ℕ
icon_u frames = (after frames).settings.icons.u ∷ []

-- many changes, those of the numbers that she stores first
abbrev changes : List (List ℕ)
changes =
    ascii "IA5" ∷ ascii "IN7" ∷ ascii "IV6" ∷ ascii "IT5;6" ∷ ascii "IE77" ∷
    ascii "IEA" ∷ ascii "IEe" ∷ ascii "IU2" ∷ ascii "&C1" ∷ ascii "IDM3" ∷ ascii "IDM9" ∷ ascii "&H4;7" ∷ ascii "IDMD" ∷ ascii "IZ3" ∷
    ascii "IL4" ∷ ascii "IB9" ∷ ascii "IK1Keep" ∷ ascii "Gr2,FFz" ∷ []

-- contrast, brightness, speaker volume, Time1, Time2, duration
abbrev stored : List (List ℕ) → List ℕ
stored frames =
    let c = after frames in
    c.settings.contrast ∷ c.edition.brightness ∷ c.edition.speaker ∷ c.settings.times.time1.0 ∷ c.settings.times.time2.0 ∷ c.settings.backlight.duration.0 ∷ []

abbrev pub table : List Case
table =
    -- &C0, &C1: the cursor, in mode 10 too; &C2 is passed over; &C is bad
    (screen (ascii "&C1" ∷ []), 1 ∷ 0 ∷ 0 ∷ 0 ∷ 0 ∷ 1 ∷ [])
    ∷ (screen (ascii "IDM4" ∷ ascii "&C1" ∷ []), 1 ∷ 10 ∷ 0 ∷ 0 ∷ 0 ∷ 1 ∷ [])
    ∷ (screen (ascii "&C1" ∷ ascii "&C0" ∷ []), 1 ∷ 0 ∷ 0 ∷ 0 ∷ 0 ∷ 0 ∷ [])
    ∷ (screen (ascii "&C1" ∷ ascii "&C2" ∷ []), 1 ∷ 0 ∷ 0 ∷ 0 ∷ 0 ∷ 1 ∷ [])
    ∷ silent [] (ascii "&C2")
    ∷ bad [] (ascii "&C")
    -- &Hn;n, &H?; &D clears and homes
    ∷ tells (ascii "&H1;15" ∷ []) (ascii "&H?") (ascii "&H: 1;15")
    ∷ tells (ascii "&H1;15" ∷ ascii "&D" ∷ []) (ascii "&H?") (ascii "&H: 0;0")
    ∷ bad [] (ascii "[1;1H")
    -- &V?, KH?, KP?
    ∷ tells [] (ascii "&V?") (ascii "&V: HA400 V.01.00 25.09.2006")
    ∷ tells [] (ascii "KH?") (ascii "KH: H")
    ∷ tells [] (ascii "KP?") (ascii "KP: p")
    -- IA: plus at 20 and minus at 0 are bad and change nothing, minus from 1 gives 0
    ∷ tells [] (ascii "IA?") (ascii "IA: 10")
    ∷ tells (ascii "IA19" ∷ ascii "IA+" ∷ []) (ascii "IA?") (ascii "IA: 20")
    ∷ bad (ascii "IA20" ∷ []) (ascii "IA+")
    ∷ tells (ascii "IA20" ∷ ascii "IA+" ∷ []) (ascii "IA?") (ascii "IA: 20")
    ∷ silent (ascii "IA1" ∷ []) (ascii "IA-")
    ∷ tells (ascii "IA1" ∷ ascii "IA-" ∷ []) (ascii "IA?") (ascii "IA: 0")
    ∷ bad (ascii "IA1" ∷ ascii "IA-" ∷ []) (ascii "IA-")
    ∷ silent [] (ascii "IA0")
    -- IDM: 0 to 3 text modes 0 1 5 6, 4 mode 10, 5 to 12 overlays 11 to 18, which leave the cursor
    ∷ (screen (ascii "IDM2" ∷ []), 1 ∷ 5 ∷ 0 ∷ 0 ∷ 0 ∷ 0 ∷ [])
    ∷ (screen (ascii "IDM3" ∷ ascii "&H4;7" ∷ ascii "IDM5" ∷ []), 1 ∷ 6 ∷ 11 ∷ 4 ∷ 7 ∷ 0 ∷ [])
    ∷ (screen (ascii "IDM4" ∷ []), 1 ∷ 10 ∷ 0 ∷ 0 ∷ 0 ∷ 0 ∷ [])
    ∷ (screen (ascii "IDM12" ∷ ascii "IDM13" ∷ []), 1 ∷ 0 ∷ 18 ∷ 0 ∷ 0 ∷ 0 ∷ [])
    ∷ tells [] (ascii "IDM?") (ascii "IDM: 0")
    ∷ tells (ascii "IDM1" ∷ []) (ascii "IDM?") (ascii "IDM: 1")
    ∷ tells (ascii "IDM2" ∷ []) (ascii "IDM?") (ascii "IDM: 2")
    ∷ tells (ascii "IDM3" ∷ []) (ascii "IDM?") (ascii "IDM: 3")
    ∷ tells (ascii "IDM4" ∷ []) (ascii "IDM?") (ascii "IDM: 4")
    ∷ tells (ascii "IDM4" ∷ ascii "IDM12" ∷ []) (ascii "IDM?") (ascii "IDM: 12")
    ∷ tells (ascii "IDM12" ∷ ascii "IDM4" ∷ []) (ascii "IDM?") (ascii "IDM: 4")
    ∷ silent [] (ascii "IDM13")
    ∷ bad [] (ascii "ID4")
    -- IE?: her five lights, and the duration
    ∷ tells [] (ascii "IE?") (ascii "IE: 2;30")
    ∷ tells (ascii "IEA" ∷ []) (ascii "IE?") (ascii "IE: 0;30")
    ∷ tells (ascii "IEE" ∷ []) (ascii "IE?") (ascii "IE: 1;30")
    ∷ tells (ascii "IEA" ∷ ascii "IEQ" ∷ []) (ascii "IE?") (ascii "IE: 2;30")
    ∷ tells (ascii "IEP" ∷ []) (ascii "IE?") (ascii "IE: 3;30")
    ∷ tells (ascii "IE0" ∷ ascii "IE250" ∷ ascii "IE251" ∷ []) (ascii "IE?") (ascii "IE: 4;250")
    -- IEA starts the seconds, IES and IEQ keep them, what is no auto sets them 0
    ∷ (light (ascii "IEA" ∷ []), 2 ∷ 0 ∷ 30 ∷ 30 ∷ 0 ∷ [])
    ∷ (light (ascii "IEA" ∷ ascii "IEQ" ∷ []), 2 ∷ 1 ∷ 30 ∷ 30 ∷ 0 ∷ [])
    ∷ (light (ascii "IEA" ∷ ascii "IEQ" ∷ ascii "IES" ∷ []), 2 ∷ 0 ∷ 30 ∷ 30 ∷ 0 ∷ [])
    ∷ (light (ascii "IEA" ∷ ascii "IEP" ∷ []), 1 ∷ 1 ∷ 30 ∷ 0 ∷ 0 ∷ [])
    ∷ (light (ascii "IEA" ∷ ascii "IEE" ∷ []), 1 ∷ 0 ∷ 30 ∷ 0 ∷ 0 ∷ [])
    ∷ (light (ascii "IEA" ∷ ascii "IE0" ∷ []), 0 ∷ 0 ∷ 30 ∷ 0 ∷ 0 ∷ [])
    -- IER: the seconds begin anew in auto, with PWM or without; else nothing
    ∷ (light (ascii "IE5" ∷ ascii "IER" ∷ []), 2 ∷ 1 ∷ 5 ∷ 5 ∷ 0 ∷ [])
    ∷ (light (ascii "IEE" ∷ ascii "IER" ∷ []), 1 ∷ 0 ∷ 30 ∷ 0 ∷ 0 ∷ [])
    ∷ silent (ascii "IEE" ∷ []) (ascii "IER")
    -- IEe, IEc, IEs: bad in the PWM modes, on and off; in normal auto obeyed. The flag is kept when normal auto is left
    ∷ bad [] (ascii "IEe")
    ∷ bad (ascii "IEP" ∷ []) (ascii "IEc")
    ∷ bad (ascii "IEE" ∷ []) (ascii "IEs")
    ∷ bad (ascii "IE0" ∷ []) (ascii "IEe")
    ∷ (light (ascii "IEe" ∷ []), 2 ∷ 1 ∷ 30 ∷ 0 ∷ 0 ∷ [])
    ∷ silent (ascii "IES" ∷ []) (ascii "IEe")
    ∷ (light (ascii "IES" ∷ ascii "IEe" ∷ ascii "IEP" ∷ []), 1 ∷ 1 ∷ 30 ∷ 0 ∷ 1 ∷ [])
    ∷ (light (ascii "IES" ∷ ascii "IEe" ∷ ascii "IEc" ∷ []), 2 ∷ 0 ∷ 30 ∷ 30 ∷ 0 ∷ [])
    ∷ (light (ascii "IES" ∷ ascii "IEe" ∷ ascii "IEs" ∷ []), 2 ∷ 0 ∷ 30 ∷ 0 ∷ 0 ∷ [])
    ∷ bad (ascii "IES" ∷ []) (ascii "IEr")
    -- IU2 is kept as 255; IU255 is passed over
    ∷ (icon_u (ascii "IU2" ∷ []), 255 ∷ [])
    ∷ (icon_u (ascii "IU1" ∷ ascii "IU255" ∷ []), 1 ∷ [])
    -- IN: 0 to 100, in steps too
    ∷ tells [] (ascii "IN?") (ascii "IN: 50")
    ∷ tells (ascii "IN99" ∷ ascii "IN+" ∷ ascii "IN101" ∷ []) (ascii "IN?") (ascii "IN: 100")
    ∷ bad (ascii "IN100" ∷ []) (ascii "IN+")
    ∷ tells (ascii "IN1" ∷ ascii "IN-" ∷ []) (ascii "IN?") (ascii "IN: 0")
    ∷ bad (ascii "IN0" ∷ []) (ascii "IN-")
    -- IT0;0 is in range, IT0;5 is not
    ∷ tells [] (ascii "IT?") (ascii "IT: 12;12")
    ∷ tells (ascii "IT0;0" ∷ []) (ascii "IT?") (ascii "IT: 0;0")
    ∷ tells (ascii "IT0;5" ∷ []) (ascii "IT?") (ascii "IT: 12;12")
    ∷ tells (ascii "IT20;0" ∷ []) (ascii "IT?") (ascii "IT: 20;0")
    ∷ silent [] (ascii "IT0;5")
    -- IV: 0 to 7, in steps too
    ∷ tells [] (ascii "IV?") (ascii "IV: 3")
    ∷ tells (ascii "IV+" ∷ []) (ascii "IV?") (ascii "IV: 4")
    ∷ bad (ascii "IV7" ∷ []) (ascii "IV+")
    ∷ tells (ascii "IV1" ∷ ascii "IV-" ∷ ascii "IV8" ∷ []) (ascii "IV?") (ascii "IV: 0")
    ∷ bad (ascii "IV0" ∷ []) (ascii "IV-")
    -- what is the first edition's alone is bad
    ∷ bad [] (ascii "II1")
    ∷ bad [] (ascii "IH")
    -- &00 is not answered, and keeps six numbers
    ∷ silent changes (ascii "&00")
    ∷ (stored (changes ++ ascii "&00" ∷ []), 5 ∷ 7 ∷ 6 ∷ 5 ∷ 6 ∷ 77 ∷ [])
    ∷ []

-- After a restart all is as if these six alone had been changed.
pub cases : (map (λ (c : Case). c.0) table ≡ map (λ (c : Case). c.1) table) × (after (changes ++ ascii "&00" ∷ []) ≡ after (take 5 changes))
unfolding digit_of padded picture.hex_of picture.times_of picture.items picture.columns_of numbers_after reader.read_with classes next_states asked_or stepped_or mode_of light_of after_i after_and after_k command_of sister_read sister_order_of theirTable.classes theirTable.next_states theirs.with_number theirs.display_of theirs.light_of theirs.contrast_of theirs.after_i theirs.cursor_sign theirs.after_bracket theirs.command_of is_text label_read read_with read_of opens_picture row_and_data drawn_row picture_of order_of blanks drawn line_cleared carry_out carry_out_own
cases = (refl, refl)
