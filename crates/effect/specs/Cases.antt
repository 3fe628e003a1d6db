-- Worked cases of what frames do, from the power-on record on, computed from the definitions. Assumes nothing.
use Rattle.std.specs.Prelude.{ℕ, ◌*◌, List, [], ◌∷◌, ◌++◌, map, ◌≡◌, refl, take, drop, replicate}
use Prim.Native.Char.{code}
use Rattle.lists.specs.Codes.{ascii, blank}
use Rattle.lists.specs.Padded.{padded}
use Rattle.numeral.specs.Numeral.{digit_of}
use Rattle.picture.specs.Reading.{hex_of, times_of, items, columns_of}
use Rattle.record.specs.PowerOn.{power_on}
use Rattle.frame_table.specs.Numbers.{numbers_after}
use Rattle.frame_table.specs.Reader as reader
use Rattle.command.specs.Table.{classes, next_states}
use Rattle.command.specs.Pick.{with_number, display_of, light_of, contrast_of, after_i, cursor_sign, after_bracket, command_of}
use Rattle.command.specs.Reading.{is_text, label_read, read_with, read_of, opens_picture, row_and_data, drawn_row, picture_of, order_of}
use Rattle.record.specs.Core.{Core, core_of}
use Rattle.effect.specs.Effect.{blanks, drawn, carry_out, store_text}
use Rattle.effect.specs.Obey.{obey_order}
use Rattle.record.specs.Fields.{bit}

-- frames, one after the other
abbrev pub obeying : Core → List (List ℕ) → Core
obeying c [] = c
obeying c (frame ∷ more) = obeying (obey_order c (order_of frame)) more

abbrev pub after : List (List ℕ) → Core
after frames = obeying (core_of power_on) frames

-- the power-on core with an A written
abbrev pub written : Core
written = store_text (core_of power_on) (code "A")

-- display, text mode, overlay, cursor row and column
abbrev screen : Core → List ℕ
screen c = let s = c.settings.screen in bit s.display ∷ s.mode ∷ s.overlay ∷ s.row ∷ s.column ∷ []

-- which, level, mute, hidden
abbrev volume : Core → List ℕ
volume c = let v = c.settings.volume in v.which ∷ v.level ∷ bit v.mute ∷ bit v.hidden ∷ []

-- mode, duration, seconds left, keypad flag
abbrev backlight : Core → List ℕ
backlight c = let b = c.settings.backlight in b.mode ∷ b.duration.0 ∷ b.left.0 ∷ bit b.keypad ∷ []

-- the icons in the order S U F R P W
abbrev icons : Core → List ℕ
icons c = let i = c.settings.icons in i.s ∷ i.u ∷ i.f ∷ i.r ∷ i.p ∷ i.w ∷ []

abbrev times : Core → List ℕ
times c = c.settings.times.time1.0 ∷ c.settings.times.time2.0 ∷ []

-- the first columns of a picture row
abbrev columns : ℕ → ℕ → Core → List ℕ
columns count row c = take count (drop (row * 96) c.picture)

-- each case: what the definitions give, and what document 01 asks for
abbrev pub table : List (List ℕ × List ℕ)
table =
    -- IL4, IM1, IL0 shows nothing; then IL4 shows Mute: IL0 keeps mute
    (volume (after (ascii "IL4" ∷ [])), 1 ∷ 4 ∷ 0 ∷ 0 ∷ [])
    ∷ (volume (after (ascii "IL4" ∷ ascii "IM1" ∷ [])), 1 ∷ 4 ∷ 1 ∷ 0 ∷ [])
    ∷ (volume (after (ascii "IL4" ∷ ascii "IM1" ∷ ascii "IL0" ∷ [])), 0 ∷ 0 ∷ 1 ∷ 1 ∷ [])
    ∷ (volume (after (ascii "IL4" ∷ ascii "IM1" ∷ ascii "IL0" ∷ ascii "IL4" ∷ [])), 1 ∷ 4 ∷ 1 ∷ 0 ∷ [])
    -- IM1 shows, IM0 leaves hidden alone; IL11 changes nothing
    ∷ (volume (after (ascii "IL0" ∷ ascii "IM1" ∷ [])), 0 ∷ 0 ∷ 1 ∷ 0 ∷ [])
    ∷ (volume (after (ascii "IL0" ∷ ascii "IM0" ∷ [])), 0 ∷ 0 ∷ 0 ∷ 1 ∷ [])
    ∷ (volume (after (ascii "IL0" ∷ ascii "IL11" ∷ [])), 0 ∷ 0 ∷ 0 ∷ 1 ∷ [])
    -- IJ and II are handsfree
    ∷ (volume (after (ascii "IJ7" ∷ [])), 2 ∷ 7 ∷ 0 ∷ 0 ∷ [])
    ∷ (volume (after (ascii "II10" ∷ [])), 2 ∷ 10 ∷ 0 ∷ 0 ∷ [])
    -- [3;15H in mode 0: position 3,15; ID11 leaves the cursor, ID0 in mode 0 homes it and drops the overlay
    ∷ (screen (after (ascii "[3;15H" ∷ [])), 1 ∷ 0 ∷ 0 ∷ 3 ∷ 15 ∷ [])
    ∷ (screen (after (ascii "[3;15H" ∷ ascii "ID11" ∷ [])), 1 ∷ 0 ∷ 11 ∷ 3 ∷ 15 ∷ [])
    ∷ (screen (after (ascii "[3;15H" ∷ ascii "ID11" ∷ ascii "ID0" ∷ [])), 1 ∷ 0 ∷ 0 ∷ 0 ∷ 0 ∷ [])
    -- [4;0H in mode 0: silence; in mode 5: obeyed. [0;16H: silence
    ∷ (screen (after (ascii "[4;0H" ∷ [])), 1 ∷ 0 ∷ 0 ∷ 0 ∷ 0 ∷ [])
    ∷ (screen (after (ascii "ID5" ∷ ascii "[4;0H" ∷ [])), 1 ∷ 5 ∷ 0 ∷ 4 ∷ 0 ∷ [])
    ∷ (screen (after (ascii "[1;2H" ∷ ascii "[0;16H" ∷ [])), 1 ∷ 0 ∷ 0 ∷ 1 ∷ 2 ∷ [])
    -- display off; a frame outside the grammar
    ∷ (screen (after (ascii "IDD" ∷ ascii "ID1" ∷ [])), 0 ∷ 1 ∷ 0 ∷ 0 ∷ 0 ∷ [])
    ∷ (screen (after (ascii "IDX" ∷ [])), 1 ∷ 0 ∷ 0 ∷ 0 ∷ 0 ∷ [])
    -- a text byte stands at the cursor and moves it; &# clears and homes, under overlay 11 too
    ∷ (take 2 written.text ++ screen written, code "A" ∷ blank ∷ 1 ∷ 0 ∷ 0 ∷ 0 ∷ 1 ∷ [])
    ∷ (let c = obeying written (ascii "ID11" ∷ ascii "&#" ∷ []) in take 2 c.text ++ screen c, blank ∷ blank ∷ 1 ∷ 0 ∷ 11 ∷ 0 ∷ 0 ∷ [])
    -- IP19 obeyed, IP20 silence; the other icons stay
    ∷ (icons (after (ascii "IU255" ∷ ascii "IP19" ∷ [])), 0 ∷ 255 ∷ 0 ∷ 0 ∷ 19 ∷ 0 ∷ [])
    ∷ (icons (after (ascii "IP19" ∷ ascii "IP20" ∷ [])), 0 ∷ 0 ∷ 0 ∷ 0 ∷ 19 ∷ 0 ∷ [])
    -- a picture row keeps its columns past the data
    ∷ (columns 4 1 (after (ascii "Gr1,bFFz" ∷ ascii "Gr1,01z" ∷ [])), 1 ∷ 255 ∷ 255 ∷ 0 ∷ [])
    -- row 6 keeps five bits; row 7 is passed over; a tail without its z is bad
    ∷ (columns 2 6 (after (ascii "Gr6,FFz" ∷ [])), 31 ∷ 0 ∷ [])
    ∷ (columns 2 6 (after (ascii "Gr6,FFz" ∷ ascii "Gr7,00z" ∷ [])), 31 ∷ 0 ∷ [])
    ∷ (columns 2 6 (after (ascii "Gr6,FF" ∷ [])), 0 ∷ 0 ∷ [])
    -- IE0 and IEE clear the seconds left, IEA starts them, IES keeps them; IE5 and IER change the duration alone
    ∷ (backlight (after (ascii "IEA" ∷ [])), 2 ∷ 30 ∷ 30 ∷ 0 ∷ [])
    ∷ (backlight (after (ascii "IEA" ∷ ascii "IE0" ∷ [])), 0 ∷ 30 ∷ 0 ∷ 0 ∷ [])
    ∷ (backlight (after (ascii "IEA" ∷ ascii "IEE" ∷ [])), 1 ∷ 30 ∷ 0 ∷ 0 ∷ [])
    ∷ (backlight (after (ascii "IEA" ∷ ascii "IES" ∷ [])), 2 ∷ 30 ∷ 30 ∷ 0 ∷ [])
    ∷ (backlight (after (ascii "IES" ∷ [])), 2 ∷ 30 ∷ 0 ∷ 0 ∷ [])
    ∷ (backlight (after (ascii "IEA" ∷ ascii "IE5" ∷ [])), 2 ∷ 5 ∷ 30 ∷ 0 ∷ [])
    ∷ (backlight (after (ascii "IE5" ∷ ascii "IEe" ∷ ascii "IER" ∷ [])), 0 ∷ 30 ∷ 0 ∷ 1 ∷ [])
    ∷ (backlight (after (ascii "IEe" ∷ ascii "IEr" ∷ ascii "IE256" ∷ [])), 0 ∷ 30 ∷ 0 ∷ 0 ∷ [])
    -- IT20;3 changes neither time
    ∷ (times (after (ascii "IT20;3" ∷ [])), 12 ∷ 0 ∷ [])
    ∷ (times (after (ascii "IT20;0" ∷ [])), 20 ∷ 0 ∷ [])
    -- labels; the places past a label are zero
    ∷ ((after (ascii "IK1Keep" ∷ [])).settings.left.codes, ascii "Keep" ++ replicate 3 0)
    ∷ ((after (ascii "IK2Keep" ∷ ascii "IK2No" ∷ [])).settings.right.codes, ascii "No" ++ replicate 5 0)
    ∷ ((after (ascii "IK1Keep" ∷ ascii "IK0" ∷ [])).settings.left.codes, replicate 7 0)
    ∷ []

pub cases : map (λ (c : List ℕ × List ℕ). c.0) table ≡ map (λ (c : List ℕ × List ℕ). c.1) table
unfolding digit_of padded hex_of times_of items columns_of numbers_after reader.read_with classes next_states with_number display_of light_of contrast_of after_i cursor_sign after_bracket command_of is_text label_read read_with read_of opens_picture row_and_data drawn_row picture_of order_of blanks drawn carry_out store_text
cases = refl
