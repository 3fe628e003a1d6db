-- Worked cases of the grammar and the ranges, each line of document 01's table with its nearest bad neighbours, computed from the
-- definitions. Assumes nothing.
use Rattle.std.specs.Prelude.{ℕ, Bool, true, false, List, [], ◌∷◌, ◌++◌, map, ◌≡◌, refl, replicate}
use Rattle.std.proofs.Math.Option.{Option, none, some}
use Rattle.lists.specs.Codes.{ascii, line_feed}
use Rattle.numeral.specs.Numeral.{digit_of}
use Rattle.lists.specs.Padded.{padded}
use Rattle.picture.specs.Reading.{hex_of, times_of, items, columns_of}
use Rattle.command.specs.Order.{Order, plain, label, draw}
use Rattle.command.specs.InRange.{rows_named, order_in_range}
use Rattle.frame_table.specs.Numbers.{numbers_after}
use Rattle.frame_table.specs.Reader as reader
use Rattle.command.specs.Table.{classes, next_states}
use Rattle.command.specs.Pick.{with_number, display_of, light_of, contrast_of, after_i, cursor_sign, after_bracket, command_of}
use Rattle.command.specs.Reading.{is_text, label_read, read_with, read_of, opens_picture, row_and_data, drawn_row, picture_of, order_of}
use Rattle.command.specs.declared.Command.TheVariants.{DisplayOff, DisplayOn, Mode, CursorShown, CursorHidden, Clear, Position, LabelsEmpty, IconS, IconU, IconF, IconR, IconP, IconW, Private, Handsfree, HandsfreeOfNote, Mute, KeyTimes, Buzzer, Light, LightOn, LightAutoStart, LightAuto, DefaultDuration, KeypadSet, KeypadCleared, Contrast, ContrastAsked, HookAsked, VersionAsked, ClearLine, Inverse}
use Rattle.command.specs.declared.Side.TheVariants.{Left, Right}

-- what is found in a frame: nothing, which is answered with a '?'; or the order that it spells, and whether all its numbers are in range
abbrev pub Found : Type 0
Found = Option (Order × Bool)

abbrev bad : Found
bad = none

abbrev passed_over : Order → Found
passed_over order = some (order, false)

abbrev obeyed : Order → Found
obeyed order = some (order, true)

abbrev pub found : ℕ → Option Order → Found
found rows none = none
found rows (some order) = some (order, order_in_range rows order)

-- in a text mode of so many rows
abbrev pub judged : ℕ → List ℕ → Found
judged rows frame = found rows (order_of frame)

-- each case: what the definitions give, and what document 01 asks for
abbrev pub table : List (Found × Found)
table =
    -- IDD, IDE; IDx, ID, ID0 with a line feed behind it, and longer letters are bad
    (judged 4 (ascii "IDD"), obeyed (plain DisplayOff))
    ∷ (judged 4 (ascii "IDE"), obeyed (plain DisplayOn))
    ∷ (judged 4 (ascii "IDx"), bad)
    ∷ (judged 4 (ascii "ID"), bad)
    ∷ (judged 4 (ascii "IDDD"), bad)
    ∷ (judged 4 (ascii "IDd"), bad)
    ∷ (judged 4 (ascii "ID0" ++ line_feed ∷ []), bad)
    -- IDn: 0, 1, 5, 6, 10, 11 to 18
    ∷ (judged 4 (ascii "ID0"), obeyed (plain (Mode 0)))
    ∷ (judged 4 (ascii "ID1"), obeyed (plain (Mode 1)))
    ∷ (judged 4 (ascii "ID5"), obeyed (plain (Mode 5)))
    ∷ (judged 4 (ascii "ID6"), obeyed (plain (Mode 6)))
    ∷ (judged 4 (ascii "ID11"), obeyed (plain (Mode 11)))
    ∷ (judged 4 (ascii "ID12"), obeyed (plain (Mode 12)))
    ∷ (judged 4 (ascii "ID13"), obeyed (plain (Mode 13)))
    ∷ (judged 4 (ascii "ID10"), obeyed (plain (Mode 10)))
    ∷ (judged 4 (ascii "ID14"), obeyed (plain (Mode 14)))
    ∷ (judged 4 (ascii "ID18"), obeyed (plain (Mode 18)))
    ∷ (judged 4 (ascii "ID011"), bad)
    ∷ (judged 4 (ascii "ID00"), bad)
    ∷ (judged 4 (ascii "ID2"), passed_over (plain (Mode 2)))
    ∷ (judged 4 (ascii "ID4"), passed_over (plain (Mode 4)))
    ∷ (judged 4 (ascii "ID7"), passed_over (plain (Mode 7)))
    ∷ (judged 4 (ascii "ID9"), passed_over (plain (Mode 9)))
    ∷ (judged 4 (ascii "ID19"), passed_over (plain (Mode 19)))
    ∷ (judged 4 (ascii "ID999"), passed_over (plain (Mode 999)))
    ∷ (judged 4 (ascii "ID0000"), bad)
    ∷ (judged 4 (ascii "ID1a"), bad)
    -- &C, &D, &#, &V; letters are not alike in both cases
    ∷ (judged 4 (ascii "&C"), obeyed (plain CursorShown))
    ∷ (judged 4 (ascii "&D"), obeyed (plain CursorHidden))
    ∷ (judged 4 (ascii "&#"), obeyed (plain Clear))
    ∷ (judged 4 (ascii "&"), bad)
    ∷ (judged 4 (ascii "&c"), bad)
    ∷ (judged 4 (ascii "&CC"), bad)
    ∷ (judged 4 (ascii "&V"), obeyed (plain VersionAsked))
    ∷ (judged 4 (ascii "&V0"), bad)
    ∷ (judged 4 (ascii "&v"), bad)
    ∷ (judged 4 (ascii "&C0"), bad)
    -- [n;nH: a row of the text mode, column 0-15; none in mode 10
    ∷ (judged 4 (ascii "[0;0H"), obeyed (plain (Position 0 0)))
    ∷ (judged 4 (ascii "[3;15H"), obeyed (plain (Position 3 15)))
    ∷ (judged 4 (ascii "[03;5H"), bad)
    ∷ (judged 4 (ascii "[3;015H"), bad)
    ∷ (judged 4 (ascii "[4;0H"), passed_over (plain (Position 4 0)))
    ∷ (judged 5 (ascii "[4;0H"), obeyed (plain (Position 4 0)))
    ∷ (judged 5 (ascii "[5;0H"), passed_over (plain (Position 5 0)))
    ∷ (judged 4 (ascii "[0;16H"), passed_over (plain (Position 0 16)))
    ∷ (judged 5 (ascii "[0;16H"), passed_over (plain (Position 0 16)))
    ∷ (judged (rows_named 10) (ascii "[0;0H"), passed_over (plain (Position 0 0)))
    ∷ (judged 4 (ascii "["), bad)
    ∷ (judged 4 (ascii "[1;2"), bad)
    ∷ (judged 4 (ascii "[;2H"), bad)
    ∷ (judged 4 (ascii "[1;H"), bad)
    ∷ (judged 4 (ascii "[1;2H;"), bad)
    ∷ (judged 4 (ascii "[1;2;3H"), bad)
    ∷ (judged 4 (ascii "[12H"), bad)
    ∷ (judged 4 (ascii "[1;2h"), bad)
    ∷ (judged 4 (ascii "[0001;2H"), bad)
    ∷ (judged 4 (ascii "[H"), bad)
    -- [K
    ∷ (judged 4 (ascii "[K"), obeyed (plain ClearLine))
    ∷ (judged (rows_named 10) (ascii "[K"), obeyed (plain ClearLine))
    ∷ (judged 4 (ascii "[KK"), bad)
    ∷ (judged 4 (ascii "[K1"), bad)
    ∷ (judged 4 (ascii "[1K"), bad)
    ∷ (judged 4 (ascii "[k"), bad)
    -- IK0 is letters, no number
    ∷ (judged 4 (ascii "IK0"), obeyed (plain LabelsEmpty))
    ∷ (judged 4 (ascii "IK"), bad)
    ∷ (judged 4 (ascii "IK0x"), bad)
    ∷ (judged 4 (ascii "IK00"), bad)
    ∷ (judged 4 (ascii "IK01"), bad)
    ∷ (judged 4 (ascii "IK3"), bad)
    ∷ (judged 4 (ascii "IKx"), bad)
    -- IK1t, IK2t: 0 to 7 codes, 0x20 to 0xFF
    ∷ (judged 4 (ascii "IK1"), obeyed (label Left []))
    ∷ (judged 4 (ascii "IK2"), obeyed (label Right []))
    ∷ (judged 4 (ascii "IK12"), obeyed (label Left (ascii "2")))
    ∷ (judged 4 (ascii "IK1Keep"), obeyed (label Left (ascii "Keep")))
    ∷ (judged 4 (ascii "IK21234567"), obeyed (label Right (ascii "1234567")))
    ∷ (judged 4 (ascii "IK1" ++ 0x20 ∷ 0xFF ∷ []), obeyed (label Left (0x20 ∷ 0xFF ∷ [])))
    ∷ (judged 4 (ascii "IK112345678"), bad)
    ∷ (judged 4 (ascii "IK212345678"), bad)
    ∷ (judged 4 (ascii "IK1" ++ 0x1F ∷ []), bad)
    ∷ (judged 4 (ascii "IK2a" ++ 0x1F ∷ ascii "b"), bad)
    -- the icons: S 0-1, U 0, 1 or 255, F 0-6, R 0-1, P 0-19, W 0-3
    ∷ (judged 4 (ascii "IS0"), obeyed (plain (IconS 0)))
    ∷ (judged 4 (ascii "IS1"), obeyed (plain (IconS 1)))
    ∷ (judged 4 (ascii "IS2"), passed_over (plain (IconS 2)))
    ∷ (judged 4 (ascii "IS"), bad)
    ∷ (judged 4 (ascii "ISa"), bad)
    ∷ (judged 4 (ascii "IU0"), obeyed (plain (IconU 0)))
    ∷ (judged 4 (ascii "IU1"), obeyed (plain (IconU 1)))
    ∷ (judged 4 (ascii "IU255"), obeyed (plain (IconU 255)))
    ∷ (judged 4 (ascii "IU2"), passed_over (plain (IconU 2)))
    ∷ (judged 4 (ascii "IU254"), passed_over (plain (IconU 254)))
    ∷ (judged 4 (ascii "IU256"), passed_over (plain (IconU 256)))
    ∷ (judged 4 (ascii "IU"), bad)
    ∷ (judged 4 (ascii "IUa"), bad)
    ∷ (judged 4 (ascii "IF0"), obeyed (plain (IconF 0)))
    ∷ (judged 4 (ascii "IF6"), obeyed (plain (IconF 6)))
    ∷ (judged 4 (ascii "IF7"), passed_over (plain (IconF 7)))
    ∷ (judged 4 (ascii "IF"), bad)
    ∷ (judged 4 (ascii "IFa"), bad)
    ∷ (judged 4 (ascii "IR0"), obeyed (plain (IconR 0)))
    ∷ (judged 4 (ascii "IR1"), obeyed (plain (IconR 1)))
    ∷ (judged 4 (ascii "IR2"), passed_over (plain (IconR 2)))
    ∷ (judged 4 (ascii "IR"), bad)
    ∷ (judged 4 (ascii "IRa"), bad)
    ∷ (judged 4 (ascii "IP0"), obeyed (plain (IconP 0)))
    ∷ (judged 4 (ascii "IP19"), obeyed (plain (IconP 19)))
    ∷ (judged 4 (ascii "IP20"), passed_over (plain (IconP 20)))
    ∷ (judged 4 (ascii "IP999"), passed_over (plain (IconP 999)))
    ∷ (judged 4 (ascii "IP"), bad)
    ∷ (judged 4 (ascii "IPa"), bad)
    ∷ (judged 4 (ascii "IW0"), obeyed (plain (IconW 0)))
    ∷ (judged 4 (ascii "IW3"), obeyed (plain (IconW 3)))
    ∷ (judged 4 (ascii "IW4"), passed_over (plain (IconW 4)))
    ∷ (judged 4 (ascii "IW"), bad)
    ∷ (judged 4 (ascii "IWa"), bad)
    ∷ (judged 4 (ascii "IP007"), bad)
    ∷ (judged 4 (ascii "IP05"), bad)
    ∷ (judged 4 (ascii "IP5"), obeyed (plain (IconP 5)))
    ∷ (judged 4 (ascii "IP0001"), bad)
    ∷ (judged 4 (ascii "Is1"), bad)
    ∷ (judged 4 (ascii "IX1"), bad)
    ∷ (judged 4 (ascii "IV"), bad)
    ∷ (judged 4 (ascii "IV1"), bad)
    -- ILn, IJn, and the note's IIn: 0-10
    ∷ (judged 4 (ascii "IL0"), obeyed (plain (Private 0)))
    ∷ (judged 4 (ascii "IL10"), obeyed (plain (Private 10)))
    ∷ (judged 4 (ascii "IL11"), passed_over (plain (Private 11)))
    ∷ (judged 4 (ascii "IL"), bad)
    ∷ (judged 4 (ascii "IJ0"), obeyed (plain (Handsfree 0)))
    ∷ (judged 4 (ascii "IJ10"), obeyed (plain (Handsfree 10)))
    ∷ (judged 4 (ascii "IJ11"), passed_over (plain (Handsfree 11)))
    ∷ (judged 4 (ascii "IJ"), bad)
    ∷ (judged 4 (ascii "II0"), obeyed (plain (HandsfreeOfNote 0)))
    ∷ (judged 4 (ascii "II10"), obeyed (plain (HandsfreeOfNote 10)))
    ∷ (judged 4 (ascii "II11"), passed_over (plain (HandsfreeOfNote 11)))
    ∷ (judged 4 (ascii "II"), bad)
    -- IMn: 0-1
    ∷ (judged 4 (ascii "IM0"), obeyed (plain (Mute 0)))
    ∷ (judged 4 (ascii "IM1"), obeyed (plain (Mute 1)))
    ∷ (judged 4 (ascii "IM2"), passed_over (plain (Mute 2)))
    ∷ (judged 4 (ascii "IM"), bad)
    ∷ (judged 4 (ascii "IMM"), bad)
    -- ITn;n: Time1 4-50, Time2 0 or 4-50; one of them out of range is enough
    ∷ (judged 4 (ascii "IT4;0"), obeyed (plain (KeyTimes 4 0)))
    ∷ (judged 4 (ascii "IT4;4"), obeyed (plain (KeyTimes 4 4)))
    ∷ (judged 4 (ascii "IT50;50"), obeyed (plain (KeyTimes 50 50)))
    ∷ (judged 4 (ascii "IT3;4"), passed_over (plain (KeyTimes 3 4)))
    ∷ (judged 4 (ascii "IT0;0"), passed_over (plain (KeyTimes 0 0)))
    ∷ (judged 4 (ascii "IT51;4"), passed_over (plain (KeyTimes 51 4)))
    ∷ (judged 4 (ascii "IT4;1"), passed_over (plain (KeyTimes 4 1)))
    ∷ (judged 4 (ascii "IT4;3"), passed_over (plain (KeyTimes 4 3)))
    ∷ (judged 4 (ascii "IT4;51"), passed_over (plain (KeyTimes 4 51)))
    ∷ (judged 4 (ascii "IT20;3"), passed_over (plain (KeyTimes 20 3)))
    ∷ (judged 4 (ascii "IT4"), bad)
    ∷ (judged 4 (ascii "IT4;"), bad)
    ∷ (judged 4 (ascii "IT;4"), bad)
    ∷ (judged 4 (ascii "IT4;5;6"), bad)
    ∷ (judged 4 (ascii "IT4,5"), bad)
    ∷ (judged 4 (ascii "IT"), bad)
    -- IBn: 0-255
    ∷ (judged 4 (ascii "IB0"), obeyed (plain (Buzzer 0)))
    ∷ (judged 4 (ascii "IB255"), obeyed (plain (Buzzer 255)))
    ∷ (judged 4 (ascii "IB256"), passed_over (plain (Buzzer 256)))
    ∷ (judged 4 (ascii "IB"), bad)
    ∷ (judged 4 (ascii "IB1000"), bad)
    -- IEn: 0, or 1-255
    ∷ (judged 4 (ascii "IE0"), obeyed (plain (Light 0)))
    ∷ (judged 4 (ascii "IE000"), bad)
    ∷ (judged 4 (ascii "IT04;4"), bad)
    ∷ (judged 4 (ascii "IT4;04"), bad)
    ∷ (judged 4 (ascii "IE1"), obeyed (plain (Light 1)))
    ∷ (judged 4 (ascii "IE255"), obeyed (plain (Light 255)))
    ∷ (judged 4 (ascii "IE256"), passed_over (plain (Light 256)))
    ∷ (judged 4 (ascii "IE999"), passed_over (plain (Light 999)))
    -- IEE IEA IES IER IEe IEr; S is auto, A starts its time
    ∷ (judged 4 (ascii "IEE"), obeyed (plain LightOn))
    ∷ (judged 4 (ascii "IEA"), obeyed (plain LightAutoStart))
    ∷ (judged 4 (ascii "IES"), obeyed (plain LightAuto))
    ∷ (judged 4 (ascii "IER"), obeyed (plain DefaultDuration))
    ∷ (judged 4 (ascii "IEe"), obeyed (plain KeypadSet))
    ∷ (judged 4 (ascii "IEr"), obeyed (plain KeypadCleared))
    ∷ (judged 4 (ascii "IE"), bad)
    ∷ (judged 4 (ascii "IEEE"), bad)
    ∷ (judged 4 (ascii "IEa"), bad)
    ∷ (judged 4 (ascii "IEs"), bad)
    ∷ (judged 4 (ascii "IE0r"), bad)
    -- IA asks; IAn: 1-20
    ∷ (judged 4 (ascii "IA"), obeyed (plain ContrastAsked))
    ∷ (judged 4 (ascii "IA0"), passed_over (plain (Contrast 0)))
    ∷ (judged 4 (ascii "IA1"), obeyed (plain (Contrast 1)))
    ∷ (judged 4 (ascii "IA10"), obeyed (plain (Contrast 10)))
    ∷ (judged 4 (ascii "IA20"), obeyed (plain (Contrast 20)))
    ∷ (judged 4 (ascii "IA21"), passed_over (plain (Contrast 21)))
    ∷ (judged 4 (ascii "IA05"), bad)
    ∷ (judged 4 (ascii "IA?"), bad)
    ∷ (judged 4 (ascii "IAA"), bad)
    -- IH
    ∷ (judged 4 (ascii "IH"), obeyed (plain HookAsked))
    ∷ (judged 4 (ascii "IHH"), bad)
    ∷ (judged 4 (ascii "IHh"), bad)
    ∷ (judged 4 (ascii "IH0"), bad)
    -- IZn: 0, or a row of the text mode counted from 1; in mode 10 0 alone
    ∷ (judged 4 (ascii "IZ0"), obeyed (plain (Inverse 0)))
    ∷ (judged 4 (ascii "IZ1"), obeyed (plain (Inverse 1)))
    ∷ (judged 4 (ascii "IZ4"), obeyed (plain (Inverse 4)))
    ∷ (judged 4 (ascii "IZ5"), passed_over (plain (Inverse 5)))
    ∷ (judged 5 (ascii "IZ4"), obeyed (plain (Inverse 4)))
    ∷ (judged 5 (ascii "IZ5"), obeyed (plain (Inverse 5)))
    ∷ (judged 5 (ascii "IZ6"), passed_over (plain (Inverse 6)))
    ∷ (judged (rows_named 10) (ascii "IZ0"), obeyed (plain (Inverse 0)))
    ∷ (judged (rows_named 10) (ascii "IZ1"), passed_over (plain (Inverse 1)))
    ∷ (judged 4 (ascii "IZ"), bad)
    ∷ (judged 4 (ascii "IZ01"), bad)
    ∷ (judged 4 (ascii "IZZ"), bad)
    -- the picture frame in the note's spelling: row 0-6, one digit
    ∷ (judged 4 (ascii "Gr0,00z"), obeyed (draw 0 (0 ∷ [])))
    ∷ (judged 4 (ascii "Gr6,FFz"), obeyed (draw 6 (0xFF ∷ [])))
    ∷ (judged 4 (ascii "Gr7,00z"), passed_over (draw 7 (0 ∷ [])))
    ∷ (judged 4 (ascii "Gr9,00z"), passed_over (draw 9 (0 ∷ [])))
    ∷ (judged 4 (ascii "Gr0,a00aFFa331B1F0Ez"), obeyed (draw 0 (0 ∷ 0 ∷ 0xFF ∷ 0xFF ∷ 0x33 ∷ 0x33 ∷ 0x1B ∷ 0x1F ∷ 0x0E ∷ [])))
    ∷ (judged 4 (ascii "G"), bad)
    ∷ (judged 4 (ascii "Gr"), bad)
    ∷ (judged 4 (ascii "Gr0"), bad)
    ∷ (judged 4 (ascii "Gr0,"), bad)
    ∷ (judged 4 (ascii "Gr0,z"), bad)
    ∷ (judged 4 (ascii "Gr0,00"), bad)
    ∷ (judged 4 (ascii "Gr0;00z"), bad)
    ∷ (judged 4 (ascii "Gr06,00z"), bad)
    ∷ (judged 4 (ascii "Gr10,00z"), bad)
    ∷ (judged 4 (ascii "Gr,00z"), bad)
    ∷ (judged 4 (ascii "Gra,00z"), bad)
    ∷ (judged 4 (ascii "G0,00z"), bad)
    ∷ (judged 4 (ascii "gr0,00z"), bad)
    ∷ (judged 4 (ascii "IG0;00"), bad)
    ∷ (judged 4 (ascii "IGr0;00"), bad)
    ∷ (judged 4 (ascii "Gr0,00zz"), bad)
    ∷ (judged 4 (ascii "Gr0,00z0"), bad)
    -- a lone y, and ff; bad data is bad with row 7 too
    ∷ (judged 4 (ascii "Gr0,yz"), bad)
    ∷ (judged 4 (ascii "Gr0,ffz"), bad)
    ∷ (judged 4 (ascii "Gr7,ffz"), bad)
    -- 96 columns are data, 97 are not: with row 7 silence, and bad
    ∷ (judged 4 (ascii "Gr0,y00y00y00q00z"), obeyed (draw 0 (replicate 96 0)))
    ∷ (judged 4 (ascii "Gr7,y00y00y00q00z"), passed_over (draw 7 (replicate 96 0)))
    ∷ (judged 4 (ascii "Gr0,y00y00y00r00z"), bad)
    ∷ (judged 4 (ascii "Gr7,y00y00y00r00z"), bad)
    -- no frame, a lone I, and letters outside the table
    ∷ (judged 4 (ascii ""), bad)
    ∷ (judged 4 (ascii "I"), bad)
    ∷ (judged 4 (ascii "Q"), bad)
    ∷ (judged 4 (ascii "K0"), bad)
    ∷ (judged 4 (ascii " ID0"), bad)
    ∷ (judged 4 (ascii "ID0 "), bad)
    ∷ []

pub cases : map (λ (c : Found × Found). c.0) table ≡ map (λ (c : Found × Found). c.1) table
unfolding digit_of padded hex_of times_of items columns_of numbers_after reader.read_with classes next_states with_number display_of light_of contrast_of after_i cursor_sign after_bracket command_of is_text label_read read_with read_of opens_picture row_and_data drawn_row picture_of order_of
cases = refl
