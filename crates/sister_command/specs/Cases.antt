-- Worked cases of the sister's grammar and ranges: each line of section 3.5 with the ends of its range, the values past them and its
-- nearest bad neighbours, computed from the definitions. Assumes nothing.
use Rattle.std.specs.Prelude.{ℕ, Bool, true, false, List, [], ◌∷◌, ◌++◌, map, ◌≡◌, refl}
use Rattle.std.proofs.Math.Option.{Option, none, some}
use Rattle.lists.specs.Codes.{ascii}
use Rattle.lists.specs.Padded.{padded}
use Rattle.numeral.specs.Numeral.{digit_of, decimal}
use Rattle.picture.specs.Reading as picture
use Rattle.frame_table.specs.Numbers.{numbers_after}
use Rattle.frame_table.specs.Reader as reader
use Rattle.command.specs.Order.{plain, label, draw}
use Rattle.command.specs.Pick as theirs
use Rattle.command.specs.Table as theirTable
use Rattle.command.specs.Reading.{is_text, label_read, read_with, read_of, opens_picture, row_and_data, drawn_row, picture_of, order_of}
use Rattle.command.specs.declared.Command.{Command}
use Rattle.command.specs.declared.Command.TheVariants.{DisplayOff, DisplayOn, CursorShown, CursorHidden, Clear, Position, LabelsEmpty, IconS, IconF, IconR, IconP, IconW, Private, Handsfree, Mute, Buzzer, Contrast, ClearLine, Inverse}
use Rattle.command.specs.declared.Side.TheVariants.{Left, Right}
use Rattle.sister_command.specs.Order.{AnyOrder, first, own}
use Rattle.sister_command.specs.InRange.{any_in_range}
use Rattle.sister_command.specs.Table.{classes, next_states}
use Rattle.sister_command.specs.Pick.{asked_or, stepped_or, mode_of, light_of, after_i, after_and, after_k, command_of}
use Rattle.sister_command.specs.Reading.{sister_read, sister_order_of, order_in}
use Rattle.sister_command.specs.declared.SisterCommand.{SisterCommand}
use Rattle.sister_command.specs.declared.SisterCommand.TheVariants as Hers
use Rattle.sister_command.specs.declared.Question.{Question}
use Rattle.sister_command.specs.declared.Question.TheVariants as Ask
use Rattle.sister_command.specs.declared.Step.{Step}
use Rattle.sister_command.specs.declared.Step.TheVariants as Go
use Rattle.sister_command.specs.declared.LightChange.{LightChange}
use Rattle.sister_command.specs.declared.LightChange.TheVariants as Light

-- what is found in a frame: nothing, which is answered with a '?'; or the order that it spells, and whether all its numbers are in range
abbrev pub Found : Type 0
Found = Option (AnyOrder × Bool)

abbrev pub found : ℕ → Option AnyOrder → Found
found mode none = none
found mode (some order) = some (order, any_in_range mode order)

-- in an edition, in a text mode; and in hers
abbrev pub judged_by : Bool → ℕ → List ℕ → Found
judged_by sister mode frame = found mode (order_in sister frame)

abbrev pub judged : ℕ → List ℕ → Found
judged mode frame = judged_by true mode frame

-- a case: what the definitions give, and what is asked for
abbrev pub Case : Type 0
Case = Found × Found

abbrev obeyed : List ℕ → AnyOrder → Case
obeyed frame order = (judged 0 frame, some (order, true))

abbrev passed : List ℕ → AnyOrder → Case
passed frame order = (judged 0 frame, some (order, false))

-- letters and a number: in range with these, passed over with those
abbrev counts : List ℕ → (ℕ → AnyOrder) → List ℕ → List ℕ → List Case
counts letters order inside outside = map (λ (n : ℕ). obeyed (letters ++ decimal n) (order n)) inside ++ map (λ (n : ℕ). passed (letters ++ decimal n) (order n)) outside

abbrev shares : List ℕ → (ℕ → Command) → List ℕ → List ℕ → List Case
shares letters command inside outside = counts letters (λ n. first (plain (command n))) inside outside

abbrev owns : List ℕ → (ℕ → SisterCommand) → List ℕ → List ℕ → List Case
owns letters command inside outside = counts letters (λ n. own (command n)) inside outside

-- letters and ?, + or -
abbrev asks : List ℕ → Question → Case
asks letters question = obeyed (letters ++ ascii "?") (own (Hers.Asked question))

abbrev steps : List ℕ → Question → Step → Step → List Case
steps letters question up down = asks letters question ∷ obeyed (letters ++ ascii "+") (own (Hers.Step up)) ∷ obeyed (letters ++ ascii "-") (own (Hers.Step down)) ∷ []

abbrev light : List ℕ → LightChange → Case
light frame change = obeyed frame (own (Hers.LightTo change))

-- Time1 and Time2
abbrev times : Bool → List ℕ → ℕ → ℕ → Case
times good frame time1 time2 = (judged 0 frame, some (own (Hers.KeyTimes time1 time2), good))

-- a cursor frame and a mark, in a text mode
abbrev place : ℕ → Bool → List ℕ → ℕ → ℕ → Case
place mode good frame row column = (judged mode frame, some (first (plain (Position row column)), good))

abbrev mark : ℕ → Bool → ℕ → Case
mark mode good n = (judged mode (ascii "IZ" ++ decimal n), some (first (plain (Inverse n)), good))

-- bad frames; and those that only one edition has: bad in the other
abbrev bad : List (List ℕ) → List Case
bad frames = map (λ (frame : List ℕ). (judged 0 frame, none)) frames

abbrev not_hers : List (List ℕ) → List Case
not_hers frames = bad frames

abbrev hers_alone : List (List ℕ) → List Case
hers_alone frames = map (λ (frame : List ℕ). (judged_by false 0 frame, none)) frames

abbrev pub table : List (List Case)
table =
    -- &Cn: 0-1
    owns (ascii "&C") Hers.Cursor (0 ∷ 1 ∷ []) (2 ∷ 999 ∷ [])
    ∷ bad (ascii "&C" ∷ ascii "&c1" ∷ ascii "&C00" ∷ ascii "&C1x" ∷ ascii "&C?" ∷ ascii "&" ∷ [])
    -- &D
    ∷ (obeyed (ascii "&D") (first (plain Clear)) ∷ [])
    ∷ bad (ascii "&d" ∷ ascii "&DD" ∷ ascii "&D1" ∷ [])
    -- &Hn;n: a row of the text mode, column 0-15; none in mode 10
    ∷ (place 0 true (ascii "&H0;0") 0 0
    ∷ place 0 true (ascii "&H3;15") 3 15
    ∷ place 0 false (ascii "&H4;0") 4 0
    ∷ place 5 true (ascii "&H4;0") 4 0
    ∷ place 5 false (ascii "&H5;0") 5 0
    ∷ place 0 false (ascii "&H0;16") 0 16
    ∷ place 10 false (ascii "&H0;0") 0 0
    ∷ [])
    ∷ bad (ascii "&H" ∷ ascii "&H1" ∷ ascii "&H1;" ∷ ascii "&H;1" ∷ ascii "&H01;1" ∷ ascii "&H1;2H" ∷ ascii "&H1;2;3" ∷ ascii "&H1,2" ∷ [])
    -- &H?, &K, &00, &V?
    ∷ (asks (ascii "&H") Ask.Position
    ∷ obeyed (ascii "&K") (first (plain ClearLine))
    ∷ obeyed (ascii "&00") (own Hers.Restart)
    ∷ asks (ascii "&V") Ask.Version
    ∷ [])
    ∷ bad (ascii "&h?" ∷ ascii "&H??" ∷ ascii "&K0" ∷ ascii "&k" ∷ ascii "&0" ∷ ascii "&000" ∷ ascii "&01" ∷ ascii "&OO" ∷ ascii "&V?0" ∷ ascii "&v?" ∷ [])
    -- KH?, KP?
    ∷ (asks (ascii "KH") Ask.Hook ∷ asks (ascii "KP") Ask.Ptt ∷ [])
    ∷ bad (ascii "K" ∷ ascii "KH" ∷ ascii "KP" ∷ ascii "KX?" ∷ ascii "KH?0" ∷ ascii "kH?" ∷ [])
    -- IAn: 1-20; IA? IA+ IA-
    ∷ shares (ascii "IA") Contrast (1 ∷ 10 ∷ 20 ∷ []) (0 ∷ 21 ∷ 999 ∷ [])
    ∷ steps (ascii "IA") Ask.Contrast Go.ContrastUp Go.ContrastDown
    ∷ bad (ascii "IA" ∷ ascii "IA05" ∷ ascii "IA++" ∷ ascii "IA+1" ∷ ascii "IA?1" ∷ [])
    -- IBn: 0-255
    ∷ shares (ascii "IB") Buzzer (0 ∷ 255 ∷ []) (256 ∷ [])
    ∷ bad (ascii "IB" ∷ ascii "IB1000" ∷ ascii "IB?" ∷ [])
    -- IDMn: 0-12; IDMD, IDME, IDM?
    ∷ owns (ascii "IDM") Hers.Mode (0 ∷ 4 ∷ 5 ∷ 12 ∷ []) (13 ∷ 999 ∷ [])
    ∷ (obeyed (ascii "IDMD") (first (plain DisplayOff)) ∷ obeyed (ascii "IDME") (first (plain DisplayOn)) ∷ asks (ascii "IDM") Ask.Mode ∷ [])
    ∷ bad (ascii "ID" ∷ ascii "IDM" ∷ ascii "IDM05" ∷ ascii "IDMd" ∷ ascii "IDMDE" ∷ ascii "IDM+" ∷ ascii "IDm1" ∷ [])
    -- IEn: 0, or 1-250; its letters; IE?
    ∷ owns (ascii "IE") Hers.Light (0 ∷ 1 ∷ 250 ∷ []) (251 ∷ 255 ∷ 999 ∷ [])
    ∷ (light (ascii "IEE") Light.On
    ∷ light (ascii "IEA") Light.AutoStart
    ∷ light (ascii "IES") Light.Auto
    ∷ light (ascii "IEP") Light.PwmOn
    ∷ light (ascii "IEQ") Light.PwmAuto
    ∷ light (ascii "IER") Light.Restart
    ∷ light (ascii "IEe") Light.KeypadSet
    ∷ light (ascii "IEc") Light.KeypadClearedStart
    ∷ light (ascii "IEs") Light.KeypadCleared
    ∷ asks (ascii "IE") Ask.Light
    ∷ [])
    ∷ bad (ascii "IE" ∷ ascii "IEr" ∷ ascii "IEC" ∷ ascii "IEa" ∷ ascii "IEp" ∷ ascii "IEEE" ∷ ascii "IE000" ∷ ascii "IE0c" ∷ ascii "IE+" ∷ [])
    -- IFn 0-6, IJn and ILn 0-10, IMn 0-1
    ∷ shares (ascii "IF") IconF (0 ∷ 6 ∷ []) (7 ∷ [])
    ∷ shares (ascii "IJ") Handsfree (0 ∷ 10 ∷ []) (11 ∷ [])
    ∷ shares (ascii "IL") Private (0 ∷ 10 ∷ []) (11 ∷ [])
    ∷ shares (ascii "IM") Mute (0 ∷ 1 ∷ []) (2 ∷ [])
    ∷ bad (ascii "IF" ∷ ascii "IFa" ∷ ascii "IJ" ∷ ascii "II" ∷ ascii "IL" ∷ ascii "IL01" ∷ ascii "IM" ∷ ascii "IMM" ∷ [])
    -- IK0, IK1t, IK2t: 0 to 7 codes, 0x20 to 0xFF
    ∷ (obeyed (ascii "IK0") (first (plain LabelsEmpty))
    ∷ obeyed (ascii "IK1") (first (label Left []))
    ∷ obeyed (ascii "IK1Keep") (first (label Left (ascii "Keep")))
    ∷ obeyed (ascii "IK21234567") (first (label Right (ascii "1234567")))
    ∷ obeyed (ascii "IK2" ++ 0x20 ∷ 0xFF ∷ []) (first (label Right (0x20 ∷ 0xFF ∷ [])))
    ∷ [])
    ∷ bad (ascii "IK" ∷ ascii "IK00" ∷ ascii "IK3" ∷ ascii "IK?" ∷ ascii "IK112345678" ∷ (ascii "IK1" ++ 0x1F ∷ []) ∷ [])
    -- INn: 0-100; IN? IN+ IN-
    ∷ owns (ascii "IN") Hers.Brightness (0 ∷ 50 ∷ 100 ∷ []) (101 ∷ 999 ∷ [])
    ∷ steps (ascii "IN") Ask.Brightness Go.BrightnessUp Go.BrightnessDown
    ∷ bad (ascii "IN" ∷ ascii "IN050" ∷ ascii "IN+1" ∷ ascii "IN--" ∷ ascii "In1" ∷ [])
    -- IPn 0-19, IRn 0-1, ISn 0-1
    ∷ shares (ascii "IP") IconP (0 ∷ 19 ∷ []) (20 ∷ 999 ∷ [])
    ∷ shares (ascii "IR") IconR (0 ∷ 1 ∷ []) (2 ∷ [])
    ∷ shares (ascii "IS") IconS (0 ∷ 1 ∷ []) (2 ∷ [])
    ∷ bad (ascii "IP" ∷ ascii "IP007" ∷ ascii "IR" ∷ ascii "IS" ∷ ascii "IS1;1" ∷ ascii "Is1" ∷ [])
    -- ITn;n: Time1 4-50, Time2 0 or 4-50, or 0 and 0; IT?
    ∷ (times true (ascii "IT4;0") 4 0
    ∷ times true (ascii "IT4;4") 4 4
    ∷ times true (ascii "IT50;50") 50 50
    ∷ times true (ascii "IT0;0") 0 0
    ∷ times false (ascii "IT0;5") 0 5
    ∷ times false (ascii "IT0;4") 0 4
    ∷ times false (ascii "IT3;0") 3 0
    ∷ times false (ascii "IT3;4") 3 4
    ∷ times false (ascii "IT51;4") 51 4
    ∷ times false (ascii "IT4;1") 4 1
    ∷ times false (ascii "IT4;3") 4 3
    ∷ times false (ascii "IT4;51") 4 51
    ∷ asks (ascii "IT") Ask.Times
    ∷ [])
    ∷ bad (ascii "IT" ∷ ascii "IT4" ∷ ascii "IT4;" ∷ ascii "IT;4" ∷ ascii "IT00;0" ∷ ascii "IT4;04" ∷ ascii "IT4;5;6" ∷ ascii "IT4,5" ∷ ascii "IT4;?" ∷ [])
    -- IUn: 0-2
    ∷ owns (ascii "IU") Hers.IconU (0 ∷ 1 ∷ 2 ∷ []) (3 ∷ 255 ∷ [])
    ∷ bad (ascii "IU" ∷ ascii "IUa" ∷ ascii "IU?" ∷ [])
    -- IVn: 0-7; IV? IV+ IV-
    ∷ owns (ascii "IV") Hers.Speaker (0 ∷ 7 ∷ []) (8 ∷ 999 ∷ [])
    ∷ steps (ascii "IV") Ask.Speaker Go.SpeakerUp Go.SpeakerDown
    ∷ bad (ascii "IV" ∷ ascii "IV07" ∷ ascii "IV-1" ∷ ascii "Iv1" ∷ [])
    -- IWn 0-3; IZn: 0, or a row of the text mode counted from 1; in mode 10 0 alone
    ∷ shares (ascii "IW") IconW (0 ∷ 3 ∷ []) (4 ∷ [])
    ∷ (mark 0 true 0 ∷ mark 0 true 4 ∷ mark 0 false 5 ∷ mark 5 true 5 ∷ mark 5 false 6 ∷ mark 10 true 0 ∷ mark 10 false 1 ∷ [])
    ∷ bad (ascii "IW" ∷ ascii "IZ" ∷ ascii "IZ01" ∷ ascii "IX1" ∷ ascii "IC1" ∷ ascii "IQ1" ∷ [])
    -- pictures: row 0-6, one digit
    ∷ (obeyed (ascii "Gr0,00z") (first (draw 0 (0 ∷ [])))
    ∷ obeyed (ascii "Gr6,aFFz") (first (draw 6 (0xFF ∷ 0xFF ∷ [])))
    ∷ passed (ascii "Gr7,00z") (first (draw 7 (0 ∷ [])))
    ∷ [])
    ∷ bad (ascii "G" ∷ ascii "Gr" ∷ ascii "Gr0,z" ∷ ascii "Gr0,00" ∷ ascii "Gr10,00z" ∷ ascii "Gr0,ffz" ∷ [])
    -- no frame, and letters outside the table
    ∷ bad (ascii "" ∷ ascii "I" ∷ ascii "Q" ∷ ascii "?" ∷ ascii " &D" ∷ ascii "&D " ∷ [])
    -- what only the first edition spells so
    ∷ not_hers (ascii "&C" ∷ ascii "&#" ∷ ascii "&V" ∷ ascii "[1;1H" ∷ ascii "[K" ∷ ascii "IDD" ∷ ascii "IDE" ∷ ascii "ID5" ∷ ascii "II1" ∷ ascii "IA" ∷ ascii "IEr" ∷ ascii "IH" ∷ [])
    -- what only she spells so; and &D, which each takes in her own way
    ∷ hers_alone (ascii "&C1" ∷ ascii "&H1;1" ∷ ascii "&K" ∷ ascii "&00" ∷ ascii "&V?" ∷ ascii "KH?" ∷ ascii "IDM5" ∷ ascii "IA?" ∷ ascii "IEP" ∷ ascii "IEc" ∷ ascii "IN50" ∷ ascii "IV3" ∷ ascii "IT?" ∷ [])
    ∷ ((judged_by false 0 (ascii "&C"), some (first (plain CursorShown), true)) ∷ (judged_by false 0 (ascii "&D"), some (first (plain CursorHidden), true)) ∷ [])
    ∷ []

pub cases : map (λ (group : List Case). map (λ (c : Case). c.0) group) table ≡ map (λ (group : List Case). map (λ (c : Case). c.1) group) table
unfolding digit_of padded picture.hex_of picture.times_of picture.items picture.columns_of numbers_after reader.read_with classes next_states asked_or stepped_or mode_of light_of after_i after_and after_k command_of sister_read sister_order_of theirTable.classes theirTable.next_states theirs.with_number theirs.display_of theirs.light_of theirs.contrast_of theirs.after_i theirs.cursor_sign theirs.after_bracket theirs.command_of is_text label_read read_with read_of opens_picture row_and_data drawn_row picture_of order_of
cases = refl
