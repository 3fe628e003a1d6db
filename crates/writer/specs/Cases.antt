-- Worked cases of the writers, computed from the definitions. One table, one statement. Assumes nothing.
use Rattle.std.specs.Prelude.{ℕ, Bool, List, [], ◌∷◌, ◌++◌, map, ◌≡◌, refl, length, replicate}
use Rattle.lists.specs.Codes.{ascii, escape, carriage_return, line_feed}
use Rattle.record.specs.Number.{paper_number, ended}
use Rattle.picture.specs.Writing.{hex_code, item_text}
use Rattle.command.specs.Order.{plain, label, draw}
use Rattle.command.specs.InRange.{command_in_range, most_rows}
use Rattle.command.specs.Spell.{spell, spelling}
use Rattle.command.specs.declared.Command.{Command}
use Rattle.command.specs.declared.Command.TheVariants.{DisplayOff, DisplayOn, Mode, Clear, Position, LabelsEmpty, IconU, IconP, HandsfreeOfNote, KeyTimes, Light, LightOn, KeypadSet, Contrast, ContrastAsked, HookAsked, VersionAsked, ClearLine, Inverse}
use Rattle.command.specs.declared.Side.{Side}
use Rattle.command.specs.declared.Side.TheVariants.{Left, Right}
use Rattle.sister_command.specs.Order.{first, own}
use Rattle.sister_command.specs.Grammar.{sister_form}
use Rattle.sister_command.specs.InRange.{own_in_range}
use Rattle.sister_command.specs.declared.SisterCommand.{SisterCommand}
use Rattle.sister_command.specs.declared.SisterCommand.TheVariants as Hers
use Rattle.sister_command.specs.declared.Question.TheVariants as Ask
use Rattle.sister_command.specs.declared.Step.TheVariants as Go
use Rattle.sister_command.specs.declared.LightChange.TheVariants as To
use Rattle.writer_ranges.specs.Fitting.{is_label, is_row}
use Rattle.writer.specs.Writing.{frame_of, shared_in_range, written_of, count_of, room_after}

-- the number handed back, the count, and then all that stands in the room
abbrev seen : Bool → List ℕ → List ℕ → List ℕ
seen ok frame room = paper_number (ended (written_of ok frame room)) ∷ count_of (written_of ok frame room) ∷ room_after ok frame room

-- a room of so many marks
abbrev mark : ℕ
mark = 7

abbrev room_of : ℕ → List ℕ
room_of n = replicate n mark

abbrev command_in : ℕ → Command → List ℕ
command_in n c = seen (command_in_range most_rows c) (frame_of (spelling (plain c))) (room_of n)

abbrev own_in : ℕ → SisterCommand → List ℕ
own_in n c = seen (own_in_range c) (frame_of (spell (sister_form (own c)))) (room_of n)

abbrev shared_in : ℕ → Command → List ℕ
shared_in n c = seen (shared_in_range c) (frame_of (spell (sister_form (first (plain c))))) (room_of n)

abbrev label_in : ℕ → Side → List ℕ → List ℕ
label_in n side codes = seen (is_label codes) (frame_of (spelling (label side codes))) (room_of n)

abbrev row_in : ℕ → ℕ → List ℕ → List ℕ
row_in n row columns = seen (is_row row columns) (frame_of (spelling (draw row columns))) (room_of n)

-- done: ESC, this, CR LF, and then so many marks that were there before
abbrev done : List ℕ → ℕ → List ℕ
done body n = 0 ∷ length (escape ∷ (body ++ carriage_return ∷ line_feed ∷ [])) ∷ escape ∷ (body ++ carriage_return ∷ line_feed ∷ room_of n)

-- refused with this number: count 0, and the room as it was
abbrev refused : ℕ → ℕ → List ℕ
refused number n = number ∷ 0 ∷ room_of n

-- each case: what the definitions give, and what document 01 and request T-06 ask for
abbrev pub table : List (List ℕ × List ℕ)
table =
    -- 27 columns of 0 are written y0000, in a frame as the note spells it
    (row_in 14 0 (replicate 27 0), done (ascii "Gr0,y0000z") 1)
    -- exact room is enough, one less is 3, and so is none
    ∷ (row_in 13 0 (replicate 27 0), done (ascii "Gr0,y0000z") 0)
    ∷ (row_in 12 0 (replicate 27 0), refused 3 12)
    ∷ (command_in 6 DisplayOn, done (ascii "IDE") 0)
    ∷ (command_in 5 DisplayOn, refused 3 5)
    ∷ (command_in 0 DisplayOn, refused 3 0)
    ∷ (label_in 10 Left (ascii "Keep"), done (ascii "IK1Keep") 0)
    ∷ (label_in 9 Left (ascii "Keep"), refused 3 9)
    -- 2 stands before 3
    ∷ (command_in 0 (IconP 20), refused 2 0)
    ∷ (label_in 0 Left (ascii "12345678"), refused 2 0)
    ∷ (row_in 0 7 (0 ∷ []), refused 2 0)
    ∷ (row_in 0 0 [], refused 2 0)
    -- 1 to 96 columns; a row above 6
    ∷ (row_in 20 1 (replicate 96 255), done (ascii "Gr1,yFFyFFyFFqFFz") 0)
    ∷ (row_in 20 1 (replicate 97 255), refused 2 20)
    ∷ (row_in 20 1 [], refused 2 20)
    ∷ (row_in 20 7 (0 ∷ []), refused 2 20)
    -- a column above 31 in row 6, and there alone
    ∷ (row_in 20 6 (31 ∷ 0 ∷ []), done (ascii "Gr6,1F00z") 8)
    ∷ (row_in 20 6 (31 ∷ 32 ∷ []), refused 2 20)
    ∷ (row_in 20 5 (31 ∷ 32 ∷ []), done (ascii "Gr5,1F20z") 8)
    -- a label over 7 codes, or with a code below 0x20 among them
    ∷ (label_in 13 Right (ascii "1234567"), done (ascii "IK21234567") 0)
    ∷ (label_in 20 Right (ascii "12345678"), refused 2 20)
    ∷ (label_in 20 Right [], done (ascii "IK2") 14)
    ∷ (label_in 20 Left (ascii "A" ++ (31 ∷ [])), refused 2 20)
    ∷ (label_in 8 Left (32 ∷ 255 ∷ []), done (ascii "IK1 " ++ (255 ∷ [])) 0)
    -- cursor rows 0 to 4, columns 0 to 15
    ∷ (command_in 10 (Position 4 15), done (ascii "[4;15H") 1)
    ∷ (command_in 10 (Position 5 0), refused 2 10)
    ∷ (command_in 10 (Position 0 16), refused 2 10)
    -- numbers without leading zeros
    ∷ (command_in 12 (Mode 5), done (ascii "ID5") 6)
    ∷ (command_in 12 (Mode 11), done (ascii "ID11") 5)
    ∷ (command_in 12 (Mode 10), done (ascii "ID10") 5)
    ∷ (command_in 12 (Mode 18), done (ascii "ID18") 5)
    ∷ (command_in 12 (Mode 19), refused 2 12)
    ∷ (command_in 12 (IconU 255), done (ascii "IU255") 4)
    ∷ (command_in 12 (IconU 2), refused 2 12)
    ∷ (command_in 12 (Light 0), done (ascii "IE0") 6)
    ∷ (command_in 12 (Light 256), refused 2 12)
    ∷ (command_in 12 (KeyTimes 12 0), done (ascii "IT12;0") 3)
    ∷ (command_in 12 (KeyTimes 12 3), refused 2 12)
    ∷ (command_in 12 (KeyTimes 4 50), done (ascii "IT4;50") 3)
    -- signs alone, and the note's own spelling of the handsfree volume
    ∷ (command_in 12 LabelsEmpty, done (ascii "IK0") 6)
    ∷ (command_in 12 LightOn, done (ascii "IEE") 6)
    ∷ (command_in 12 KeypadSet, done (ascii "IEe") 6)
    ∷ (command_in 12 (HandsfreeOfNote 10), done (ascii "II10") 5)
    -- the questions, and the shortest frame: exact room, and one less
    ∷ (command_in 5 ContrastAsked, done (ascii "IA") 0)
    ∷ (command_in 4 ContrastAsked, refused 3 4)
    ∷ (command_in 12 HookAsked, done (ascii "IH") 7)
    ∷ (command_in 12 VersionAsked, done (ascii "&V") 7)
    -- contrast 1 to 20, the line cleared, marks 0 to 5
    ∷ (command_in 12 (Contrast 0), refused 2 12)
    ∷ (command_in 12 (Contrast 1), done (ascii "IA1") 6)
    ∷ (command_in 12 (Contrast 20), done (ascii "IA20") 5)
    ∷ (command_in 12 (Contrast 21), refused 2 12)
    ∷ (command_in 12 ClearLine, done (ascii "[K") 7)
    ∷ (command_in 12 (Inverse 0), done (ascii "IZ0") 6)
    ∷ (command_in 12 (Inverse 5), done (ascii "IZ5") 6)
    ∷ (command_in 12 (Inverse 6), refused 2 12)
    -- the sister's own: each end of a range and the value past it; exact room and one less; 2 before 3
    ∷ (own_in 6 (Hers.Cursor 1), done (ascii "&C1") 0)
    ∷ (own_in 5 (Hers.Cursor 1), refused 3 5)
    ∷ (own_in 0 (Hers.Cursor 2), refused 2 0)
    ∷ (own_in 12 Hers.Restart, done (ascii "&00") 6)
    ∷ (own_in 12 (Hers.Mode 12), done (ascii "IDM12") 4)
    ∷ (own_in 12 (Hers.Mode 13), refused 2 12)
    ∷ (own_in 12 (Hers.Light 0), done (ascii "IE0") 6)
    ∷ (own_in 12 (Hers.Light 250), done (ascii "IE250") 4)
    ∷ (own_in 12 (Hers.Light 251), refused 2 12)
    ∷ (own_in 12 (Hers.IconU 2), done (ascii "IU2") 6)
    ∷ (own_in 12 (Hers.IconU 255), refused 2 12)
    ∷ (own_in 12 (Hers.Brightness 100), done (ascii "IN100") 4)
    ∷ (own_in 12 (Hers.Brightness 101), refused 2 12)
    ∷ (own_in 12 (Hers.Speaker 7), done (ascii "IV7") 6)
    ∷ (own_in 12 (Hers.Speaker 8), refused 2 12)
    ∷ (own_in 12 (Hers.KeyTimes 0 0), done (ascii "IT0;0") 4)
    ∷ (own_in 12 (Hers.KeyTimes 0 5), refused 2 12)
    ∷ (own_in 12 (Hers.KeyTimes 12 0), done (ascii "IT12;0") 3)
    ∷ (own_in 12 (Hers.LightTo To.PwmAuto), done (ascii "IEQ") 6)
    ∷ (own_in 12 (Hers.LightTo To.KeypadClearedStart), done (ascii "IEc") 6)
    ∷ (own_in 12 (Hers.Asked Ask.Position), done (ascii "&H?") 6)
    ∷ (own_in 12 (Hers.Asked Ask.Mode), done (ascii "IDM?") 5)
    ∷ (own_in 12 (Hers.Step Go.BrightnessDown), done (ascii "IN-") 6)
    -- what she shares, in her spelling, with the first edition's ranges
    ∷ (shared_in 12 Clear, done (ascii "&D") 7)
    ∷ (shared_in 12 ClearLine, done (ascii "&K") 7)
    ∷ (shared_in 9 (Position 4 15), done (ascii "&H4;15") 0)
    ∷ (shared_in 8 (Position 4 15), refused 3 8)
    ∷ (shared_in 8 (Position 5 0), refused 2 8)
    ∷ (shared_in 12 (Position 0 16), refused 2 12)
    ∷ (shared_in 12 DisplayOff, done (ascii "IDMD") 5)
    ∷ (shared_in 12 (Contrast 20), done (ascii "IA20") 5)
    ∷ (shared_in 12 (Contrast 21), refused 2 12)
    ∷ (shared_in 12 (Inverse 5), done (ascii "IZ5") 6)
    ∷ (shared_in 12 LabelsEmpty, done (ascii "IK0") 6)
    -- what she has not, though its number is in range: 2 again, and before 3
    ∷ (shared_in 12 (Mode 0), refused 2 12)
    ∷ (shared_in 12 (IconU 0), refused 2 12)
    ∷ (shared_in 12 (KeyTimes 12 0), refused 2 12)
    ∷ (shared_in 12 (Light 30), refused 2 12)
    ∷ (shared_in 0 VersionAsked, refused 2 0)
    ∷ []

pub cases : map (λ (c : List ℕ × List ℕ). c.0) table ≡ map (λ (c : List ℕ × List ℕ). c.1) table
unfolding frame_of is_label is_row written_of room_after hex_code item_text
cases = refl
