-- THE P LINES of document 01 ("Proved and run"), in its words and its order, as one table under one statement. Each line: what the
-- definitions give, computed, and what the paper says. Streams go through the stream call from the power-on record, with room and
-- the kept record, keys through the key log call, the volume panel through its question. Assumes nothing.
use Rattle.std.specs.Prelude.{ℕ, suc, ◌≡◌, refl, leb, Bool, cond, length, take, replicate, Result, Ok, Err}
use mathlib.Core.List.{List, [], ◌∷◌, ◌++◌, map, zip_with}
use Rattle.lists.specs.Codes.{ascii, escape, carriage_return, line_feed, question_mark}
use Rattle.lists.specs.Padded.{padded}
use Rattle.record.specs.declared.Record.{Record}
use Rattle.record.specs.declared.Refusal.{Refusal}
use Rattle.record.specs.PowerOn.{power_on}
use Rattle.record.specs.Range.{line_of, in_range, text_in_range, label_in_range, picture_in_range, inverse_in_range, frame_in_range}
use Rattle.numeral.specs.Numeral.{digit_of}
use Rattle.picture.specs.Reading.{hex_of, times_of, items, columns_of}
use Rattle.picture.specs.Writing.{hex_code, item_text, encode}
use Rattle.frame_table.specs.Numbers.{numbers_after}
use Rattle.frame_table.specs.Reader as reader
use Rattle.command.specs.Table.{classes, next_states}
use Rattle.command.specs.Pick.{with_number, display_of, light_of, contrast_of, after_i, cursor_sign, after_bracket, command_of}
use Rattle.key_log.specs.Steps.{step_in}
use Rattle.command.specs.Reading.{is_text, label_read, read_with, read_of, opens_picture, row_and_data, drawn_row, picture_of, order_of}
use Rattle.effect.specs.Effect.{blanks, line_cleared, drawn, carry_out, store_text}
use Rattle.turns.specs.Room
use Rattle.parting.specs.Rules.{keep}
use Rattle.parting.specs.Reading.{step}
use Rattle.stream.specs.Stream.{frame_in, fed_of, answers_after}
use Rattle.key_entry.specs.Codes.{code_of}
use Rattle.key_entry.specs.Rules as Keys
use Rattle.key_entry.specs.Rules.{elapsed, keyed}
use Rattle.key_log.specs.Log.{outcome, handed_back, buffer_after}
use Rattle.seen_panels.specs.declared.VolumePanel.{VolumePanel}
use Rattle.seen_panels.specs.declared.VolumePanel.TheVariants as Sound
use Rattle.seen.specs.Rows.{volume_seen}

-- a frame on the cord, and streams of them
abbrev frame : List ℕ → List ℕ
frame body = escape ∷ (body ++ carriage_return ∷ [])

-- room for as many answers as these lines get, and more
abbrev room : List ℕ
room = replicate 32 0

-- what the stream call hands back, from the power-on record
abbrev after : List ℕ → Record
after bytes = (fed_of power_on bytes (length room)).record

-- the answers; the cursor's row and column; icon P; the first columns of picture row 0
abbrev said : List ℕ → List ℕ
said bytes = take (fed_of power_on bytes (length room)).written (answers_after power_on bytes room)

abbrev position : List ℕ → List ℕ
position bytes = let s = (after bytes).settings.screen in s.row ∷ s.column ∷ []

abbrev large_line : List ℕ → List ℕ
large_line bytes = line_of (after bytes).text

abbrev marks : List ℕ → List ℕ
marks bytes = map (λ (mark : Bool). cond mark 1 0) (after bytes).settings.inverse

abbrev left_length : List ℕ → List ℕ
left_length bytes = (after bytes).settings.left.len ∷ []

abbrev icon_p : List ℕ → List ℕ
icon_p bytes = (after bytes).settings.icons.p ∷ []

abbrev drawn_first : ℕ → List ℕ → List ℕ
drawn_first n bytes = take n (after bytes).picture

-- the volume panel: nothing, Mute, private or handsfree at a level
abbrev nothing : List ℕ
nothing = []

abbrev mute : List ℕ
mute = ascii "Mute"

abbrev told : Result VolumePanel Refusal → List ℕ
told (Ok Sound.Nothing) = nothing
told (Ok Sound.Mute) = mute
told (Ok (Sound.Private n)) = n ∷ []
told (Ok (Sound.Handsfree n)) = n ∷ []
told (Err refusal) = nothing

abbrev volume : List ℕ → List ℕ
volume bytes = told (volume_seen (after bytes))

-- the codes that a key log sends, from the power-on record (Time1 12): tick readings, edges
abbrev sends : List ℕ → List ℕ → List ℕ
sends ticks edges = let o = outcome power_on ticks edges (length room) in take (handed_back o).written (buffer_after o room)

-- key "1" is key 6
abbrev key_one : ℕ
key_one = 6

abbrev release_one : ℕ
release_one = 134

abbrev poll : ℕ
poll = 255

abbrev pub table : List (List ℕ × List ℕ)
table =
    -- ESC CR: '?'
    (said (frame []), question_mark ∷ [])
    -- ESC ESC CR: '??'
    ∷ (said (escape ∷ frame []), question_mark ∷ question_mark ∷ [])
    -- [3;15H in mode 0: position 3,15
    ∷ (position (frame (ascii "[3;15H")), 3 ∷ 15 ∷ [])
    -- [4;0H in mode 0: silence
    ∷ (said (frame (ascii "[4;0H")) ++ position (frame (ascii "[4;0H")), 0 ∷ 0 ∷ [])
    -- in mode 5: obeyed
    ∷ (position (frame (ascii "ID5") ++ frame (ascii "[4;0H")), 4 ∷ 0 ∷ [])
    -- in mode 10: silence; text goes to the large line, whose 25th code is dropped (request T-01)
    ∷ (said (frame (ascii "ID10") ++ frame (ascii "[0;0H")) ++ position (frame (ascii "ID10") ++ ascii "12" ++ frame (ascii "[0;0H")), 0 ∷ 2 ∷ [])
    ∷ (large_line (frame (ascii "ID10") ++ ascii "1234567890123456789012345"), ascii "123456789012345678901234")
    -- [0;16H: silence
    ∷ (said (frame (ascii "[0;16H")) ++ position (frame (ascii "[0;16H")), 0 ∷ 0 ∷ [])
    -- IK1 with 8 codes: '?'
    ∷ (said (frame (ascii "IK112345678")), question_mark ∷ [])
    -- IP19 obeyed
    ∷ (said (frame (ascii "IP19")) ++ icon_p (frame (ascii "IP19")), 19 ∷ [])
    -- IP20 silence
    ∷ (said (frame (ascii "IP20")) ++ icon_p (frame (ascii "IP20")), 0 ∷ [])
    -- IP0001 '?'
    ∷ (said (frame (ascii "IP0001")), question_mark ∷ [])
    -- c00dFFg331B2Cf00: 26 columns
    ∷ (drawn_first 26 (frame (ascii "Gr0,c00dFFg331B2Cf00z")), replicate 4 0x00 ++ replicate 5 0xFF ++ replicate 8 0x33 ++ (0x1B ∷ 0x2C ∷ []) ++ replicate 7 0x00)
    ∷ (columns_of (ascii "c00dFFg331B2Cf00"), replicate 4 0x00 ++ replicate 5 0xFF ++ replicate 8 0x33 ++ (0x1B ∷ 0x2C ∷ []) ++ replicate 7 0x00)
    -- a lone y, or ff: '?'
    ∷ (said (frame (ascii "Gr0,yz")), question_mark ∷ [])
    ∷ (said (frame (ascii "Gr0,ffz")), question_mark ∷ [])
    -- 27 columns of 0 are written y0000
    ∷ (encode (replicate 27 0), ascii "y0000")
    -- key "1" pressed at 65530, Time1 12: poll at 113 nothing
    ∷ (sends (65530 ∷ 113 ∷ []) (key_one ∷ poll ∷ []), [])
    -- at 114 B1
    ∷ (sends (65530 ∷ 114 ∷ []) (key_one ∷ poll ∷ []), 0xB1 ∷ [])
    -- release at 113: 31
    ∷ (sends (65530 ∷ 113 ∷ []) (key_one ∷ release_one ∷ []), 0x31 ∷ [])
    -- IL4, IM1, IL0 shows nothing
    ∷ (volume (frame (ascii "IL4") ++ frame (ascii "IM1") ++ frame (ascii "IL0")), nothing)
    -- then IL4 shows Mute
    ∷ (volume (frame (ascii "IL4") ++ frame (ascii "IM1") ++ frame (ascii "IL0") ++ frame (ascii "IL4")), mute)
    -- IA, IH and &V are answered (request T-04); IA5 sets what IA tells
    ∷ (said (frame (ascii "IA")), 0x1B ∷ 0x49 ∷ 0x41 ∷ 0x31 ∷ 0x30 ∷ 0x0D ∷ [])
    ∷ (said (frame (ascii "IA5") ++ frame (ascii "IA")), (escape ∷ ascii "IA5") ++ carriage_return ∷ [])
    ∷ (said (frame (ascii "IH")), (escape ∷ ascii "IHH") ++ carriage_return ∷ [])
    ∷ (said (frame (ascii "&V")), (escape ∷ ascii "&VHA209 V.01.01 11.07.2006") ++ carriage_return ∷ line_feed ∷ [])
    -- [K: the codes from the position on; at column 16 nothing. In mode 10 the large line
    ∷ (take 6 (after (ascii "abcdef" ++ frame (ascii "[0;2H") ++ frame (ascii "[K"))).text, ascii "ab    ")
    ∷ (take 16 (after (ascii "abcdefghijklmnop" ++ frame (ascii "[K"))).text, ascii "abcdefghijklmnop")
    ∷ (take 3 (large_line (frame (ascii "ID10") ++ ascii "123" ++ frame (ascii "ID10") ++ frame (ascii "[K"))), ascii "   ")
    -- IZ4 in mode 0 marks row 3, IZ5 is silence; in mode 10 IZ1 is silence, IZ0 takes the mark away
    ∷ (marks (frame (ascii "IZ4") ++ frame (ascii "IZ5")), 0 ∷ 0 ∷ 0 ∷ 1 ∷ 0 ∷ [])
    ∷ (marks (frame (ascii "IZ2") ++ frame (ascii "ID10") ++ frame (ascii "IZ1")), 0 ∷ 1 ∷ 0 ∷ 0 ∷ 0 ∷ [])
    ∷ (marks (frame (ascii "IZ2") ++ frame (ascii "ID10") ++ frame (ascii "IZ0")), 0 ∷ 0 ∷ 0 ∷ 0 ∷ 0 ∷ [])
    -- with a group in common it matters which comes first (request T-13): IK1 and IK0, ID5 and a position
    ∷ (left_length (frame (ascii "IK1A") ++ frame (ascii "IK0")), 0 ∷ [])
    ∷ (left_length (frame (ascii "IK0") ++ frame (ascii "IK1A")), 1 ∷ [])
    ∷ (position (frame (ascii "ID5") ++ frame (ascii "[4;3H")), 4 ∷ 3 ∷ [])
    ∷ (position (frame (ascii "[4;3H") ++ frame (ascii "ID5")), 0 ∷ 0 ∷ [])
    ∷ []

-- EVERY P LINE HOLDS.
pub p_lines : map (λ (l : List ℕ × List ℕ). l.0) table ≡ map (λ (l : List ℕ × List ℕ). l.1) table
unfolding in_range text_in_range label_in_range picture_in_range inverse_in_range frame_in_range digit_of padded hex_of times_of items columns_of hex_code item_text numbers_after reader.read_with classes next_states with_number display_of light_of contrast_of after_i cursor_sign after_bracket command_of is_text label_read read_with read_of opens_picture row_and_data drawn_row picture_of order_of blanks line_cleared drawn carry_out store_text keep step Room.run frame_in fed_of answers_after outcome step_in zip_with Keys.step keyed elapsed code_of volume_seen
p_lines = refl

-- The rooms ---------------------------------------------------------------------------------------------------------

-- rooms of 0 to 30 bytes
abbrev rooms : List ℕ
rooms = 0 ∷ 1 ∷ 2 ∷ 3 ∷ 4 ∷ 5 ∷ 6 ∷ 7 ∷ 8 ∷ 9 ∷ 10 ∷ 11 ∷ 12 ∷ 13 ∷ 14 ∷ 15 ∷ 16 ∷ 17 ∷ 18 ∷ 19 ∷ 20 ∷ 21 ∷ 22 ∷ 23 ∷ 24 ∷ 25 ∷ 26 ∷ 27 ∷ 28 ∷ 29 ∷ 30 ∷ []

-- the bytes used and written of a frame, in a room
abbrev counts : List ℕ → ℕ → List ℕ
counts body space = let f = fed_of power_on (frame body) space in f.used ∷ f.written ∷ []

-- all of them and the whole answer, if it fits; else all but the CR, and none
abbrev whole_or_none : List ℕ → ℕ → ℕ → List ℕ
whole_or_none body answer space = cond (leb answer space) (length (frame body) ∷ answer ∷ []) (suc (length body) ∷ 0 ∷ [])

-- IN A ROOM OF ANY SIZE an answer is written whole or not at all: IA, IH, &V and a bad frame.
pub room_lines :
    (map (counts (ascii "IA")) rooms ≡ map (whole_or_none (ascii "IA") 6) rooms)
    × (map (counts (ascii "IH")) rooms ≡ map (whole_or_none (ascii "IH") 5) rooms)
    × (map (counts (ascii "&V")) rooms ≡ map (whole_or_none (ascii "&V") 29) rooms)
    × (map (counts (ascii "Q")) rooms ≡ map (whole_or_none (ascii "Q") 1) rooms)
unfolding in_range text_in_range label_in_range picture_in_range inverse_in_range frame_in_range digit_of padded hex_of times_of items columns_of hex_code item_text numbers_after reader.read_with classes next_states with_number display_of light_of contrast_of after_i cursor_sign after_bracket command_of is_text label_read read_with read_of opens_picture row_and_data drawn_row picture_of order_of blanks line_cleared drawn carry_out store_text keep step Room.run frame_in fed_of answers_after outcome step_in zip_with Keys.step keyed elapsed code_of volume_seen
room_lines = (refl, refl, refl, refl)
