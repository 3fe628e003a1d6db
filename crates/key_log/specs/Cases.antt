-- Worked examples of the key log, each found by computing, and the note's table of codes. Assumes nothing.
use Rattle.std.specs.Prelude.{ℕ, ◌+◌, ◌≡◌, refl, Bool, true, false, Option, None, Some}
use Prim.Native.Char.{code}
use Prim.Native.String.{String}
use mathlib.Core.List.{List, [], ◌∷◌, ◌++◌, map, zip_with}
use Rattle.lists.specs.Codes.{ascii}
use Rattle.record.specs.declared.Record.{Record}
use Rattle.record.specs.declared.Held.{Held}
use Rattle.record.specs.declared.Keys.{Keys}
use Rattle.record.specs.declared.Times.{Times}
use Rattle.record.specs.declared.Backlight.{Backlight}
use Rattle.record.specs.Number.{paper_number}
use Rattle.record.specs.Range.{auto, stage_short, stage_long, text_in_range, label_in_range, picture_in_range, inverse_in_range, frame_in_range, in_range}
use Rattle.record.specs.PowerOn.{none_down, starting_with, power_on, former_power_on, sister_power_on}
use Rattle.record.specs.With.{with_held, with_edition, with_keys as withKeysDown}
use Rattle.turns.specs.Room.{run}
use Rattle.key_entry.specs.declared.Stage.TheVariants.{Short, Long, Repeat}
use Rattle.key_entry.specs.Codes.{code_of}
use Rattle.key_entry.specs.Rules.{Entry, entry, releases, polls, elapsed, none_held, held_since, long_since, keyed, with_keys, step}
use Rattle.sister_entry.specs.Keys.{bit_of, is_down, with_key, without_key}
use Rattle.sister_entry.specs.Rules.{sign_of, held_since as heldAs, false_with, started, pressed_beside, key_pressed, left_down, key_released, due, long_since as herLongSince, polled, lifted, put_back, ptt_pressed, ptt_released, pressed, released, entered}
use Rattle.key_log.specs.Steps.{sister_step, step_in}
use Rattle.key_log.specs.Log.{outcome}
use Rattle.key_log.specs.Cuts.{ticks_of, edges_of}

-- TABLE 7 OF THE NOTE (section 3.3.1): the letter and the number of the short code, the long and the repeat code; n.a. is none
pub record Line : Type 0 where
  pub letter : Option ℕ
  pub skpm : Option ℕ
  pub lkpm : Option ℕ
  pub akpm : Option ℕ

abbrev line : ℕ → ℕ → ℕ → Option ℕ → Line
line letter skpm lkpm akpm = record { letter = Some letter; skpm = Some skpm; lkpm = Some lkpm; akpm = akpm }

pub table7 : List Line
table7 =
    -- Left-Soft-Key
    line (code "L") 0x4C 0xCC (Some 0xEC)
    -- Right-Soft-Key
    ∷ line (code "R") 0x52 0xD2 (Some 0xE2)
    -- ESC (red key)
    ∷ line (code "E") 0x45 0xC5 None
    -- ENTER (green key)
    ∷ line (code "A") 0x41 0xC1 None
    -- Rocker UP
    ∷ line (code "U") 0x55 0xD5 (Some 0xE5)
    -- Rocker DOWN
    ∷ line (code "D") 0x44 0xC4 (Some 0xE4)
    -- Key "1" to "9"
    ∷ line (code "1") 0x31 0xB1 (Some 0xF1)
    ∷ line (code "2") 0x32 0xB2 (Some 0xF2)
    ∷ line (code "3") 0x33 0xB3 (Some 0xF3)
    ∷ line (code "4") 0x34 0xB4 (Some 0xF4)
    ∷ line (code "5") 0x35 0xB5 (Some 0xF5)
    ∷ line (code "6") 0x36 0xB6 (Some 0xF6)
    ∷ line (code "7") 0x37 0xB7 (Some 0xF7)
    ∷ line (code "8") 0x38 0xB8 (Some 0xF8)
    ∷ line (code "9") 0x39 0xB9 (Some 0xF9)
    -- Key "0"
    ∷ line (code "0") 0x30 0xB0 (Some 0xF0)
    -- Key "*"
    ∷ line (code "*") 0x2A 0xAA (Some 0xEA)
    -- Key "#"
    ∷ line (code "#") 0x23 0xA3 (Some 0xEB)
    -- Key "ON/OFF"
    ∷ line (code "O") 0x4F 0xCF (Some 0xEF)
    ∷ []

-- the line of a key by the rules
abbrev line_of : ℕ → Line
line_of key = record { letter = code_of key Short; skpm = code_of key Short; lkpm = code_of key Long; akpm = code_of key Repeat }

abbrev keys : List ℕ
keys = 0 ∷ 1 ∷ 2 ∷ 3 ∷ 4 ∷ 5 ∷ 6 ∷ 7 ∷ 8 ∷ 9 ∷ 10 ∷ 11 ∷ 12 ∷ 13 ∷ 14 ∷ 15 ∷ 16 ∷ 17 ∷ 18 ∷ []

-- All 57 codes of keys 0 to 18 are the note's.
pub table_as_noted : map line_of keys ≡ table7
unfolding code_of table7
table_as_noted = refl

-- WORKED EXAMPLES
abbrev left_soft : ℕ
left_soft = 0

abbrev escape_key : ℕ
escape_key = 2

abbrev one : ℕ
one = 6

abbrev two : ℕ
two = 7

abbrev press : ℕ → ℕ → Entry
press key tick = entry tick key

abbrev release : ℕ → ℕ → Entry
release key tick = entry tick (releases + key)

abbrev poll : ℕ → Entry
poll tick = entry tick polls

-- the power-on record with these times, and the backlight in auto with a duration of 30 and this left
abbrev times : ℕ → ℕ → Times
times time1 time2 = record { time1 = record { 0 = time1 }; time2 = record { 0 = time2 } }

abbrev light_with : ℕ → Backlight
light_with left = record { mode = auto; duration = record { 0 = 30 }; left = record { 0 = left }; keypad = false }

abbrev starting : Times → Held → ℕ → Record
starting t held left = with_keys (starting_with t) held (light_with left)

abbrev fresh : ℕ → ℕ → Record
fresh time1 time2 = starting (times time1 time2) none_held 0

-- stage long since a tick
abbrev held_long : ℕ → ℕ → Held
held_long key tick = long_since (held_since key tick) tick

-- what is looked at after a call: the number, the counts, the codes, the held key and the seconds left; the sister's keys, whether it is
-- on-hook and PTT pressed
pub record Seen : Type 0 where
  pub number : ℕ
  pub used : ℕ
  pub codes : List ℕ
  pub held : Held
  pub left : ℕ
  pub down : Keys
  pub hook : Bool
  pub ptt : Bool

pub record Case : Type 0 where
  pub start : Record
  pub ticks : List ℕ
  pub edges : List ℕ
  pub room : ℕ
  pub expected : Seen

abbrev found : Case → Seen
found c =
    let o = outcome c.start c.ticks c.edges c.room in
    record {
      number = paper_number o.number;
      used = o.ran.used;
      codes = o.ran.answers;
      held = o.ran.state.held;
      left = o.ran.state.settings.backlight.left.0;
      down = o.ran.state.edition.keys;
      hook = o.ran.state.settings.hook;
      ptt = o.ran.state.edition.ptt;
    }

-- a log of the first edition's leaves what is the sister's, and the hook
abbrev expecting : Record → ℕ → ℕ → List ℕ → Held → ℕ → Seen
expecting start number used codes held left =
    record { number = number; used = used; codes = codes; held = held; left = left; down = start.edition.keys; hook = start.settings.hook; ptt = start.edition.ptt }

-- a log with room for eight codes, and what is expected: all used, these codes, this held key, this left
abbrev all : Record → List Entry → ℕ → List ℕ → Held → ℕ → Case
all start log used codes held left =
    record { start = start; ticks = ticks_of log; edges = edges_of log; room = 8; expected = expecting start 0 used codes held left }

-- a log with no room: what is used and held when the call stops
abbrev no_room : Record → List Entry → ℕ → Held → ℕ → Case
no_room start log used held left =
    record { start = start; ticks = ticks_of log; edges = edges_of log; room = 0; expected = expecting start 0 used [] held left }

-- a log that is refused with this number
abbrev refused_with : ℕ → Record → List ℕ → List ℕ → ℕ → Case
refused_with number start ticks edges room =
    record {
      start = start;
      ticks = ticks;
      edges = edges;
      room = room;
      expected = expecting start number 0 [] start.held start.settings.backlight.left.0;
    }

-- THE SISTER'S: her power-on record has Time1 and Time2 12 and the light in auto for 30; here with these keys down
abbrev sister_with_down : Keys → Record
sister_with_down down = with_edition sister_power_on (withKeysDown sister_power_on.edition down)

-- a message by the signs between ESC and CR LF
abbrev message : String → List ℕ
message signs = 0x1B ∷ ascii signs ++ 0x0D ∷ 0x0A ∷ []

-- from these keys, with this room: what is used and sent, the keys, the seconds left, hook and PTT
abbrev hers : Keys → List Entry → ℕ → ℕ → List ℕ → Keys → ℕ → Bool → Bool → Case
hers from log room used sent down left hook ptt =
    record {
      start = sister_with_down from;
      ticks = ticks_of log;
      edges = edges_of log;
      room = room;
      expected = record { number = 0; used = used; codes = sent; held = none_held; left = left; down = down; hook = hook; ptt = ptt };
    }

pub cases : List Case
cases =
    -- document 01: key "1" pressed at 65530, Time1 12: poll at 113 nothing
    all (fresh 12 12) (press one 65530 ∷ poll 113 ∷ []) 2 [] (held_since one 65530) 30
    -- document 01: at 114 B1
    ∷ all (fresh 12 12) (press one 65530 ∷ poll 113 ∷ poll 114 ∷ []) 3 (0xB1 ∷ []) (held_long one 114) 30
    -- document 01: release at 113: 31
    ∷ all (fresh 12 12) (press one 65530 ∷ release one 113 ∷ []) 2 (0x31 ∷ []) none_held 30
    -- a release at 10 times Time1 with no poll before gives the long code
    ∷ all (fresh 12 12) (press one 65530 ∷ release one 114 ∷ []) 2 (0xB1 ∷ []) none_held 30
    -- a release after long gives nothing
    ∷ all (fresh 12 12) (press one 65530 ∷ poll 114 ∷ release one 115 ∷ []) 3 (0xB1 ∷ []) none_held 30
    -- a poll much later gives the long code alone; Time2 counts from that poll: nothing one tick before, and the repeat code at exactly Time2
    ∷ all (fresh 12 8) (press one 0 ∷ poll 1000 ∷ poll 1079 ∷ poll 1080 ∷ poll 1159 ∷ []) 5 (0xB1 ∷ 0xF1 ∷ []) (held_long one 1080) 30
    -- from the power-on record a key that is held down does not repeat, from that of the former defaults it does
    ∷ all power_on (press one 0 ∷ poll 120 ∷ poll 240 ∷ poll 360 ∷ []) 4 (0xB1 ∷ []) (held_long one 120) 0
    ∷ all former_power_on (press one 0 ∷ poll 120 ∷ poll 240 ∷ poll 360 ∷ []) 4 (0xB1 ∷ 0xF1 ∷ 0xF1 ∷ []) (held_long one 360) 0
    -- Time2 0: no repeat, and the held tick stays
    ∷ all (fresh 12 0) (press one 0 ∷ poll 120 ∷ poll 60000 ∷ []) 3 (0xB1 ∷ []) (held_long one 120) 30
    -- ESC has no repeat code: nothing, and the held tick stays
    ∷ all (fresh 12 12) (press escape_key 0 ∷ poll 120 ∷ poll 60000 ∷ []) 3 (0xC5 ∷ []) (held_long escape_key 120) 30
    -- a press while another is held, or the same again: nothing, the held tick and the seconds left included
    ∷ all (starting (times 12 12) (held_since one 5) 7) (press two 9 ∷ press one 9 ∷ []) 2 [] (held_since one 5) 7
    -- release of a key not held, and poll with none held: nothing
    ∷ all (starting (times 12 12) (held_since one 5) 7) (release two 9 ∷ []) 1 [] (held_since one 5) 7
    ∷ all (starting (times 12 12) none_held 7) (release one 9 ∷ poll 500 ∷ []) 2 [] none_held 7
    -- the clock runs over: 65,535 ticks are long, one tick more can't be told from none
    ∷ all (fresh 50 12) (press one 7 ∷ poll 6 ∷ []) 2 (0xB1 ∷ []) (held_long one 6) 30
    ∷ all (fresh 4 12) (press one 7 ∷ poll 7 ∷ []) 2 [] (held_since one 7) 30
    -- no room for the short code, for the long code at a release, at a poll, and for the repeat code: the key is still held
    ∷ no_room (fresh 12 12) (press one 0 ∷ release one 119 ∷ []) 1 (held_since one 0) 30
    ∷ no_room (fresh 12 12) (press one 0 ∷ release one 120 ∷ []) 1 (held_since one 0) 30
    ∷ no_room (fresh 12 12) (press one 0 ∷ poll 119 ∷ poll 120 ∷ poll 121 ∷ []) 2 (held_since one 0) 30
    ∷ no_room (starting (times 12 12) (held_long one 0) 7) (poll 119 ∷ poll 120 ∷ []) 1 (held_long one 0) 7
    -- no room hinders no entry that sends nothing
    ∷ no_room (starting (times 12 12) (held_long left_soft 0) 7) (release left_soft 500 ∷ press left_soft 501 ∷ poll 502 ∷ []) 3 (held_since left_soft 501) 30
    -- an empty log
    ∷ no_room (fresh 12 12) [] 0 none_held 0
    -- 4: the edges that stand beside the listed ones, also past the place where the room ends
    ∷ refused_with 4 (fresh 12 12) (0 ∷ []) (19 ∷ []) 8
    ∷ refused_with 4 (fresh 12 12) (0 ∷ []) (127 ∷ []) 8
    ∷ refused_with 4 (fresh 12 12) (0 ∷ []) (147 ∷ []) 8
    ∷ refused_with 4 (fresh 12 12) (0 ∷ []) (254 ∷ []) 8
    ∷ refused_with 4 (fresh 12 12) (0 ∷ 1 ∷ 2 ∷ []) (one ∷ (releases + one) ∷ 147 ∷ []) 0
    -- listed: the last press and the last release
    ∷ all (fresh 12 12) (press 18 0 ∷ release 18 1 ∷ []) 2 (0x4F ∷ []) none_held 30
    -- 5 before 4, whichever slice is longer
    ∷ refused_with 5 (fresh 12 12) (0 ∷ []) (19 ∷ 19 ∷ []) 8
    ∷ refused_with 5 (fresh 12 12) (0 ∷ 1 ∷ []) (19 ∷ []) 8
    -- 1 before 5 and 4, and with an empty log: Time1 3 is out of range
    ∷ refused_with 1 (fresh 3 12) (0 ∷ []) (19 ∷ 19 ∷ []) 8
    ∷ refused_with 1 (fresh 3 12) [] [] 0
    -- the sister: a press and its release, in just enough room
    ∷ hers none_down (press one 100 ∷ release one 150 ∷ []) 12 2 (message "K1s" ++ message "K1e") none_down 30 true false
    -- long at Time1 and not one tick before, then a repeat at Time2
    ∷ hers none_down (press one 100 ∷ poll 219 ∷ poll 220 ∷ poll 339 ∷ poll 340 ∷ []) 18 5 (message "K1s" ++ message "K1l" ++ message "K1r") (heldAs stage_long one 340) 30 true false
    -- a second key: KFx once, and silence until none is down; the next message is an s
    ∷ hers none_down (press one 0 ∷ press two 5 ∷ poll 500 ∷ release one 510 ∷ press one 520 ∷ release two 530 ∷ release one 540 ∷ press two 550 ∷ []) 18 8 (message "K1s" ++ message "KFx" ++ message "K2s") (heldAs stage_short two 550) 30 true false
    -- HOOK in the state false, and PTT: no seconds, and the keys 6 and 7 are still down
    ∷ hers (false_with 0xC0) (press 21 0 ∷ press 22 1 ∷ []) 12 2 (message "KHs" ++ message "KPs") (false_with 0xC0) 0 false true
    -- 5 bytes are too few for a message: the call stops before its entry, and nothing is written; nor is a second message cut
    ∷ hers none_down (press one 100 ∷ []) 5 0 [] none_down 0 true false
    ∷ hers none_down (press one 100 ∷ release one 150 ∷ []) 11 1 (message "K1s") (heldAs stage_short one 100) 30 true false
    -- no room hinders no entry that sends nothing
    ∷ hers (false_with 0xC0) (release one 0 ∷ release two 1 ∷ poll 2 ∷ []) 0 3 [] none_down 0 true false
    -- 4: the edges past PTT, press and release; in the first edition those of MUTE, REC/SOS, HOOK and PTT
    ∷ refused_with 4 sister_power_on (0 ∷ []) (23 ∷ []) 8
    ∷ refused_with 4 sister_power_on (0 ∷ []) (151 ∷ []) 8
    ∷ refused_with 4 (fresh 12 12) (0 ∷ []) (20 ∷ []) 8
    ∷ refused_with 4 (fresh 12 12) (0 ∷ []) (21 ∷ []) 8
    ∷ refused_with 4 (fresh 12 12) (0 ∷ []) (22 ∷ []) 8
    ∷ refused_with 4 (fresh 12 12) (0 ∷ []) (150 ∷ []) 8
    -- 1: the first edition's held key is unused in hers
    ∷ refused_with 1 (with_held sister_power_on (held_since one 5)) [] [] 0
    ∷ []

-- Every example is found as expected.
pub cases_hold : map found cases ≡ map (λ (c : Case). c.expected) cases
unfolding cases outcome in_range text_in_range label_in_range picture_in_range inverse_in_range frame_in_range zip_with run step_in step keyed elapsed code_of sister_step bit_of is_down with_key without_key sign_of started pressed_beside key_pressed left_down key_released due herLongSince polled lifted put_back ptt_pressed ptt_released pressed released entered
cases_hold = refl
