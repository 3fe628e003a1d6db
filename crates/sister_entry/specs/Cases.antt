-- Worked cases of the rules: whole logs, and what they send and leave. Assumes nothing.
use Rattle.std.specs.Prelude.{ℕ, Bool, true, false, List, [], ◌∷◌, ◌++◌, map, ◌≡◌, refl, Option, None, Some}
use Rattle.lists.specs.Codes.{ascii}
use Rattle.record.specs.declared.Times.{Times}
use Rattle.record.specs.declared.Backlight.{Backlight}
use Rattle.record.specs.Range.{auto, on}
use Rattle.key_entry.specs.Rules.{elapsed}
use Rattle.sister_entry.specs.declared.SisterKeyed.{SisterKeyed}
use Rattle.sister_entry.specs.declared.Message.{Message}
use Rattle.sister_entry.specs.declared.Message.TheVariants.{False, Event}
use Rattle.sister_entry.specs.Keys.{bit_of, is_down, with_key, without_key}
use Rattle.record.specs.PowerOn.{none_down}
use Rattle.sister_entry.specs.Rules.{sign_of, listed, before, held_since, false_with, started, pressed_beside, key_pressed, left_down, key_released, due, long_since, polled, lifted, put_back, ptt_pressed, ptt_released, pressed, released, entered, keyed}

-- a log: tick and edge of each entry
abbrev pub Log : Type 0
Log = List (ℕ × ℕ)

-- the message of an entry is not part of what the next one finds
abbrev pub next : SisterKeyed → Times → ℕ × ℕ → SisterKeyed
next was times e = keyed was.keys times was.backlight was.hook was.ptt e.0 e.1

-- a message as two signs: -- for none
abbrev pub shown : Option Message → List ℕ
shown None = ascii "--"
shown (Some False) = ascii "Fx"
shown (Some (Event sign event)) = sign ∷ event ∷ []

abbrev pub sent_from : SisterKeyed → Times → Log → List ℕ
sent_from was times [] = []
sent_from was times (e ∷ log) = shown (next was times e).message ++ sent_from (next was times e) times log

abbrev pub left_from : SisterKeyed → Times → Log → SisterKeyed
left_from was times [] = was
left_from was times (e ∷ log) = left_from (next was times e) times log

abbrev pub times_of : ℕ → ℕ → Times
times_of time1 time2 = record { time1 = record { 0 = time1 }; time2 = record { 0 = time2 } }

-- a light with a duration of 30 seconds
abbrev pub light : ℕ → ℕ → Backlight
light mode left = record { mode = mode; duration = record { 0 = 30 }; left = record { 0 = left }; keypad = false }

-- none down, auto, on-hook, PTT released
abbrev pub fresh : SisterKeyed
fresh = before none_down (light auto 0) true false

-- Time1 and Time2 are 12, that is 120 ticks, unless they are named
abbrev pub sent : Log → List ℕ
sent log = sent_from fresh (times_of 12 12) log

abbrev pub left : Log → SisterKeyed
left log = left_from fresh (times_of 12 12) log

-- each case: what a log sends, and what the request asks for
abbrev pub messages : List (List ℕ × List ℕ)
messages =
    -- a press and its release
    (sent ((100, 3) ∷ (150, 131) ∷ []), ascii "AsAe")
    -- long at 120 ticks and not at 119, then a repeat every 120, then e alone
    ∷ (sent ((100, 3) ∷ (219, 255) ∷ (220, 255) ∷ (339, 255) ∷ (340, 255) ∷ (460, 255) ∷ (461, 131) ∷ []), ascii "As--Al--ArArAe")
    -- a release after Time1 that no poll saw is e alone
    ∷ (sent ((100, 3) ∷ (9000, 131) ∷ []), ascii "AsAe")
    -- every key repeats, ESC too
    ∷ (sent ((0, 2) ∷ (120, 255) ∷ (240, 255) ∷ []), ascii "EsElEr")
    -- the reading runs over
    ∷ (sent ((65500, 20) ∷ (84, 255) ∷ []), ascii "NsNl")
    -- Time1 0: never long; Time2 0: no repeat
    ∷ (sent_from fresh (times_of 0 0) ((0, 19) ∷ (0, 255) ∷ (65535, 255) ∷ []), ascii "Ms----")
    ∷ (sent_from fresh (times_of 12 0) ((0, 19) ∷ (120, 255) ∷ (65535, 255) ∷ []), ascii "MsMl--")
    -- a second key: Fx once, then nothing until none is down; the next message is an s
    ∷ (sent ((0, 6) ∷ (5, 7) ∷ (10, 8) ∷ (500, 255) ∷ (510, 134) ∷ (520, 6) ∷ (530, 135) ∷ (540, 136) ∷ (550, 134) ∷ (560, 7) ∷ []), ascii "1sFx--------------2s")
    -- from long too
    ∷ (sent ((0, 6) ∷ (120, 255) ∷ (130, 20) ∷ (240, 255) ∷ []), ascii "1s1lFx--")
    -- the same key pressed again, and a release of a key that is not down: nothing, and the held key goes on
    ∷ (sent ((0, 6) ∷ (60, 6) ∷ (70, 135) ∷ (120, 255) ∷ (130, 134) ∷ (140, 134) ∷ []), ascii "1s----1l1e--")
    -- HOOK and PTT, on a change alone; they are no second key
    ∷ (sent ((0, 149) ∷ (1, 21) ∷ (2, 21) ∷ (3, 6) ∷ (4, 22) ∷ (5, 22) ∷ (6, 134) ∷ (7, 149) ∷ (8, 150) ∷ (9, 150) ∷ []), ascii "--Hs--1sPs--1eHePe--")
    -- in false too
    ∷ (sent ((0, 6) ∷ (5, 7) ∷ (6, 21) ∷ (7, 22) ∷ (8, 149) ∷ (9, 150) ∷ (10, 134) ∷ (11, 135) ∷ (12, 6) ∷ []), ascii "1sFxHsPsHePe----1s")
    -- a poll with none down, and what is not listed
    ∷ (sent ((0, 255) ∷ (1, 23) ∷ (2, 127) ∷ (3, 151) ∷ (4, 254) ∷ []), ascii "----------")
    -- the signs of the numbers 0 to 22, as the request prints their codes
    ∷ (
      map sign_of (0 ∷ 1 ∷ 2 ∷ 3 ∷ 4 ∷ 5 ∷ 6 ∷ 7 ∷ 8 ∷ 9 ∷ 10 ∷ 11 ∷ 12 ∷ 13 ∷ 14 ∷ 15 ∷ 16 ∷ 17 ∷ 18 ∷ 19 ∷ 20 ∷ 21 ∷ 22 ∷ 23 ∷ []),
      0x4C ∷ 0x52 ∷ 0x45 ∷ 0x41 ∷ 0x55 ∷ 0x44 ∷ 0x31 ∷ 0x32 ∷ 0x33 ∷ 0x34 ∷ 0x35 ∷ 0x36 ∷ 0x37 ∷ 0x38 ∷ 0x39 ∷ 0x30 ∷ 0x2A ∷ 0x23 ∷ 0x4F ∷ 0x4D ∷ 0x4E ∷ 0x48 ∷ 0x50 ∷ 0 ∷ [],
    )
    -- the events s l r e and x of KFx
    ∷ (sent ((0, 0) ∷ (120, 255) ∷ (240, 255) ∷ (250, 128) ∷ (260, 0) ∷ (270, 1) ∷ []), 0x4C ∷ 0x73 ∷ 0x4C ∷ 0x6C ∷ 0x4C ∷ 0x72 ∷ 0x4C ∷ 0x65 ∷ 0x4C ∷ 0x73 ∷ 0x46 ∷ 0x78 ∷ [])
    ∷ []

-- and what a log leaves
abbrev pub states : List (SisterKeyed × SisterKeyed)
states =
    -- held, tick now, short; in auto left is the duration
    (left ((100, 3) ∷ []), record { keys = held_since 1 3 100; backlight = light auto 30; hook = true; ptt = false; message = Some (Event 0x41 0x73) })
    -- but not where the light is on
    ∷ (left_from (before none_down (light on 0) true false) (times_of 12 12) ((100, 3) ∷ []), record { keys = held_since 1 3 100; backlight = light on 0; hook = true; ptt = false; message = Some (Event 0x41 0x73) })
    -- long, tick now
    ∷ (left ((100, 3) ∷ (220, 255) ∷ []), record { keys = held_since 2 3 220; backlight = light auto 30; hook = true; ptt = false; message = Some (Event 0x41 0x6C) })
    -- a second press starts no seconds again: 2 ^ 6 and 2 ^ 20 are down
    ∷ (left_from (before (held_since 1 6 0) (light auto 7) true false) (times_of 12 12) ((5, 20) ∷ []), record { keys = false_with 0x100040; backlight = light auto 7; hook = true; ptt = false; message = Some False })
    -- a key more, a key less
    ∷ (left_from (before (false_with 0x100040) (light auto 7) true false) (times_of 12 12) ((5, 0) ∷ (6, 134) ∷ (7, 135) ∷ []), before (false_with 0x100001) (light auto 7) true false)
    -- the way back to none
    ∷ (left_from (before (false_with 0x100040) (light auto 7) true false) (times_of 12 12) ((5, 148) ∷ (6, 134) ∷ []), before none_down (light auto 7) true false)
    -- HOOK and PTT in false: no seconds, the keys as they were
    ∷ (left_from (before (false_with 0x100040) (light auto 7) true false) (times_of 12 12) ((5, 21) ∷ (6, 22) ∷ []), record { keys = false_with 0x100040; backlight = light auto 7; hook = false; ptt = true; message = Some (Event 0x50 0x73) })
    ∷ []

-- and which edges are listed: each end of each row, and the values past them
abbrev pub edges : List (Bool × Bool)
edges =
    (listed 0, true) ∷ (listed 22, true) ∷ (listed 23, false) ∷ (listed 127, false) ∷ (listed 128, true) ∷ (listed 150, true) ∷ (listed 151, false) ∷ (listed 254, false) ∷ (listed 255, true) ∷ []

pub cases :
    (map (λ (c : List ℕ × List ℕ). c.0) messages ≡ map (λ (c : List ℕ × List ℕ). c.1) messages)
    × (map (λ (c : SisterKeyed × SisterKeyed). c.0) states ≡ map (λ (c : SisterKeyed × SisterKeyed). c.1) states)
    × (map (λ (c : Bool × Bool). c.0) edges ≡ map (λ (c : Bool × Bool). c.1) edges)
unfolding elapsed bit_of is_down with_key without_key sign_of started pressed_beside key_pressed left_down key_released due long_since polled lifted put_back ptt_pressed ptt_released pressed released entered
cases = (refl, refl, refl)
