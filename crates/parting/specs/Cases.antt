-- SMALL CASES, computed: document 01's own, the limit, the stop for room at each kind of byte, a frame cut at every place. One
-- table, one statement. Assumes nothing.
use Rattle.std.specs.Prelude.{ℕ, ◌≡◌, refl, cond, List, [], ◌∷◌, ◌++◌, map, eqb, length, take, drop, get_or, replicate}
use Prim.Native.Char.{code}
use Rattle.lists.specs.Codes.{ascii, escape, carriage_return, line_feed, question_mark}
use Rattle.turns.specs.Room
use Rattle.parting.specs.Rules.{text, skipped, closed, abandoned, Frame, no_frame, open_frame, overlong, keep, Placed, places, tail_place}
use Rattle.parting.specs.Meaning.{Meaning, State, with}
use Rattle.parting.specs.Cut.{outside, cut}
use Rattle.parting.specs.Reading.{step}
use Rattle.parting.specs.Room.{Ran, run}
use Rattle.parting.specs.Calls.{Session, session}

-- a small handset: it notes text bytes and good frames; a frame is good if it begins with K; it answers so to a bad one
pub record Notes : Type 0 where
  pub text : List ℕ
  pub frames : List (List ℕ)

abbrev handset : List ℕ → Meaning
handset bad =
    record {
      Core = Notes;
      store = λ notes b. record { text = notes.text ++ b ∷ []; frames = notes.frames };
      obey = λ notes body.
          cond (eqb (get_or body 0 0) (code "K")) (record { core = record { text = notes.text; frames = notes.frames ++ body ∷ [] }; answers = [] }) (record { core = notes; answers = bad });
      bad_answer = λ notes. bad;
    }

abbrev start : Frame → State Notes
start frame = with (record { text = []; frames = [] }) frame

abbrev query : List ℕ
query = question_mark ∷ []

-- what is compared: text and frames noted, the frame kept, how many bytes were used, the answers; or the parts with their places
pub data Found : Type 0 where
  noted : List ℕ → List (List ℕ) → Frame → ℕ → List ℕ → Found
  stand : List Placed → ℕ → Found

abbrev of_ran : Ran Notes → Found
of_ran ran = noted ran.state.core.text ran.state.core.frames ran.state.frame ran.used ran.answers

abbrev of_session : Session Notes → Found
of_session s = noted s.state.core.text s.state.core.frames s.state.frame (length s.unused) s.answers

-- a call, from this frame, on these bytes, with this room
abbrev call : Frame → List ℕ → ℕ → Found
call frame bytes room = of_ran (run (handset query) (start frame) bytes room)

-- the same where a bad frame is answered with three bytes
abbrev call_long : Frame → List ℕ → ℕ → Found
call_long frame bytes room = of_ran (run (handset (question_mark ∷ carriage_return ∷ line_feed ∷ [])) (start frame) bytes room)

-- two calls, the stream cut at this place, the first without room; the unused bytes are offered again (and counted)
abbrev two_calls : List ℕ → ℕ → Found
two_calls bytes at = of_session (session (run (handset query)) (start no_frame) [] (record { entries = take at bytes; room = 0 } ∷ record { entries = drop at bytes; room = 9 } ∷ []))

abbrev places_of : List ℕ → Found
places_of bytes = stand (places 0 (cut outside bytes)) (tail_place 0 (cut outside bytes))

abbrev esc : List ℕ → List ℕ
esc bytes = escape ∷ bytes

-- ESC, these codes, CR, those bytes
abbrev framed : List ℕ → List ℕ → List ℕ
framed body rest = esc (body ++ carriage_return ∷ rest)

-- K and so many more
abbrev many : ℕ → List ℕ
many n = code "K" ∷ replicate n (code "A")

pub record Case : Type 0 where
  pub found : Found
  pub expected : Found

abbrev gives : Found → Found → Case
gives found expected = record { found = found; expected = expected }

abbrev cases : List Case
cases =
    -- ESC CR gives '?', ESC ESC CR gives '??'
    gives (call no_frame (framed [] []) 9) (noted [] [] no_frame 2 query)
    ∷ gives (call no_frame (esc (framed [] [])) 9) (noted [] [] no_frame 3 (query ++ query))
    -- a good frame is obeyed once and is silent; CR and CR LF end it alike; LF inside a frame belongs to it
    ∷ gives (call no_frame (framed (ascii "K1") []) 9) (noted [] (ascii "K1" ∷ []) no_frame 4 [])
    ∷ gives (call no_frame (framed (ascii "K1") (line_feed ∷ [])) 9) (noted [] (ascii "K1" ∷ []) no_frame 5 [])
    ∷ gives (call no_frame (framed (ascii "K" ++ line_feed ∷ []) []) 9) (noted [] ((ascii "K" ++ line_feed ∷ []) ∷ []) no_frame 4 [])
    -- outside a frame codes from 0x20 to 0xFF are text, all others are skipped; text at the end is text
    ∷ gives (call no_frame (0 ∷ 0x1F ∷ 0x20 ∷ 0xFF ∷ carriage_return ∷ line_feed ∷ []) 0) (noted (0x20 ∷ 0xFF ∷ []) [] no_frame 6 [])
    ∷ gives (call no_frame (framed (ascii "K") (ascii "Meter")) 9) (noted (ascii "Meter") (ascii "K" ∷ []) no_frame 8 [])
    -- the tail waits, and a lone ESC is an open frame
    ∷ gives (call no_frame (ascii "Hi" ++ esc (ascii "K1")) 9) (noted (ascii "Hi") [] (open_frame (ascii "K1")) 5 [])
    ∷ gives (call no_frame (esc []) 9) (noted [] [] (open_frame []) 1 [])
    ∷ gives (call (open_frame (ascii "K1")) (ascii "2" ++ carriage_return ∷ []) 9) (noted [] (ascii "K12" ∷ []) no_frame 2 [])
    -- ESC abandons the frame, gives '?' and opens the next
    ∷ gives (call (open_frame (ascii "K1")) (framed (ascii "K2") []) 9) (noted [] (ascii "K2" ∷ []) no_frame 4 query)
    -- an answer for each ESC byte and one for the frame that was open: no stream is answered with more
    ∷ gives (call (open_frame (ascii "X")) (esc (framed [] [])) 9) (noted [] [] no_frame 3 (query ++ (query ++ query)))
    -- 250 bytes are a frame; the 251st makes it overlong, and it gives one '?', at CR or at ESC
    ∷ gives (call no_frame (framed (many 249) []) 9) (noted [] (many 249 ∷ []) no_frame 252 [])
    ∷ gives (call no_frame (esc (many 249)) 9) (noted [] [] (open_frame (many 249)) 251 [])
    ∷ gives (call no_frame (esc (many 250)) 0) (noted [] [] overlong 252 [])
    ∷ gives (call no_frame (framed (many 250) []) 9) (noted [] [] no_frame 253 query)
    ∷ gives (call overlong (ascii "A" ++ carriage_return ∷ ascii "A") 9) (noted (ascii "A") [] no_frame 3 query)
    ∷ gives (call overlong (framed (ascii "K") []) 9) (noted [] (ascii "K" ∷ []) no_frame 3 query)
    -- without room: text, skipped bytes, opening and collecting go on, and so does a good frame
    ∷ gives (call no_frame (ascii "Hi" ++ line_feed ∷ framed (ascii "K") []) 0) (noted (ascii "Hi") (ascii "K" ∷ []) no_frame 6 [])
    -- it stops before the CR of a bad frame, and before the ESC that abandons one; the frame stays
    ∷ gives (call no_frame (framed (ascii "X") (ascii "A")) 0) (noted [] [] (open_frame (ascii "X")) 2 [])
    ∷ gives (call (open_frame (ascii "K")) (framed (ascii "K") []) 0) (noted [] [] (open_frame (ascii "K")) 0 [])
    ∷ gives (call overlong (ascii "A" ++ carriage_return ∷ []) 0) (noted [] [] overlong 1 [])
    ∷ gives (call overlong (framed (ascii "K") []) 0) (noted [] [] overlong 0 [])
    -- when the room is full it goes on to the next answer
    ∷ gives (call no_frame (framed [] (ascii "Hi" ++ framed [] [])) 1) (noted (ascii "Hi") [] (open_frame []) 5 query)
    ∷ gives (call no_frame (esc (framed [] [])) 1) (noted [] [] (open_frame []) 2 query)
    -- no half answer is written
    ∷ gives (call_long no_frame (framed [] []) 2) (noted [] [] (open_frame []) 1 [])
    ∷ gives (call_long no_frame (framed [] []) 3) (noted [] [] no_frame 2 (question_mark ∷ carriage_return ∷ line_feed ∷ []))
    -- the place of each part, and of the tail
    ∷ gives (places_of (ascii "A" ++ framed (ascii "K") (line_feed ∷ esc (ascii "X" ++ esc (ascii "K1")))))
    (stand (record { place = 0; part = text (code "A") } ∷ record { place = 1; part = closed (ascii "K") } ∷ record { place = 4; part = skipped line_feed } ∷ record { place = 5; part = abandoned (ascii "X") } ∷ []) 7)
    -- a good frame, an abandoned one and a bad one, with text behind them, cut at every place
    ∷ map (λ (at : ℕ). gives (two_calls (framed (ascii "K1") (esc (ascii "X" ++ framed (ascii "X") (ascii "A")))) at) (noted (ascii "A") (ascii "K1" ∷ []) no_frame 0 (query ++ query)))
    (0 ∷ 1 ∷ 2 ∷ 3 ∷ 4 ∷ 5 ∷ 6 ∷ 7 ∷ 8 ∷ 9 ∷ 10 ∷ [])

-- Each case gives what is expected.
pub table : map (λ (c : Case). c.found) cases ≡ map (λ (c : Case). c.expected) cases
unfolding Room.run step keep session cut places tail_place
table = refl
