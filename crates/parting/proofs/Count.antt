-- Answer bytes are no more than frames ended, and those no more than ESC bytes and one for a frame that was open.
-- What it speaks of is in specs/Count.antt. Assumes nothing.
use Rattle.std.specs.Prelude.{ℕ, ◌+◌, ◌≤◌, ◌≡◌, refl, List, ◌++◌}
use native.Mathlib.Omega.{arith}
use Rattle.std.proofs.Common.{ap, ne_eqb}
use Rattle.std.proofs.Math.ListN.{length, length-append}
use Rattle.lists.specs.Codes.{escape}
use Rattle.lists.specs.Counted.{counted_append}
use Rattle.lists.specs.Tests.{either_way}
use Rattle.turns.proofs.Room.{answers_begin}
use Rattle.parting.specs.Rules.{Body, empty, collect, Part, text, skipped, closed, abandoned, bytes_of, Parted, done, unfinished, then, Parting, ends, waits, goes_on, Frame, in_limit, Stands, none_stands, open_stands, overlong_stands}
use Rattle.parting.specs.Meaning.{Answered, Meaning, State, Taken, close, act, taking}
use Rattle.parting.specs.Reading.{step, reading}
use Rattle.parting.proofs.Stream.{stream}
use Rattle.parting.specs.Frames.{OfThese, EachClosed, ended_by, ended}
use Rattle.parting.specs.Room.{run}
use Rattle.parting.specs.Count.{is_escape, escapes, waiting, OneAnswer}

escapes_append : (xs ys : List ℕ) → escapes (xs ++ ys) ≡ escapes xs + escapes ys
unfolding escapes
escapes_append = counted_append is_escape

part_escapes : (part : Part) → ended_by part ≤ escapes (bytes_of part)
unfolding escapes
part_escapes (text b) = omega arith
part_escapes (skipped b) = omega arith
part_escapes (closed body) = omega arith
part_escapes (abandoned body) = omega arith

-- Each frame that is ended has its own ESC.
pub ended_escapes : {bytes : List ℕ} {parted : Parted} → Parting bytes parted → ended parted ≤ escapes bytes
unfolding ended
ended_escapes ends = omega arith
ended_escapes (waits h) = omega arith
ended_escapes (goes_on {part} {rest} l f p) = omega (arith, part_escapes part, escapes_append (bytes_of part) rest, ended_escapes p)

body_escapes : {body : List ℕ} → Body body → escapes body ≡ 0
unfolding escapes
body_escapes empty = refl
body_escapes (collect {b} p h) = rw (ne_eqb b escape p.not_escape) (omega (arith, body_escapes h))

stands_escapes : {frame : Frame} {before : List ℕ} → Stands frame before → escapes before ≡ waiting frame
unfolding escapes
stands_escapes none_stands = refl
stands_escapes (open_stands h l) = omega (arith, body_escapes h)
stands_escapes (overlong_stands h l) = omega (arith, body_escapes h)

module _ (M : Meaning) (These : List ℕ → Type 0) (one : OneAnswer M These) where
  close_answers : (core : M.Core) (body : List ℕ) → These body → length (close M core body).answers ≤ 1
  unfolding close
  close_answers core body t =
      either_way (λ (a : Answered M.Core). length a.answers ≤ 1) (in_limit body) (λ e. one.obeyed core body t) (λ e. one.refused core)

  act_answers : (core : M.Core) (part : Part) → OfThese These part → length (act M core part).answers ≤ ended_by part
  unfolding act
  act_answers core (text b) t = omega arith
  act_answers core (skipped b) t = omega arith
  act_answers core (closed body) t = close_answers core body t
  act_answers core (abandoned body) t = one.refused core

  -- Answer bytes are at most the frames ended.
  pub answers_ended : (core : M.Core) (parted : Parted) → EachClosed These parted → length (taking M core parted).answers ≤ ended parted
  unfolding taking ended
  answers_ended core done t = omega arith
  answers_ended core (unfinished body) t = omega arith
  answers_ended core (then part parted) t =
      let next : M.Core = (act M core part).core in
      omega (arith, act_answers core part t.0, answers_ended next parted t.1, length-append (act M core part).answers (taking M next parted).answers)

  -- A stream is answered with at most as many bytes as it has ESC bytes, and one more if a frame was open.
  pub answers_at_most : (state : State M.Core) {before : List ℕ} (bytes : List ℕ) {parted : Parted} → Stands state.frame before → Parting (before ++ bytes) parted → EachClosed These parted
      → length (reading M state bytes).answers ≤ waiting state.frame + escapes bytes
  answers_at_most state {before} bytes {parted} standing p t =
      omega (
        arith,
        ap (λ (x : Taken M.Core). length x.answers) (stream M state bytes standing p),
        answers_ended state.core parted t,
        ended_escapes p,
        escapes_append before bytes,
        stands_escapes standing,
      )

  -- And so is a call, by the stream that it is offered and whatever the room: the count can be made before the call.
  pub call_answers_at_most : (state : State M.Core) {before : List ℕ} (bytes : List ℕ) (room : ℕ) {parted : Parted} → Stands state.frame before
      → Parting (before ++ bytes) parted → EachClosed These parted
      → length (run M state bytes room).answers ≤ waiting state.frame + escapes bytes
  call_answers_at_most state bytes room standing p t =
      let begun = answers_begin (step M) state bytes room in
      omega (arith, answers_at_most state bytes standing p t, ap length begun.1, length-append (run M state bytes room).answers begun.0)
