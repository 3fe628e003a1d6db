-- What text bytes and frames keep, every stream keeps; and the frame stays in its range.
-- What it speaks of is in specs/Kept.antt. Assumes nothing.
use Rattle.std.specs.Prelude.{ℕ, List, [], ◌∷◌, ◌++◌, length}
use Rattle.std.proofs.Common.{arith, leb-true, ne_eqb, le-leb}
use Rattle.std.proofs.lemmas.Bool.{lt-leb}
use Rattle.lists.specs.Codes.{escape, carriage_return, blank}
use Rattle.lists.specs.Tests.{either_way}
use Rattle.turns.specs.Taking
use Rattle.turns.proofs.Room as RoomLaws
use Rattle.parting.specs.Rules.{Plain, Body, empty, Frame, no_frame, open_frame, overlong, limit, in_limit, keep, FrameInRange}
use Rattle.parting.specs.Meaning.{Answered, Meaning, State, refuse}
use Rattle.parting.specs.Cut.{Outside, opening, letter, skipping, Inside, abandoning, closing, collecting}
use Rattle.parting.proofs.Cut.{outside_of, inside_of, body_more}
use Rattle.parting.specs.Reading.{step_outside, step_inside, step_from, step, reading}
use Rattle.parting.specs.Room.{run}
use Rattle.parting.specs.Kept.{Sound, Keeps}

keep_in_range : (body : List ℕ) → Body body → FrameInRange (keep body)
unfolding keep
keep_in_range body h = either_way FrameInRange (in_limit body) (λ e. (h, leb-true (length body) limit e)) (λ e. tt)

module _ (M : Meaning) (Holds : M.Core → Type 0) (keeps : Keeps M Holds) where
  outside_keeps : (core : M.Core) (b : ℕ) → Holds core → Sound Holds (step_outside M core b).state
  outside_keeps core b h = go (outside_of b)
    where
      go : Outside b → Sound Holds (step_outside M core b).state
      go (opening e) = rw e (record { holds = h; frame = (empty, omega arith) })
      go (letter l) = rw (ne_eqb b escape (λ e. omega arith), le-leb blank b l) (record { holds = keeps.stored core b l h; frame = tt })
      go (skipping l n) = rw (ne_eqb b escape n, lt-leb blank b l) (record { holds = h; frame = tt })

  inside_keeps : (core : M.Core) (b : ℕ) (ended : Answered M.Core) (more : Frame) → Holds core → Holds ended.core → (Plain b → FrameInRange more)
      → Sound Holds (step_inside M core b ended more).state
  inside_keeps core b ended more h k f = go (inside_of b)
    where
      go : Inside b → Sound Holds (step_inside M core b ended more).state
      go (abandoning e) = rw e (record { holds = h; frame = (empty, omega arith) })
      go (closing e) = rw e (record { holds = k; frame = tt })
      go (collecting p) = rw (ne_eqb b escape p.not_escape, ne_eqb b carriage_return p.not_return) (record { holds = h; frame = f p })

  -- One byte keeps the fact, and the frame in its range.
  pub step_keeps : (state : State M.Core) (b : ℕ) → Sound Holds state → Sound Holds (step M state b).state
  unfolding step
  step_keeps state b h = go state.frame h.frame
    where
      go : (frame : Frame) → FrameInRange frame → Sound Holds (step_from M state.core frame b).state
      go no_frame f = outside_keeps state.core b h.holds
      go (open_frame body) f =
          inside_keeps state.core b (M.obey state.core body) (keep (body ++ b ∷ [])) h.holds (keeps.obeyed state.core body f.0 f.1 h.holds) (λ p. keep_in_range (body ++ b ∷ []) (body_more f.0 p))
      go overlong f = inside_keeps state.core b (refuse M state.core) overlong h.holds h.holds (λ p. tt)

  -- Every stream keeps it.
  pub reading_keeps : (state : State M.Core) (bytes : List ℕ) → Sound Holds state → Sound Holds (reading M state bytes).state
  reading_keeps = Taking.reading_keeps (step M) (Sound Holds) step_keeps

  -- Every call keeps it, whatever its room.
  pub run_keeps : (state : State M.Core) (bytes : List ℕ) (room : ℕ) → Sound Holds state → Sound Holds (run M state bytes room).state
  run_keeps = RoomLaws.run_keeps (step M) (Sound Holds) step_keeps

-- The frame that is kept is always in its range, whatever the handset.
pub frame_in_range : (M : Meaning) (state : State M.Core) (bytes : List ℕ) (room : ℕ) → FrameInRange state.frame → FrameInRange (run M state bytes room).state.frame
frame_in_range M state bytes room h =
    (run_keeps M (λ (core : M.Core). Unit {0}) (record { stored = λ core b l u. u; obeyed = λ core body p l u. u }) state bytes room (record { holds = tt; frame = h })).frame
