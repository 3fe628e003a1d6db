-- WHAT PARTS MEAN, over any handset: its meaning is a parameter. Assumes nothing.
use Rattle.std.specs.Prelude.{ℕ, cond, List, []}
use Rattle.turns.specs.Taking
use Rattle.turns.specs.Taking.{silently, answering}
use Rattle.parting.specs.Rules.{Part, text, skipped, closed, abandoned, Parted, done, unfinished, then, Frame, no_frame, in_limit, keep}

-- what is left of a record without its frame, and the bytes that were answered
pub record Answered (Core : Type 0) : Type 0 where
  pub core : Core
  pub answers : List ℕ

-- A handset: its record without the frame; how it stores a text byte; how it obeys a closed frame of at most 250 bytes,
-- and what it answers; what it answers to a bad frame (one abandoned or overlong)
pub record Meaning : Type 1 where
  pub Core : Type 0
  pub store : Core → ℕ → Core
  pub obey : Core → List ℕ → Answered Core
  pub bad_answer : Core → List ℕ

-- the record, its frame apart
pub record State (Core : Type 0) : Type 0 where
  pub core : Core
  pub frame : Frame

-- the record after some bytes, and what was answered
abbrev pub Taken : Type 0 → Type 0
Taken Core = Taking.Taken (State Core)

-- the record with this frame
abbrev pub with : {Core : Type 0} → Core → Frame → State Core
with core frame = record { core = core; frame = frame }

module _ (M : Meaning) where
  -- a bad frame changes nothing and is answered
  abbrev pub refuse : M.Core → Answered M.Core
  refuse core = record { core = core; answers = M.bad_answer core }

  -- a closed frame is obeyed if it is not overlong
  unfoldable pub close : M.Core → List ℕ → Answered M.Core
  close core body = cond (in_limit body) (M.obey core body) (refuse core)

  -- what one part does and answers
  unfoldable pub act : M.Core → Part → Answered M.Core
  act core (text b) = record { core = M.store core b; answers = [] }
  act core (skipped b) = record { core = core; answers = [] }
  act core (closed body) = close core body
  act core (abandoned body) = refuse core

  -- TAKING THE PARTS IN ORDER; an unfinished tail waits in the record
  unfoldable pub taking : M.Core → Parted → Taken M.Core
  taking core done = silently (with core no_frame)
  taking core (unfinished body) = silently (with core (keep body))
  taking core (then part parted) = answering (act core part).answers (taking (act core part).core parted)
