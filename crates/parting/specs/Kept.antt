-- FACTS THAT ARE KEPT: what text bytes and frames keep, every stream keeps; and the frame stays in its range. Assumes nothing.
-- The theorems are in proofs/Kept.antt.
use Rattle.std.specs.Prelude.{ℕ, ◌≤◌, List, length}
use Rattle.lists.specs.Codes.{blank}
use Rattle.parting.specs.Rules.{Body, limit, FrameInRange}
use Rattle.parting.specs.Meaning.{Meaning, State}

-- the fact holds of the record, and its frame is in range
pub record Sound {Core : Type 0} (Holds : Core → Type 0) (state : State Core) : Type 0 where
  pub holds : Holds state.core
  pub frame : FrameInRange state.frame

-- A fact that storing a text byte and obeying a frame of the rules keep
pub record Keeps (M : Meaning) (Holds : M.Core → Type 0) : Type 0 where
  pub stored : (core : M.Core) (b : ℕ) → blank ≤ b → Holds core → Holds (M.store core b)
  pub obeyed : (core : M.Core) (body : List ℕ) → Body body → length body ≤ limit → Holds core → Holds (M.obey core body).core
