-- A loop's account of a call: what is left to take, with the counts and the buffer so far. A concrete loop's invariant is that the
-- walk from here ends as the walk from the start; its turns, its stop and its end are the three laws below. Assumes nothing.
-- The theorems are in proofs/Loop.antt.
use Prim.Native.Nat.{ℕ, ◌+◌, ◌-◌, ◌≤◌}
use Rattle.std.specs.Prelude.{◌≡◌, cond, drop}
use mathlib.Core.List.{List, [], ◌∷◌, ◌++◌}
use Rattle.std.proofs.Math.Seq.{sets}
use Rattle.std.proofs.Math.ListN.{length}
use Rattle.turns.specs.Taking.{Taken}
use Rattle.turns.specs.Room.{Ran, has_room}

-- where a loop stands: the state, how many entries are used and answers written, and the buffer
pub record Walked (State : Type 0) : Type 0 where
  pub state : State
  pub used : ℕ
  pub written : ℕ
  pub buffer : List ℕ

abbrev pub still : {State : Type 0} → State → ℕ → ℕ → List ℕ → Walked State
still state used written buffer = record { state = state; used = used; written = written; buffer = buffer }

-- a buffer after a call: the answers, and past them what stood there before
abbrev pub holding : List ℕ → List ℕ → List ℕ
holding answers before = answers ++ drop (length answers) before

-- where a loop's locals stand after a call is what the call has done
pub record Account {State : Type 0} (ran : Ran State) (before : List ℕ) (end : Walked State) : Type 0 where
  pub state : end.state ≡ ran.state
  pub used : end.used ≡ ran.used
  pub written : end.written ≡ length ran.answers
  pub buffer : end.buffer ≡ holding ran.answers before

module _ {State Entry : Type 0} (step : State → Entry → Taken State) where
  -- where a loop ends that has these entries still before it
  unfoldable pub walk : State → List Entry → ℕ → ℕ → List ℕ → Walked State
  walk state [] used written buffer = still state used written buffer
  walk state (entry ∷ entries) used written buffer =
      let taken = step state entry in
      let need = length taken.answers in
      cond (has_room need (length buffer - written)) (walk taken.state entries (used + 1) (written + need) (sets buffer written taken.answers))
      (still state used written buffer)

  -- What holds at the head of a loop: the counts are within bounds, the buffer has its length, and the rest from here ends as the
  -- whole from the start.
  pub record Going (start : State) (entries : List Entry) (before : List ℕ) (state : State) (used written : ℕ) (buffer : List ℕ) : Type 0 where
    pub inside : used ≤ length entries
    pub room : written ≤ length buffer
    pub even : length buffer ≡ length before
    pub rest : walk start entries 0 0 before ≡ walk state (drop used entries) used written buffer
