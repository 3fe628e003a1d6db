-- LIMITED ROOM FOR ANSWERS: a call stops exactly before the first entry whose whole answer does not fit. What it is, what is asked
-- of it, that it does so, and that nothing else does. Assumes nothing.
-- The theorems are in proofs/Room.antt.
use Prim.Native.Nat.{ℕ, suc, ◌+◌, ◌-◌, ◌≤◌, ◌<◌}
use Rattle.std.specs.Prelude.{◌⊎◌, ◌≡◌, Bool, cond, leb}
use mathlib.Core.List.{List, [], ◌∷◌, ◌++◌}
use Rattle.std.proofs.Math.ListN.{length, take}
use Rattle.turns.specs.Taking.{Taken, reading}

-- what a call has done: the state it leaves, how many entries it used, and what it answered
pub record Ran (State : Type 0) : Type 0 where
  pub state : State
  pub used : ℕ
  pub answers : List ℕ

abbrev pub taken_of : {State : Type 0} → Ran State → Taken State
taken_of ran = record { state = ran.state; answers = ran.answers }

-- nothing used
abbrev pub stopped : {State : Type 0} → State → Ran State
stopped state = record { state = state; used = 0; answers = [] }

-- one entry more was used before, with this answer
abbrev pub onward : {State : Type 0} → List ℕ → Ran State → Ran State
onward answer ran = record { state = ran.state; used = suc ran.used; answers = answer ++ ran.answers }

-- the whole answer fits
abbrev pub has_room : ℕ → ℕ → Bool
has_room need room = leb need room

module _ {State Entry : Type 0} (step : State → Entry → Taken State) where
  -- A CALL on these entries, with this much room
  unfoldable pub run : State → List Entry → ℕ → Ran State
  run state [] room = stopped state
  run state (entry ∷ entries) room =
      let taken = step state entry in
      let need = length taken.answers in
      cond (has_room need room) (onward taken.answers (run taken.state entries (room - need))) (stopped state)

  -- WHAT IS ASKED OF A CALL: it uses entries that were offered; it does what they do; its answers fit; and it uses them all, or the
  -- next one would have answered more than there is room for.
  pub record Stops (state : State) (entries : List Entry) (room : ℕ) (ran : Ran State) : Type 0 where
    pub within : ran.used ≤ length entries
    pub does : taken_of ran ≡ reading step state (take ran.used entries)
    pub fits : length ran.answers ≤ room
    pub stops : (ran.used ≡ length entries) ⊎ (room < length (reading step state (take (suc ran.used) entries)).answers)
