-- A device takes entries one at a time and answers each with a list of numbers: what taking many does, and that it does
-- not matter where they are cut. Assumes nothing.
use Rattle.std.specs.Prelude.{ℕ, ◌≡◌}
use Rattle.std.proofs.Math.Path.{refl, ap}
use Rattle.std.proofs.Common.{◌∙◌}
use mathlib.Core.List.{List, [], ◌∷◌, ◌++◌, append_assoc}

-- the state after an entry, or after many, and all that was answered
pub record Taken (State : Type 0) : Type 0 where
  pub state : State
  pub answers : List ℕ

-- nothing was answered
abbrev pub silently : {State : Type 0} → State → Taken State
silently state = record { state = state; answers = [] }

-- first these answers, then those
abbrev pub answering : {State : Type 0} → List ℕ → Taken State → Taken State
answering first taken = record { state = taken.state; answers = first ++ taken.answers }

module _ {State Entry : Type 0} (step : State → Entry → Taken State) where
  -- ALL ENTRIES TAKEN IN ORDER
  unfoldable pub reading : State → List Entry → Taken State
  reading state [] = silently state
  reading state (entry ∷ entries) =
      let taken = step state entry in
      answering taken.answers (reading taken.state entries)

  -- A cut changes nothing: to read both parts is to read the first, then the second from where the first ended.
  pub cut_anywhere : (state : State) (first second : List Entry)
      → reading state (first ++ second) ≡ answering (reading state first).answers (reading (reading state first).state second)
  unfolding reading
  cut_anywhere state [] second = refl
  cut_anywhere state (entry ∷ first) second =
      ap (answering (step state entry).answers) (cut_anywhere (step state entry).state first second) ∙ rw append_assoc

  -- A fact of the state that every step keeps is kept by reading.
  pub reading_keeps : (Fact : State → Type 0) → ((state : State) (entry : Entry) → Fact state → Fact (step state entry).state)
      → (state : State) (entries : List Entry) → Fact state → Fact (reading state entries).state
  unfolding reading
  reading_keeps Fact kept state [] fact = fact
  reading_keeps Fact kept state (entry ∷ entries) fact =
      reading_keeps Fact kept (step state entry).state entries (kept state entry fact)
