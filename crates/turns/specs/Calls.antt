-- CALLS IN ORDER: each call is offered what the one before left unused, then its own entries. So long as in the end none is left,
-- neither the cuts nor the rooms matter. Assumes nothing.
-- The theorems are in proofs/Calls.antt.
use Rattle.std.specs.Prelude.{ℕ, ◌≡◌}
use Rattle.std.proofs.Math.Path.{refl, sym, ap, subst}
use Rattle.std.proofs.Common.{◌∙◌}
use mathlib.Core.List.{List, [], ◌∷◌, ◌++◌, append_assoc}
use Rattle.std.proofs.Math.ListN.{drop}
use Rattle.turns.specs.Taking.{Taken}
use Rattle.turns.specs.Room.{Ran}

-- one call: the entries that are new, and its room for answers
pub record Call (Entry : Type 0) : Type 0 where
  pub entries : List Entry
  pub room : ℕ

-- all entries that were new, in order
unfoldable pub offered : {Entry : Type 0} → List (Call Entry) → List Entry
offered [] = []
offered (call ∷ calls) = call.entries ++ offered calls

-- what a list of calls leaves: the state, the entries not used, and all answers
pub record Session (State Entry : Type 0) : Type 0 where
  pub state : State
  pub unused : List Entry
  pub answers : List ℕ

abbrev pub taken_in : {State Entry : Type 0} → Session State Entry → Taken State
taken_in s = record { state = s.state; answers = s.answers }

-- one call more was made before, with these answers
abbrev pub preceded : {State Entry : Type 0} → List ℕ → Session State Entry → Session State Entry
preceded answers later = record { state = later.state; unused = later.unused; answers = answers ++ later.answers }

-- CALLS IN ORDER, of any device
module _ {State Entry : Type 0} (device : State → List Entry → ℕ → Ran State) where
  unfoldable pub session : State → List Entry → List (Call Entry) → Session State Entry
  session state unused [] = record { state = state; unused = unused; answers = [] }
  session state unused (call ∷ calls) =
      let entries = unused ++ call.entries in
      let ran = device state entries call.room in
      preceded ran.answers (session ran.state (drop ran.used entries) calls)

-- Two devices, over states of which one shows the other, make sessions alike: so long as some fact of the state and
-- the entries still to come is kept, and where it holds they answer alike.
module _ {State Shown Entry : Type 0} (shown : State → Shown) (one : State → List Entry → ℕ → Ran State) (other : Shown → List Entry → ℕ → Ran Shown)
    (Fact : State → List Entry → Type 0) where
  -- what is asked of the two, at any state, entries offered, entries that come later, and room
  pub record AnswerAlike : Type 0 where
    pub same : (state : State) (entries later : List Entry) (room : ℕ) → Fact state (entries ++ later)
        → (let ran = one state entries room in record { state = shown ran.state; used = ran.used; answers = ran.answers } ≡ other (shown state) entries room)
    pub kept : (state : State) (entries later : List Entry) (room : ℕ) → Fact state (entries ++ later)
        → Fact (one state entries room).state (drop (one state entries room).used entries ++ later)

  pub sessions_alike : AnswerAlike → (state : State) (unused : List Entry) (calls : List (Call Entry)) → Fact state (unused ++ offered calls)
      → (let s = session one state unused calls in
      record { state = shown s.state; unused = s.unused; answers = s.answers } ≡ session other (shown state) unused calls)
  unfolding session offered
  sessions_alike alike state unused [] fact = refl
  sessions_alike alike state unused (call ∷ calls) fact =
      let entries : List Entry = unused ++ call.entries in
      let ran : Ran State = one state entries call.room in
      let here : Fact state (entries ++ offered calls) = subst (Fact state) (sym (append_assoc unused call.entries (offered calls))) fact in
      ap (preceded ran.answers) (sessions_alike alike ran.state (drop ran.used entries) calls (alike.kept state entries (offered calls) call.room here))
      ∙ ap (λ (r : Ran Shown). preceded r.answers (session other r.state (drop r.used entries) calls)) (alike.same state entries (offered calls) call.room here)
