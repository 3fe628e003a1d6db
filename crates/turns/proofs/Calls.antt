-- CUTS DO NOT MATTER, nor do the rooms, so long as in the end no entry is left.
-- What it speaks of is in specs/Calls.antt. Assumes nothing.
use Rattle.std.specs.Prelude.{ℕ, ◌≤◌, ◌≡◌, length}
use Rattle.std.proofs.Math.Path.{refl, sym, ap}
use Rattle.std.proofs.Common.{◌∙◌, take-append-drop}
use mathlib.Core.List.{List, [], ◌∷◌, ◌++◌, append_assoc, append-nil}
use Rattle.std.proofs.Math.Seq.{drop-length}
use Rattle.std.proofs.Math.ListN.{take, drop}
use Rattle.turns.specs.Taking.{Taken, answering, reading, cut_anywhere}
use Rattle.turns.specs.Room.{Ran, run}
use Rattle.turns.proofs.Room.{run_stops, room_for_all}
use Rattle.turns.specs.Calls.{Call, offered, taken_in, session}

-- The entries of calls one after another are those of the first, then those of the others.
pub offered_append : {Entry : Type 0} (calls more : List (Call Entry)) → offered (calls ++ more) ≡ offered calls ++ offered more
unfolding offered
offered_append [] more = refl
offered_append (call ∷ calls) more = rw (offered_append calls more) (sym (append_assoc call.entries (offered calls) (offered more)))

module _ {State Entry : Type 0} (step : State → Entry → Taken State) where
  -- Calls in order read the first of the entries offered, as one reading does, and the others are left.
  pub session_reads : (state : State) (unused : List Entry) (calls : List (Call Entry))
      → (let s = session (run step) state unused calls in
      (read : List Entry) × (read ++ s.unused ≡ unused ++ offered calls) × (taken_in s ≡ reading step state read))
  unfolding session offered reading
  session_reads state unused [] = ([], rw append-nil, refl)
  session_reads state unused (call ∷ calls) =
      let entries : List Entry = unused ++ call.entries in
      let ran : Ran State = run step state entries call.room in
      let later = session_reads ran.state (drop ran.used entries) calls in
      let first : List Entry = take ran.used entries in (
        first ++ later.0,
        append_assoc first later.0 _ ∙ ap (λ (t : List Entry). first ++ t) later.1 ∙ sym (append_assoc first (drop ran.used entries) (offered calls))
            ∙ ap (λ (t : List Entry). t ++ offered calls) (take-append-drop ran.used entries) ∙ append_assoc unused call.entries (offered calls),
        ap (answering ran.answers) later.2
            ∙ ap (λ (t : Taken State). answering t.answers (reading step t.state later.0)) (run_stops step state entries call.room).does
            ∙ sym (cut_anywhere step state first later.0),
      )

  -- CUTS DO NOT MATTER: where no entry is left in the end, the calls have done what one reading of all entries does.
  pub cuts_do_not_matter : (state : State) (calls : List (Call Entry)) → (session (run step) state [] calls).unused ≡ []
      → taken_in (session (run step) state [] calls) ≡ reading step state (offered calls)
  cuts_do_not_matter state calls none =
      let read = session_reads state [] calls in
      read.2 ∙ ap (reading step state) (sym (append-nil read.0) ∙ ap (λ (t : List Entry). read.0 ++ t) (sym none) ∙ read.1)

  -- A last call with room for what is still to be answered leaves no entry.
  pub last_takes_all : (state : State) (unused : List Entry) (calls : List (Call Entry)) (last : Call Entry)
      → (let s = session (run step) state unused calls in length (reading step s.state (s.unused ++ last.entries)).answers ≤ last.room)
      → (session (run step) state unused (calls ++ last ∷ [])).unused ≡ []
  unfolding session
  last_takes_all state unused [] last h =
      ap (λ (ran : Ran State). drop ran.used (unused ++ last.entries)) (room_for_all step state (unused ++ last.entries) last.room h)
      ∙ drop-length (unused ++ last.entries)
  last_takes_all state unused (call ∷ calls) last h =
      let ran = run step state (unused ++ call.entries) call.room in
      last_takes_all ran.state (drop ran.used (unused ++ call.entries)) calls last h

  -- So any calls, the last of them with room for the rest, end as one reading of all entries.
  pub calls_end_as_one : (state : State) (calls : List (Call Entry)) (last : Call Entry)
      → (let s = session (run step) state [] calls in length (reading step s.state (s.unused ++ last.entries)).answers ≤ last.room)
      → taken_in (session (run step) state [] (calls ++ last ∷ [])) ≡ reading step state (offered (calls ++ last ∷ []))
  calls_end_as_one state calls last h = cuts_do_not_matter state (calls ++ last ∷ []) (last_takes_all state [] calls last h)

-- A fact of the state that every call keeps is kept by calls in order.
pub session_keeps : {State Entry : Type 0} (device : State → List Entry → ℕ → Ran State) (Fact : State → Type 0)
    → ((state : State) (entries : List Entry) (room : ℕ) → Fact state → Fact (device state entries room).state)
    → (state : State) (unused : List Entry) (calls : List (Call Entry)) → Fact state → Fact (session device state unused calls).state
unfolding session
session_keeps device Fact kept state unused [] h = h
session_keeps device Fact kept state unused (call ∷ calls) h =
    let ran = device state (unused ++ call.entries) call.room in
    session_keeps device Fact kept ran.state (drop ran.used (unused ++ call.entries)) calls (kept state (unused ++ call.entries) call.room h)
