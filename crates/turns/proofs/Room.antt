-- A CALL STOPS WHERE IT IS ASKED TO, and nothing else does what is asked of it.
-- What it speaks of is in specs/Room.antt. Assumes nothing.
use Prim.Native.Nat.{ℕ, suc, ◌+◌, ◌-◌, ◌≤◌, ◌<◌}
use Rattle.std.proofs.Common.{arith, add-one, sym, ◌∙◌, subst, length-drop, take-append-drop, leb-true, leb-false}
use Rattle.std.specs.Prelude.{◌⊎◌, ◌≡◌, true, false}
use Rattle.std.proofs.Math.Logic.{inl, inr}
use Rattle.std.proofs.Math.Path.{refl, ap}
use mathlib.Core.List.{List, [], ◌∷◌, ◌++◌, append-nil}
use Rattle.std.proofs.Math.Seq.{take-add, take-length}
use Rattle.std.proofs.Math.ListN.{length, length-append, take, drop}
use Rattle.lists.specs.Tests.{either_way}
use Rattle.turns.specs.Taking.{Taken, answering, reading, cut_anywhere, reading_keeps}
use Rattle.turns.specs.Room.{Ran, taken_of, has_room, run, Stops}

has_room_lem : (need room : ℕ) → has_room need room ≡ true → need ≤ room
has_room_lem need room e = omega (arith, leb-true)

no_room : (need room : ℕ) → has_room need room ≡ false → room < need
no_room need room e = omega (arith, leb-false)

-- One entry more was used before: then too all are used, or one more would answer too much.
one_further : (first more : List ℕ) (used all room : ℕ) → length first ≤ room → (used ≡ all) ⊎ (room - length first < length more)
    → (suc used ≡ suc all) ⊎ (room < length (first ++ more))
one_further first more used all room fits (inl e) = inl (ap suc e)
one_further first more used all room fits (inr full) = inr (omega (arith, length-append first more))

module _ {State Entry : Type 0} (step : State → Entry → Taken State) where
  -- A CALL DOES WHAT IS ASKED OF IT.
  pub run_stops : (state : State) (entries : List Entry) (room : ℕ) → Stops step state entries room (run step state entries room)
  unfolding run reading
  run_stops state [] room = record { within = omega arith; does = refl; fits = omega arith; stops = inl refl }
  run_stops state (entry ∷ entries) room =
      let first : List ℕ = (step state entry).answers in
      let next : State = (step state entry).state in
      let ahead : Ran State = run step next entries (room - length first) in
      let h = run_stops next entries (room - length first) in
      either_way (Stops step state (entry ∷ entries) room) (has_room (length first) room)
      (λ e.
      let has : length first ≤ room = has_room_lem (length first) room e in
      record {
        within = omega (arith, h.within);
        does = ap (answering first) h.does;
        fits = omega (arith, length-append first ahead.answers, h.fits);
        stops = one_further first (reading step next (take (suc ahead.used) entries)).answers ahead.used (length entries) room has h.stops;
      })
      (λ e. record { within = omega arith; does = refl; fits = omega arith; stops = inr (rw append-nil (no_room (length first) room e)) })

  -- more entries are answered with no less
  longer : (state : State) (entries : List Entry) (i m : ℕ)
      → length (reading step state (take i entries)).answers ≤ length (reading step state (take (i + m) entries)).answers
  longer state entries i m =
      rw (take-add i m entries, cut_anywhere step state (take i entries) (take m (drop i entries)))
      (omega (arith, length-append (reading step state (take i entries)).answers (reading step (reading step state (take i entries)).state (take m (drop i entries))).answers))

  module _ {state : State} {entries : List Entry} {room : ℕ} where
    no_earlier : {one other : Ran State} → Stops step state entries room one → Stops step state entries room other → one.used < other.used → ⊥
    no_earlier {one} {other} g h l = go g.stops
      where
        go : (one.used ≡ length entries) ⊎ (room < length (reading step state (take (suc one.used) entries)).answers) → ⊥
        go (inl e) = omega (arith, h.within)
        go (inr q) =
            let m : ℕ = other.used - suc one.used in
            let e : suc one.used + m ≡ other.used = omega arith in
            omega (
              arith,
              longer state entries (suc one.used) m,
              ap (λ (k : ℕ). length (reading step state (take k entries)).answers) e,
              ap (λ (t : Taken State). length t.answers) h.does,
              h.fits,
            )

    -- NOTHING ELSE DOES IT: state, used and written are fixed by what is asked.
    pub only_one : {one other : Ran State} → Stops step state entries room one → Stops step state entries room other → one ≡ other
    only_one {one} {other} g h =
        let less : one.used < other.used → ⊥ = no_earlier g h in
        let more : other.used < one.used → ⊥ = no_earlier h g in
        let used : one.used ≡ other.used = omega arith in
        let taken : taken_of one ≡ taken_of other = g.does ∙ ap (λ (k : ℕ). reading step state (take k entries)) used ∙ sym h.does in
        λ j. record { state = (taken j).state; used = used j; answers = (taken j).answers }

    -- It stops exactly before the first entry whose whole answer does not fit: either all entries are used, or the next one, taken in
    -- the state that is left, answers more than the room that is left.
    pub stops_exactly : {ran : Ran State} → Stops step state entries room ran
        → (ran.used ≡ length entries)
        ⊎ ((next : Entry) × (rest : List Entry) × (drop ran.used entries ≡ next ∷ rest)
        × (room < length ran.answers + length (step ran.state next).answers))
    unfolding reading
    stops_exactly {ran} h = go (drop ran.used entries) refl h.stops
      where
        one_more : (next : Entry) (rest : List Entry) → drop ran.used entries ≡ next ∷ rest
            → (reading step state (take (suc ran.used) entries)).answers ≡ ran.answers ++ (step ran.state next).answers
        one_more next rest e =
            ap (λ (l : List Entry). (reading step state l).answers)
            (ap (λ (k : ℕ). take k entries) (sym (add-one ran.used)) ∙ take-add ran.used 1 entries ∙ ap (λ (l : List Entry). take ran.used entries ++ take 1 l) e)
            ∙ ap (λ (t : Taken State). t.answers) (cut_anywhere step state (take ran.used entries) (next ∷ []))
            ∙ ap (λ (t : Taken State). t.answers ++ ((step t.state next).answers ++ [])) (sym h.does)
            ∙ ap (λ (l : List ℕ). ran.answers ++ l) (append-nil (step ran.state next).answers)

        go : (left : List Entry) → drop ran.used entries ≡ left
            → (ran.used ≡ length entries) ⊎ (room < length (reading step state (take (suc ran.used) entries)).answers)
            → (ran.used ≡ length entries)
            ⊎ ((next : Entry) × (rest : List Entry) × (drop ran.used entries ≡ next ∷ rest)
            × (room < length ran.answers + length (step ran.state next).answers))
        go [] e q = inl (omega (arith, h.within, length-drop ran.used entries, ap length e))
        go (next ∷ rest) e (inl all) = inl all
        go (next ∷ rest) e (inr full) =
            inr (next, rest, e, omega (arith, ap length (one_more next rest e), length-append ran.answers (step ran.state next).answers))

  -- With room for all answers a call uses all entries.
  pub room_for_all : (state : State) (entries : List Entry) (room : ℕ) → length (reading step state entries).answers ≤ room
      → run step state entries room ≡ record { state = (reading step state entries).state; used = length entries; answers = (reading step state entries).answers }
  room_for_all state entries room h =
      only_one (run_stops state entries room)
      (record { within = omega arith; does = ap (reading step state) (sym (take-length entries)); fits = h; stops = inl refl })

  -- What a call answers is what the answers to all entries begin with.
  pub answers_begin : (state : State) (entries : List Entry) (room : ℕ) → (rest : List ℕ) × ((reading step state entries).answers ≡ (run step state entries room).answers ++ rest)
  answers_begin state entries room =
      let n : ℕ = (run step state entries room).used in
      let rest : List ℕ = (reading step (reading step state (take n entries)).state (drop n entries)).answers in (
        rest,
        ap (λ (l : List Entry). (reading step state l).answers) (sym (take-append-drop n entries))
            ∙ ap (λ (t : Taken State). t.answers) (cut_anywhere step state (take n entries) (drop n entries))
            ∙ ap (λ (t : Taken State). t.answers ++ rest) (sym (run_stops state entries room).does),
      )

  -- A fact of the state that every step keeps is kept by a call.
  pub run_keeps : (Fact : State → Type 0) → ((state : State) (entry : Entry) → Fact state → Fact (step state entry).state)
      → (state : State) (entries : List Entry) (room : ℕ) → Fact state → Fact (run step state entries room).state
  run_keeps Fact kept state entries room fact =
      subst (λ (taken : Taken State). Fact taken.state) (sym (run_stops state entries room).does)
      (reading_keeps step Fact kept state (take (run step state entries room).used entries) fact)
