-- The walk from anywhere is a call from there; the laws of a loop: its turns, its stop and its end.
-- What it speaks of is in specs/Loop.antt. Assumes nothing.
use Prim.Native.Nat.{ℕ, suc, ◌+◌, ◌-◌, ◌≤◌, ◌<◌}
use native.Mathlib.Omega.{arith}
use Rattle.std.proofs.Common.{add-zero, zero-add, sym, ◌∙◌, subst, length-append, length-drop, drop_of_length-le}
use Rattle.std.proofs.Math.Nat.{sub-zero}
use Rattle.std.specs.Prelude.{◌≡◌, refl, set, drop}
use Rattle.std.proofs.Math.Path.{ap}
use mathlib.Core.List.{List, [], ◌∷◌, ◌++◌}
use Rattle.std.proofs.Math.Seq.{sets, length-sets}
use Rattle.std.proofs.lemmas.List.Edits.{sets-eq}
use Rattle.std.proofs.Math.ListN.{length}
use borrow.Author.Tests.{leb-true, le-leb, lt-leb}
use Rattle.lists.specs.Tests.{by_test}
use Rattle.turns.specs.Taking.{Taken, silently}
use Rattle.turns.specs.Room.{Ran, stopped, onward, has_room, run}
use Rattle.turns.proofs.Room.{run_stops}
use Rattle.turns.specs.Loop.{Walked, still, Account, walk, Going}

-- Storing two runs of answers one after the other is storing them at once.
sets_append : (l : List ℕ) (i : ℕ) (xs ys : List ℕ) → sets l i (xs ++ ys) ≡ sets (sets l i xs) (i + length xs) ys
sets_append l i [] ys = rw add-zero
sets_append l i (x ∷ xs) ys = sets_append (set l i x) (suc i) xs ys ∙ ap (λ (k : ℕ). sets (sets (set l i x) (suc i) xs) k ys) (omega arith)

module _ {State Entry : Type 0} (step : State → Entry → Taken State) where
  -- what a call from here adds to where the loop stands
  abbrev adding : ℕ → ℕ → List ℕ → Ran State → Walked State
  adding used written buffer ran =
      still ran.state (used + ran.used) (written + length ran.answers) (sets buffer written ran.answers)

  adding_more : (used written : ℕ) (buffer answer : List ℕ) (ran : Ran State)
      → adding (used + 1) (written + length answer) (sets buffer written answer) ran ≡ adding used written buffer (onward answer ran)
  adding_more used written buffer answer ran =
      let p : used + 1 + ran.used ≡ used + suc ran.used = omega arith in
      let q : written + length answer + length ran.answers ≡ written + length (answer ++ ran.answers) = omega (arith, length-append answer ran.answers) in
      λ j. still ran.state (p j) (q j) (sym (sets_append buffer written answer ran.answers) j)

  adding_none : (state : State) (used written : ℕ) (buffer : List ℕ) → still state used written buffer ≡ adding used written buffer (stopped state)
  adding_none state used written buffer = λ j. still state (sym (add-zero used) j) (sym (add-zero written) j) buffer

  -- The walk from anywhere is a call from there.
  pub walk_is_run : (state : State) (entries : List Entry) (used written : ℕ) (buffer : List ℕ) → written ≤ length buffer
      → walk step state entries used written buffer ≡ adding used written buffer (run step state entries (length buffer - written))
  unfolding walk run
  walk_is_run state [] used written buffer h = adding_none state used written buffer
  walk_is_run state (entry ∷ entries) used written buffer h =
      let first : List ℕ = (step state entry).answers in
      let need : ℕ = length first in
      let room : ℕ = length buffer - written in
      let next : State = (step state entry).state in
      let after : List ℕ = sets buffer written first in
      let same : length after ≡ length buffer = length-sets buffer written first in
      by_test (has_room need room)
      (λ e.
      let fits : need ≤ room = leb-true need room e in
      let rest : length after - (written + need) ≡ room - need = omega arith in
      rw e
      (walk_is_run next entries (used + 1) (written + need) after (omega arith)
      ∙ ap (λ (k : ℕ). adding (used + 1) (written + need) after (run step next entries k)) rest
      ∙ adding_more used written buffer first (run step next entries (room - need))))
      (λ e. rw e (adding_none state used written buffer))

  -- A turn: the entry that comes next answers what there is room for.
  pub walk_turn : (state : State) (entries : List Entry) (entry : Entry) (used written : ℕ) (buffer : List ℕ) (taken : Taken State)
      → drop used entries ≡ entry ∷ drop (used + 1) entries → step state entry ≡ taken → length taken.answers ≤ length buffer - written
      → walk step state (drop used entries) used written buffer
      ≡ walk step taken.state (drop (used + 1) entries) (used + 1) (written + length taken.answers) (sets buffer written taken.answers)
  unfolding walk
  walk_turn state entries entry used written buffer taken next e fits =
      ap (λ (t : List Entry). walk step state t used written buffer) next ∙ rw (e, le-leb _ _ fits)

  -- A stop: the answer of the entry that comes next has no room.
  pub walk_stop : (state : State) (entries : List Entry) (entry : Entry) (used written : ℕ) (buffer : List ℕ) (taken : Taken State)
      → drop used entries ≡ entry ∷ drop (used + 1) entries → step state entry ≡ taken → length buffer - written < length taken.answers
      → walk step state (drop used entries) used written buffer ≡ still state used written buffer
  unfolding walk
  walk_stop state entries entry used written buffer taken next e full =
      ap (λ (t : List Entry). walk step state t used written buffer) next ∙ rw (e, lt-leb _ _ full)

  -- The end: no entry is left.
  pub walk_end : (state : State) (entries : List Entry) (used written : ℕ) (buffer : List ℕ) → length entries ≤ used
      → walk step state (drop used entries) used written buffer ≡ still state used written buffer
  unfolding walk
  walk_end state entries used written buffer h = rw (drop_of_length-le entries {i = used} h)

  -- From the loop's end to what the call has done: state, counts and the whole buffer.
  pub walked : (state : State) (entries : List Entry) (before : List ℕ) (end : Walked State) → walk step state entries 0 0 before ≡ end
      → Account (run step state entries (length before)) before end
  walked state entries before end e =
      let ran : Ran State = run step state entries (length before) in
      let q : end ≡ adding 0 0 before ran =
      sym e ∙ walk_is_run state entries 0 0 before (omega arith) ∙ ap (λ (k : ℕ). adding 0 0 before (run step state entries k)) (sub-zero (length before)) in
      record {
        state = ap (λ (x : Walked State). x.state) q;
        used = ap (λ (x : Walked State). x.used) q ∙ zero-add _;
        written = ap (λ (x : Walked State). x.written) q ∙ zero-add _;
        buffer = ap (λ (x : Walked State). x.buffer) q
            ∙ sets-eq ran.answers before 0 (omega (arith, (run_stops step state entries (length before)).fits))
            ∙ ap (λ (k : ℕ). ran.answers ++ drop k before) (zero-add (length ran.answers));
      }

  -- It holds before the first turn.
  pub go_start : (start : State) (entries : List Entry) (before : List ℕ) → Going step start entries before start 0 0 before
  go_start start entries before = record { inside = omega arith; room = omega arith; even = refl; rest = refl }

  module _ {start : State} {entries : List Entry} {before : List ℕ} {state : State} {used written : ℕ} {buffer : List ℕ}
      (going : Going step start entries before state used written buffer) where
    -- A loop that leaves with no entry left has done what the call does.
    pub go_end : length entries ≤ used → Account (run step start entries (length before)) before (still state used written buffer)
    go_end none = walked start entries before (still state used written buffer) (going.rest ∙ walk_end state entries used written buffer none)

    -- With an entry that comes next
    module _ {entry : Entry} (begins : drop used entries ≡ entry ∷ drop (used + 1) entries) where
      -- It holds after a turn whose answer is written at the count.
      pub go_on : (taken : Taken State) → step state entry ≡ taken → length taken.answers ≤ length buffer - written
          → Going step start entries before taken.state (used + 1) (written + length taken.answers) (sets buffer written taken.answers)
      go_on taken e fits =
          let same : length (sets buffer written taken.answers) ≡ length buffer = length-sets buffer written taken.answers in
          record {
            inside = omega (arith, length-drop used entries, ap length begins);
            room = omega (arith, going.room);
            even = same ∙ going.even;
            rest = going.rest ∙ walk_turn state entries entry used written buffer taken begins e fits;
          }

      -- So after a turn with no answer ..
      pub go_quiet : (next : State) → step state entry ≡ silently next → Going step start entries before next (used + 1) written buffer
      go_quiet next e = subst (λ (k : ℕ). Going step start entries before next (used + 1) k buffer) (add-zero written) (go_on (silently next) e (omega arith))

      -- .. and after a turn with one.
      pub go_one : (next : State) (answer : ℕ) → step state entry ≡ record { state = next; answers = answer ∷ [] } → written < length buffer
          → Going step start entries before next (used + 1) (written + 1) (set buffer written answer)
      go_one next answer e room = go_on (record { state = next; answers = answer ∷ [] }) e (omega arith)

      -- A loop that leaves where the next answer has no room has done what the call does.
      pub go_stop : (taken : Taken State) → step state entry ≡ taken → length buffer - written < length taken.answers
          → Account (run step start entries (length before)) before (still state used written buffer)
      go_stop taken e full =
          walked start entries before (still state used written buffer) (going.rest ∙ walk_stop state entries entry used written buffer taken begins e full)
