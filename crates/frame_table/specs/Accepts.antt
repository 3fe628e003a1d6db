-- A table that is right accepts exactly the frames that fit. Assumes nothing.
use Rattle.std.specs.Prelude.{ℕ, zero, suc, ◌+◌, ◌*◌, ◌%◌, ◌<◌, ◌≤◌, Bool, false, ◌&&◌, List, [], ◌∷◌, ◌≡◌, refl, leb, length}
use Rattle.std.proofs.Common.{arith, true≢false, ap, ap₂, ◌∙◌, subst}
use Rattle.std.proofs.Math.Bool.{true, beq}
use Rattle.std.proofs.Math.Path.{sym}
use Rattle.std.proofs.Math.Dec.{eqb, ltb}
use Rattle.std.proofs.Math.ListN.{get_or, get_or-eq_default}
use borrow.Author.Tests.{eqb-true, eqb-false, ltb-true, ltb-false, ne_eqb, lt-leb, lt-ltb}
use Rattle.lists.specs.Both.{both}
use Rattle.lists.specs.Every.{every}
use Rattle.lists.specs.Tests.{by_test}
use Rattle.numeral.specs.Numeral.{is_digit}
use Rattle.frame_table.specs.Rest.{Mark, sign, number, Rest, after_marks, after_digits, after, ends, fits}
use Rattle.frame_table.specs.Table.{Table, next_state, state_from, accepts, same_marks, same_rests, low_marks, low_rests, every_from, whole, labels, label, state_right, targets_valid, right}

-- What passes a test ------------------------------------------------------------------------------------------------

pub same_marks_lem : (ms qs : List Mark) → same_marks ms qs ≡ true → ms ≡ qs
same_marks_lem [] [] h = refl
same_marks_lem [] (q ∷ qs) h = absurd (true≢false (sym h))
same_marks_lem (m ∷ ms) [] h = absurd (true≢false (sym h))
same_marks_lem (sign a ∷ ms) (sign b ∷ qs) h =
    let w = both {a = eqb a b} h in
    ap₂ {C = List Mark} (λ (x : ℕ) (xs : List Mark). sign x ∷ xs) (eqb-true a b w.0) (same_marks_lem ms qs w.1)
same_marks_lem (sign a ∷ ms) (number ∷ qs) h = absurd (true≢false (sym h))
same_marks_lem (number ∷ ms) (sign b ∷ qs) h = absurd (true≢false (sym h))
same_marks_lem (number ∷ ms) (number ∷ qs) h = ap (λ (xs : List Mark). number ∷ xs) (same_marks_lem ms qs h)

same_rests_lem : (rs qs : List Rest) → same_rests rs qs ≡ true → rs ≡ qs
same_rests_lem [] [] h = refl
same_rests_lem [] (q ∷ qs) h = absurd (true≢false (sym h))
same_rests_lem (r ∷ rs) [] h = absurd (true≢false (sym h))
same_rests_lem (r ∷ rs) (q ∷ qs) h =
    let w = both {a = eqb r.0 q.0 && same_marks r.1 q.1} h in
    let v = both {a = eqb r.0 q.0} w.0 in
    let e : r ≡ q = ap₂ {C = Rest} (λ (n : ℕ) (ms : List Mark). (n, ms)) (eqb-true r.0 q.0 v.0) (same_marks_lem r.1 q.1 v.1) in
    ap₂ {C = List Rest} (λ (x : Rest) (xs : List Rest). x ∷ xs) e (same_rests_lem rs qs w.1)

every_from_lem : (n i : ℕ) (test : ℕ → Bool) (k : ℕ) → every_from n i test ≡ true → i ≤ k → k < i + n → test k ≡ true
every_from_lem zero i test k h l m = absurd (omega arith)
every_from_lem (suc n) i test k h l m =
    let w = both {a = test i} h in
    by_test (eqb i k)
    (λ e. subst (λ (x : ℕ). test x ≡ true) (eqb-true i k e) w.0)
    (λ e. every_from_lem n (suc i) test k w.1 (omega (arith, eqb-false i k e)) (omega arith))

every_entry : (test : ℕ → Bool) (xs : List ℕ) (k : ℕ) → every test xs ≡ true → test 0 ≡ true → test (get_or xs k 0) ≡ true
every_entry test [] k h z = z
every_entry test (x ∷ xs) zero h z = (both {a = test x} h).0
every_entry test (x ∷ xs) (suc k) h z = every_entry test xs k (both {a = test x} h).1 z

same_test : (a b : Bool) → beq a b ≡ true → a ≡ b
same_test true true h = refl
same_test true false h = absurd (true≢false (sym h))
same_test false true h = absurd (true≢false (sym h))
same_test false false h = refl

-- A number that is no byte: nothing may come after it ----------------------------------------------------------------

no_digit : (b : ℕ) → 256 ≤ b → is_digit b ≡ false
no_digit b h = cases (leb 48 b)
  where
    cases : (x : Bool) → (x && leb b 57) ≡ false
    cases true = lt-leb b 57 (omega arith)
    cases false = refl

high_marks : (b : ℕ) (ms : List Mark) → low_marks ms ≡ true → 256 ≤ b → after_marks b ms ≡ []
high_marks b [] h l = refl
high_marks b (sign a ∷ ms) h l = rw (ne_eqb b a (λ e. omega (arith, ltb-true a 256 (both {a = ltb a 256} h).0)))
high_marks b (number ∷ ms) h l = rw (ne_eqb b 48 (λ e. omega arith), no_digit b l)

high_digits : (b more : ℕ) (ms : List Mark) → low_marks ms ≡ true → 256 ≤ b → after_digits b more ms ≡ []
high_digits b zero ms h l = high_marks b ms h l
high_digits b (suc more) ms h l = rw (no_digit b l) (high_marks b ms h l)

high_none : (b : ℕ) (rs : List Rest) → low_rests rs ≡ true → 256 ≤ b → after b rs ≡ []
high_none b [] h l = refl
high_none b (r ∷ rs) h l =
    let w = both {a = low_marks r.1} h in
    rw (high_digits b r.0 r.1 w.0 l) (high_none b rs w.1 l)

-- The theorem ---------------------------------------------------------------------------------------------------------

module _ (t : Table) (ls : List (List Rest)) (valid : targets_valid t ≡ true) (some-states : ltb 1 t.states ≡ true) (bytes : eqb (length t.class) 256 ≡ true) (refused : label ls 0 ≡ []) (each : every_from t.states 0 (state_right t ls) ≡ true) where
  pub next_valid : (s b : ℕ) → next_state t s b < t.states
  unfolding targets_valid
  next_valid s b =
      let zero-valid : ltb 0 t.states ≡ true = lt-ltb 0 t.states (omega (arith, ltb-true 1 t.states some-states)) in
      ltb-true (next_state t s b) t.states (every_entry (λ (x : ℕ). ltb (x % 64) t.states) t.next (get_or t.class b 0 % 64 * t.states + s) valid zero-valid)

  state_right_lem : (s : ℕ) → s < t.states → state_right t ls s ≡ true
  state_right_lem s h = every_from_lem t.states 0 (state_right t ls) s each (omega arith) (omega arith)

  step_right : (s b : ℕ) → s < t.states → label ls (next_state t s b) ≡ after b (label ls s)
  unfolding state_right
  step_right s b h =
      let w = both {a = beq (leb t.good s) (ends (label ls s)) && eqb (get_or t.next (0 % 64 * t.states + s) 0 % 64) 0 && low_rests (label ls s)} (state_right_lem s h) in
      let v = both {a = beq (leb t.good s) (ends (label ls s)) && eqb (get_or t.next (0 % 64 * t.states + s) 0 % 64) 0} w.0 in
      let u = both {a = beq (leb t.good s) (ends (label ls s))} v.0 in
      by_test (ltb b 256)
      (λ e. sym (same_rests_lem (after b (label ls s)) (label ls (next_state t s b))
      (every_from_lem 256 0 (λ (x : ℕ). same_rests (after x (label ls s)) (label ls (next_state t s x))) b w.1 (omega arith) (ltb-true b 256 e))))
      (λ e. let high : 256 ≤ b = ltb-false b 256 e in
      let none : get_or t.class b 0 ≡ 0 = get_or-eq_default t.class 0 (omega (arith, eqb-true (length t.class) 256 bytes)) in
      rw (none, eqb-true (get_or t.next (0 % 64 * t.states + s) 0 % 64) 0 u.1, high_none b (label ls s) v.1 high) refused)

  good_right : (s : ℕ) → s < t.states → leb t.good s ≡ ends (label ls s)
  unfolding state_right
  good_right s h =
      let w = both {a = beq (leb t.good s) (ends (label ls s)) && eqb (get_or t.next (0 % 64 * t.states + s) 0 % 64) 0 && low_rests (label ls s)} (state_right_lem s h) in
      let v = both {a = beq (leb t.good s) (ends (label ls s)) && eqb (get_or t.next (0 % 64 * t.states + s) 0 % 64) 0} w.0 in
      same_test (leb t.good s) (ends (label ls s)) (both {a = beq (leb t.good s) (ends (label ls s))} v.0).0

  run_right : (s : ℕ) (f : List ℕ) → s < t.states → leb t.good (state_from t.class t.next t.states s f) ≡ fits (label ls s) f
  run_right s [] h = good_right s h
  run_right s (b ∷ f) h = run_right (next_state t s b) f (next_valid s b) ∙ ap (λ (x : List Rest). fits x f) (step_right s b h)

-- THE TABLE ACCEPTS A FRAME EXACTLY WHERE IT FITS ONE OF THE FORMS.
pub accepts_right : (forms : List (List Mark)) (examples : List (List ℕ)) (t : Table) → right forms examples t ≡ true → (f : List ℕ) → accepts t f ≡ fits (whole forms) f
unfolding right accepts
accepts_right forms examples t h f =
    let ls = labels forms examples in
    let e5 = both {a = targets_valid t && ltb 1 t.states && eqb (length t.class) 256 && same_rests (label ls 0) [] && same_rests (label ls 1) (whole forms)} h in
    let e4 = both {a = targets_valid t && ltb 1 t.states && eqb (length t.class) 256 && same_rests (label ls 0) []} e5.0 in
    let e3 = both {a = targets_valid t && ltb 1 t.states && eqb (length t.class) 256} e4.0 in
    let e2 = both {a = targets_valid t && ltb 1 t.states} e3.0 in
    let e1 = both {a = targets_valid t} e2.0 in
    run_right t ls e1.0 e1.1 e2.1 (same_rests_lem (label ls 0) [] e3.1) e5.1 1 f (ltb-true 1 t.states e1.1)
    ∙ ap (λ (x : List Rest). fits x f) (same_rests_lem (label ls 1) (whole forms) e4.1)
