-- PICTURE FRAMES OF DIFFERENT ROWS: which comes first makes no difference. Assumes nothing.
use Rattle.std.specs.Prelude.{ℕ, suc, ◌+◌, ◌*◌, ◌≤◌, false, List, [], ◌∷◌, map, ◌≢◌, ◌⊎◌, ◌≡◌, refl, leb, length, set}
use Rattle.std.proofs.Common.{arith, inl, inr, ap, ◌∙◌, leb-true, leb-false}
use Rattle.std.proofs.lemmas.List.{length-map, set_comm}
use Rattle.std.proofs.lemmas.List.Edits.{sets}
use Rattle.lists.specs.Tests.{by_test}
use Rattle.record.specs.Core.{Core, on_picture}
use Rattle.command.specs.Order.{draw}
use Rattle.effect.specs.Effect.{kept_in, drawn, carry_out}

-- A store outside others can come before them,
set_before : (l : List ℕ) (i : ℕ) (vs : List ℕ) (j w : ℕ) → (i ≤ j → i + length vs ≤ j) → set (sets l i vs) j w ≡ sets (set l j w) i vs
set_before l i [] j w h = refl
set_before l i (v ∷ vs) j w h =
    set_before (set l i v) (suc i) vs j w (λ x. omega (arith, h (omega arith)))
    ∙ ap (λ (x : List ℕ). sets x (suc i) vs) (set_comm l i j v w (λ e. omega (arith, h (omega arith))))

-- and so can all of them.
sets_before : (l : List ℕ) (i : ℕ) (vs : List ℕ) (j : ℕ) (ws : List ℕ) → (j + length ws ≤ i) ⊎ (i + length vs ≤ j) → sets (sets l i vs) j ws ≡ sets (sets l j ws) i vs
sets_before l i vs j [] h = refl
sets_before l i vs j (w ∷ ws) (inl h) =
    ap (λ (x : List ℕ). sets x (suc j) ws) (set_before l i vs j w (λ x. omega arith)) ∙ sets_before (set l j w) i vs (suc j) ws (inl (omega arith))
sets_before l i vs j (w ∷ ws) (inr h) =
    ap (λ (x : List ℕ). sets x (suc j) ws) (set_before l i vs j w (λ x. h)) ∙ sets_before (set l j w) i vs (suc j) ws (inr (omega arith))

drawn_before : (picture : List ℕ) (m n : ℕ) (a b : List ℕ) → m ≢ n → length a ≤ 96 → length b ≤ 96 → drawn (drawn picture n b) m a ≡ drawn (drawn picture m a) n b
unfolding drawn
drawn_before picture m n a b differ la lb =
    let ea : length (map (kept_in m) a) ≡ length a = length-map a (kept_in m) in
    let eb : length (map (kept_in n) b) ≡ length b = length-map b (kept_in n) in
    by_test (leb m n)
    (λ e. sets_before picture (n * 96) (map (kept_in n) b) (m * 96) (map (kept_in m) a) (inl (omega (arith, leb-true m n e, ea))))
    (λ e. sets_before picture (n * 96) (map (kept_in n) b) (m * 96) (map (kept_in m) a) (inr (omega (arith, leb-false m n e, eb))))

-- THEY COMMUTE.
pub draws_commute : (m n : ℕ) (a b : List ℕ) (c : Core) → m ≢ n → length a ≤ 96 → length b ≤ 96
    → carry_out (draw m a) (carry_out (draw n b) c) ≡ carry_out (draw n b) (carry_out (draw m a) c)
unfolding carry_out
draws_commute m n a b c differ la lb =
    by_test (leb m 6)
    (λ e. by_test (leb n 6) (λ f. rw (e, f) (ap (on_picture c) (drawn_before c.picture m n a b differ la lb))) (λ f. rw (e, f)))
    (λ e. by_test (leb n 6) (λ f. rw (e, f)) (λ f. rw (e, f)))

-- One of row 7 to 9 does nothing.
pub draws_nothing : (m : ℕ) (a : List ℕ) (c : Core) → leb m 6 ≡ false → carry_out (draw m a) c ≡ c
unfolding carry_out
draws_nothing m a c h = rw h
