-- What stores leave as it was: the places outside them, and a test over a part of a list that the values stored pass. Assumes nothing.
use Rattle.std.specs.Prelude.{ℕ, zero, suc, ◌+◌, ◌<◌, ◌≤◌, Bool, true, List, [], ◌∷◌, ◌≡◌, refl, length, set, replicate, get_or}
use Rattle.std.proofs.Common.{arith, add-zero, ◌∙◌, get_or-set_other}
use Rattle.std.proofs.lemmas.List.Edits.{sets}
use Rattle.std.proofs.Math.Seq.{slice}
use Rattle.lists.specs.Both.{both, and_both}
use Rattle.lists.specs.Every.{every}

-- A place outside the stores, past the last if not before the first, is as it was.
pub sets_outside : (l : List ℕ) (i : ℕ) (vs : List ℕ) (j : ℕ) → (i ≤ j → i + length vs ≤ j) → get_or (sets l i vs) j 0 ≡ get_or l j 0
sets_outside l i [] j h = refl
sets_outside l i (v ∷ vs) j h =
    sets_outside (set l i v) (suc i) vs j (λ r. omega (arith, h (omega arith)))
    ∙ get_or-set_other l i j v 0 (λ e. omega (arith, h (omega arith)))

-- One store more of the same value.
pub sets_more : (l : List ℕ) (i n v : ℕ) → set (sets l i (replicate n v)) (i + n) v ≡ sets l i (replicate (suc n) v)
sets_more l i zero v = rw add-zero
sets_more l i (suc n) v = let e : i + suc n ≡ suc i + n = omega arith in rw e (sets_more (set l i v) (suc i) n v)

module _ (test : ℕ → Bool) where
  pub every_set : (l : List ℕ) (i v : ℕ) → test v ≡ true → every test l ≡ true → every test (set l i v) ≡ true
  every_set [] i v t h = h
  every_set (x ∷ xs) zero v t h = and_both t (both {a = test x} h).1
  every_set (x ∷ xs) (suc i) v t h = let b = both {a = test x} h in and_both b.0 (every_set xs i v t b.1)

  pub every_sets : (l : List ℕ) (i : ℕ) (vs : List ℕ) → every test vs ≡ true → every test l ≡ true → every test (sets l i vs) ≡ true
  every_sets l i [] t h = h
  every_sets l i (v ∷ vs) t h = let b = both {a = test v} t in every_sets (set l i v) (suc i) vs b.1 (every_set l i v b.0 h)

  pub every_replicate : (n v : ℕ) → test v ≡ true → every test (replicate n v) ≡ true
  every_replicate zero v t = refl
  every_replicate (suc n) v t = and_both t (every_replicate n v t)

  -- in the part from a to e
  set_keeps : (a e : ℕ) (l : List ℕ) (i v : ℕ) → (a ≤ i → test v ≡ true) → every test (slice a e l) ≡ true → every test (slice a e (set l i v)) ≡ true
  set_keeps a e [] i v t h = h
  set_keeps a zero (x ∷ xs) zero v t h = h
  set_keeps a zero (x ∷ xs) (suc i) v t h = h
  set_keeps zero (suc e) (x ∷ xs) zero v t h = and_both (t (omega arith)) (both {a = test x} h).1
  set_keeps zero (suc e) (x ∷ xs) (suc i) v t h =
      let b = both {a = test x} h in
      and_both b.0 (set_keeps zero e xs i v (λ l. t (omega arith)) b.1)
  set_keeps (suc a) (suc e) (x ∷ xs) zero v t h = h
  set_keeps (suc a) (suc e) (x ∷ xs) (suc i) v t h = set_keeps a e xs i v (λ l. t (omega arith)) h

  pub sets_keep : (a e : ℕ) (l : List ℕ) (i : ℕ) (vs : List ℕ) → (a < i + length vs → every test vs ≡ true)
      → every test (slice a e l) ≡ true → every test (slice a e (sets l i vs)) ≡ true
  sets_keep a e l i [] t h = h
  sets_keep a e l i (v ∷ vs) t h =
      sets_keep a e (set l i v) (suc i) vs (λ r. (both {a = test v} (t (omega arith))).1)
      (set_keeps a e l i v (λ r. (both {a = test v} (t (omega arith))).0) h)
