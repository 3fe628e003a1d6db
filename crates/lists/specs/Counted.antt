-- How many elements of a list pass a test, and the law of the loop that counts them. Assumes nothing.
use Rattle.std.specs.Prelude.{ℕ, ◌+◌, ◌<◌, ◌≤◌, ◌≡◌, refl, Bool, true, false, cond, List, [], ◌∷◌, ◌++◌, length, get_or, drop, count_by}
use Rattle.std.proofs.Common.{arith, add-one, ap, ◌∙◌, drop_of_length-le, drop-cons}
use Rattle.std.proofs.lemmas.List.Recursion.{is_count_by}
use Rattle.lists.specs.Tests.{by_test}

-- how many elements pass
abbrev pub counted : (ℕ → Bool) → List ℕ → ℕ
counted test [] = 0
counted test (x ∷ xs) = cond (test x) 1 0 + counted test xs

-- They are what std counts.
pub counted_by : (test : ℕ → Bool) (s : List ℕ) → counted test s ≡ count_by test s
counted_by test = is_count_by (counted test) test refl (λ x xs. by_test (test x) (λ e. rw e (omega arith)) (λ e. rw e (omega arith)))

pub counted_append : (test : ℕ → Bool) (xs ys : List ℕ) → counted test (xs ++ ys) ≡ counted test xs + counted test ys
counted_append test [] ys = omega arith
counted_append test (x ∷ xs) ys = omega (arith, counted_append test xs ys)

pub counted_most : (test : ℕ → Bool) (s : List ℕ) → counted test s ≤ length s
counted_most test [] = omega arith
counted_most test (x ∷ xs) = by_test (test x) (λ e. rw e (omega (arith, counted_most test xs))) (λ e. rw e (omega (arith, counted_most test xs)))

-- a loop that has counted n of the elements before i: with those that are left they are all
pub record Counting (test : ℕ → Bool) (s : List ℕ) (n i : ℕ) : Type 0 where
  pub most : n ≤ i
  pub all : n + counted test (drop i s) ≡ counted test s

pub count_starts : (test : ℕ → Bool) (s : List ℕ) → Counting test s 0 0
count_starts test s = record { most = omega arith; all = omega arith }

-- One turn of it: one more where the element at i passes, and else as many as before.
one_more : (test : ℕ → Bool) (s : List ℕ) (i : ℕ) → i < length s → counted test (drop i s) ≡ cond (test (get_or s i 0)) 1 0 + counted test (drop (i + 1) s)
one_more test s i h = ap (counted test) (drop-cons s i 0 h) ∙ rw (add-one i)

module _ (test : ℕ → Bool) {s : List ℕ} {n i : ℕ} (k : Counting test s n i) (h : i < length s) where
  pub count_one : test (get_or s i 0) ≡ true → Counting test s (n + 1) (i + 1)
  count_one e = record { most = omega (arith, k.most); all = omega (arith, k.all, rw e at (one_more test s i h)) }

  pub count_none : test (get_or s i 0) ≡ false → Counting test s n (i + 1)
  count_none e = record { most = omega (arith, k.most); all = omega (arith, k.all, rw e at (one_more test s i h)) }

-- Its end: they are all counted.
pub count_ends : (test : ℕ → Bool) {s : List ℕ} {n i : ℕ} → Counting test s n i → length s ≤ i → n ≡ counted test s
count_ends test {s} {n} {i} k h =
    let none : counted test (drop i s) ≡ 0 = rw (drop_of_length-le s {i = i} h) in
    omega (arith, k.all, none)
