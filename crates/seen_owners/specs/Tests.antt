-- Going by the numbers that a range test lets through. Assumes nothing.
use Rattle.std.specs.Prelude.{ℕ, suc, ◌≤◌, ◌≡◌, refl, Bool, true, false, ◌||◌, leb, eqb}
use Rattle.std.proofs.Common.{arith, leb-true, eqb-true}
use Rattle.std.proofs.lemmas.Bool.{eqb-false}
use Rattle.lists.specs.Tests.{by_test}
use Rattle.lists.specs.Both.{both}
use Rattle.record.specs.Range.{mode_in_range, overlay_in_range}

module _ (P : ℕ → Type 0) where
  -- a number that is the last of a list, or one of the rest
  or_last : {n : ℕ} {rest : Bool} (a : ℕ) → P a → (rest ≡ true → P n) → (rest || eqb n a) ≡ true → P n
  or_last {rest = true} a p others h = others refl
  or_last {n = n} {rest = false} a p others h = rw (eqb-true n a h) p

  -- a number from a on: it is a, or above it
  or_above : {n : ℕ} (a : ℕ) → P a → (suc a ≤ n → P n) → a ≤ n → P n
  or_above {n} a p above h = by_test (eqb n a) (λ e. rw (eqb-true n a e) p) (λ e. above (omega (arith, eqb-false n a e)))

  -- What holds for each text mode holds for any number that the range test lets through.
  pub each_mode : P 0 → P 1 → P 5 → P 6 → P 10 → (n : ℕ) → mode_in_range n ≡ true → P n
  each_mode p0 p1 p5 p6 p10 n = or_last 10 p10 (or_last 6 p6 (or_last 5 p5 (or_last 1 p1 (λ e. rw (eqb-true n 0 e) p0))))

  -- And for each overlay.
  pub each_overlay : P 0 → P 11 → P 12 → P 13 → P 14 → P 15 → P 16 → P 17 → P 18 → (n : ℕ) → overlay_in_range n ≡ true → P n
  each_overlay p0 p11 p12 p13 p14 p15 p16 p17 p18 n h =
      by_test (eqb n 0) (λ e. rw (eqb-true n 0 e) p0)
      (λ some.
      let ends : (leb 11 n ≡ true) × (leb n 18 ≡ true) = both (rw some at h) in
      or_above 11 p11 (or_above 12 p12 (or_above 13 p13 (or_above 14 p14 (or_above 15 p15 (or_above 16 p16 (or_above 17 p17 (or_above 18 p18
      (λ above. absurd (omega (arith, leb-true n 18 ends.1))))))))))
      (leb-true 11 n ends.0))

  -- And for each display row.
  pub each_row : P 0 → P 1 → P 2 → P 3 → P 4 → P 5 → P 6 → (n : ℕ) → n ≤ 6 → P n
  each_row p0 p1 p2 p3 p4 p5 p6 n h =
      or_above 0 p0 (or_above 1 p1 (or_above 2 p2 (or_above 3 p3 (or_above 4 p4 (or_above 5 p5 (or_above 6 p6
      (λ above. absurd (omega arith))))))))
      (omega arith)
