-- 11 to 18 are the overlays, and no other number is. Assumes nothing.
use Prim.Native.Nat.{ℕ, ◌≤◌}
use native.Mathlib.Omega.{arith}
use mathlib.Core.Bool.{true, false}
use mathlib.Core.Path.{◌≡◌}
use lib.Dec.{leb, eqb}
use borrow.Author.Tests.{eqb-true, leb-true, le-leb, ne_eqb}
use Rattle.lists.specs.Tests.{by_test}
use Rattle.command.specs.InRange.{is_overlay}

pub overlays : (n : ℕ) → 11 ≤ n → n ≤ 18 → true ≡ is_overlay n
overlays n low high = rw (ne_eqb n 0 (λ e. omega arith), le-leb 11 n low, le-leb n 18 high)

pub no_overlay : (n : ℕ) → (11 ≤ n → n ≤ 18 → ⊥) → is_overlay n ≡ false
no_overlay n out =
    by_test (eqb n 0) (λ e. rw (eqb-true n 0 e))
    (λ e. by_test (leb 11 n)
    (λ low. by_test (leb n 18) (λ high. absurd (out (leb-true 11 n low) (leb-true n 18 high))) (λ high. rw (e, low, high)))
    (λ low. rw (e, low)))
