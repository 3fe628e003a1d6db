-- What the stores of an item leave. Assumes nothing.
use Prim.Native.Nat.{ℕ, suc, ◌+◌, ◌-◌, ◌/◌, ◌%◌}
use Prim.Native.Char.{code}
use native.Mathlib.Omega.{arith}
use native.Mathlib.Numerals.{add-one}
use mathlib.Core.List.{List}
use mathlib.Core.Path.{◌≡◌}
use lib.ListN.{length, set}
use lib.Seq.{sets}
use borrow.Author.Tests.{eq-eqb, ne_eqb}
use Rattle.picture.specs.Writing.{hex_code, item_text}

module _ (text : List ℕ) (at n column high low : ℕ) (h : high ≡ hex_code (column / 16)) (l : low ≡ hex_code (column % 16)) where
  pub single_item : n ≡ 1 → (at + 2 ≡ at + length (item_text n column)) × (set (set text at high) (at + 1) low ≡ sets text at (item_text n column))
  unfolding item_text
  single_item e = (rw (eq-eqb n 1 e), rw (eq-eqb n 1 e, h, l, add-one at))

  pub lettered_item : (n ≡ 1 → ⊥)
      → (at + 3 ≡ at + length (item_text n column)) × (set (set (set text at (code "a" + (n - 2))) (at + 1) high) (at + 2) low ≡ sets text at (item_text n column))
  unfolding item_text
  lettered_item e =
      let k : at + 2 ≡ suc (suc at) = omega arith in
      (rw (ne_eqb n 1 e), rw (ne_eqb n 1 e, h, l, add-one at, k))
