-- What the reader finds in a frame over a table, and the laws of its loop. Assumes nothing.
use Rattle.std.specs.Prelude.{ℕ, suc, ◌+◌, ◌-◌, ◌<◌, ◌≤◌, List, true, false, ◌≡◌, leb, length, get_or, drop, Option}
use Rattle.std.specs.Bool.{then_some}
use Prim.Native.Char.{code}
use Rattle.std.proofs.Common.{add-one, sym, ap, ap₂, drop_of_length-le, drop-cons}
use borrow.Author.Tests.{eq-eqb, ne_eqb}
use Rattle.numeral.specs.Numeral.{is_digit}
use Rattle.frame_table.specs.declared.Numbers.{Numbers}
use Rattle.frame_table.specs.declared.Found.{Found}
use Rattle.frame_table.specs.Numbers.{pair, with_digit, numbers_after, numbers_from}
use Rattle.frame_table.specs.Table.{state_after, state_from}

-- from a state and two numbers on
abbrev pub found_from : List ℕ → List ℕ → ℕ → ℕ → Numbers → List ℕ → Found
found_from class next states s r f = record { state = state_from class next states s f; numbers = numbers_from r f }

unfoldable pub found_in : List ℕ → List ℕ → ℕ → List ℕ → Found
found_in class next states f = found_from class next states 1 (pair 0 0) f

-- the numbers of a frame that leads to a state in which one may end, from the first such state on
unfoldable pub accepted_in : List ℕ → List ℕ → ℕ → ℕ → List ℕ → Option Numbers
accepted_in class next states good f = then_some (leb good (state_from class next states 1 f)) (numbers_from (pair 0 0) f)

-- the numbers after a byte, by what it is
module _ (b m n : ℕ) where
  pub by_digit : {k : ℕ} → is_digit b ≡ true → k ≡ with_digit n (b - code "0") → numbers_after b (pair m n) ≡ pair m k
  unfolding numbers_after
  by_digit d e = rw d (ap (pair m) (sym e))

  pub by_semicolon : is_digit b ≡ false → b ≡ code ";" → numbers_after b (pair m n) ≡ pair n 0
  unfolding numbers_after
  by_semicolon d e = rw (d, eq-eqb b (code ";") e)

  pub by_other : is_digit b ≡ false → (b ≡ code ";" → ⊥) → numbers_after b (pair m n) ≡ pair m n
  unfolding numbers_after
  by_other d e = rw (d, ne_eqb b (code ";") e)

module _ (class next : List ℕ) (states s : ℕ) (r : Numbers) (f : List ℕ) (i : ℕ) where
  -- One turn.
  pub turn : i < length f → {s' : ℕ} {r' : Numbers} → s' ≡ state_after class next states s (get_or f i 0) → numbers_after (get_or f i 0) r ≡ r'
      → found_from class next states s r (drop i f) ≡ found_from class next states s' r' (drop (i + 1) f)
  turn h p q =
      rw (add-one i, drop-cons f i 0 h) (ap₂ {C = Found} (λ (x : ℕ) (y : Numbers). found_from class next states x y (drop (suc i) f)) (sym p) q)

  -- The end.
  pub turned : length f ≤ i → found_from class next states s r (drop i f) ≡ record { state = s; numbers = r }
  turned h = rw (drop_of_length-le f h)
