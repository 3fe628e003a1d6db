-- Five flags as numbers, and their sum. Assumes nothing.
use Prim.Native.Nat.{ℕ, ◌+◌, ◌≤◌}
use native.Mathlib.Omega.{arith}
use mathlib.Core.Bool.{Bool, true, false, cond}
use mathlib.Core.List.{List, [], ◌∷◌}
use mathlib.Core.Path.{◌≡◌, refl, ap}
use mir.Val.{bool_byte}
use lib.Dec.{leb}
use lib.ListN.{length, get_or}
use Rattle.record.specs.Range.{inverse_in_range}

pub one_at_most : (mark : Bool) → bool_byte mark ≤ 1
one_at_most true = omega arith
one_at_most false = omega arith

counts : (mark : Bool) → bool_byte mark ≡ cond mark 1 0
counts true = refl
counts false = refl

grouped : (a b c d e : ℕ) → a + b + c + d + e ≡ a + (b + (c + (d + (e + 0))))
grouped a b c d e = omega arith

-- the number of the mark in a place
abbrev pub mark_at : List Bool → ℕ → ℕ
mark_at marks place = bool_byte (get_or marks place false)

pub five_marks : (marks : List Bool) → length marks ≡ 5
    → leb (mark_at marks 0 + mark_at marks 1 + mark_at marks 2 + mark_at marks 3 + mark_at marks 4) 1 ≡ inverse_in_range marks
unfolding inverse_in_range
five_marks [] l = absurd (omega arith)
five_marks (a ∷ []) l = absurd (omega arith)
five_marks (a ∷ b ∷ []) l = absurd (omega arith)
five_marks (a ∷ b ∷ c ∷ []) l = absurd (omega arith)
five_marks (a ∷ b ∷ c ∷ d ∷ []) l = absurd (omega arith)
five_marks (a ∷ b ∷ c ∷ d ∷ e ∷ []) l = rw (counts a, counts b, counts c, counts d, counts e) (ap (λ (n : ℕ). leb n 1) (grouped (cond a 1 0) (cond b 1 0) (cond c 1 0) (cond d 1 0) (cond e 1 0)))
five_marks (a ∷ b ∷ c ∷ d ∷ e ∷ f ∷ more) l = absurd (omega arith)
