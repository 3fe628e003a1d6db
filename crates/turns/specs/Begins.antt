-- What the entries still to be taken begin with, for entries lent as one slice and for entries lent as two of equal length.
-- Assumes nothing.
use Prim.Native.Nat.{ℕ, zero, suc, ◌+◌, ◌<◌}
use Rattle.std.proofs.Common.{arith, drop-cons}
use Rattle.std.proofs.Math.Numerals.{add-one}
use Rattle.std.specs.Prelude.{◌≡◌, get_or}
use Rattle.std.proofs.Math.Path.{refl, ap}
use mathlib.Core.List.{List, [], ◌∷◌, zip_with}
use Rattle.std.proofs.Math.ListN.{length, drop}

-- The entries from place i on begin with the one at i.
pub begins_with : {Entry : Type 0} (entries : List Entry) (i : ℕ) (default : Entry) → i < length entries
    → drop i entries ≡ get_or entries i default ∷ drop (i + 1) entries
begins_with entries i default h = rw (add-one, drop-cons entries i default h)

module _ {Left Right Entry : Type 0} (make : Left → Right → Entry) where
  -- Of two lists of equal length as many entries are made as each has.
  pub as_many : (lefts : List Left) (rights : List Right) → length lefts ≡ length rights → length (zip_with make lefts rights) ≡ length lefts
  unfolding zip_with
  as_many [] rights e = refl
  as_many (l ∷ lefts) [] e = absurd (omega arith)
  as_many (l ∷ lefts) (r ∷ rights) e = ap suc (as_many lefts rights (omega arith))

  -- The entries made of two lists begin, from place i on, with the one made of the two at i.
  pub both_begin_with : (lefts : List Left) (rights : List Right) (i : ℕ) (left : Left) (right : Right) → i < length lefts → i < length rights
      → drop i (zip_with make lefts rights) ≡ make (get_or lefts i left) (get_or rights i right) ∷ drop (i + 1) (zip_with make lefts rights)
  unfolding zip_with
  both_begin_with lefts rights i left right h k = rw add-one (go lefts rights i h k)
    where
      go : (ls : List Left) (rs : List Right) (n : ℕ) → n < length ls → n < length rs
          → drop n (zip_with make ls rs) ≡ make (get_or ls n left) (get_or rs n right) ∷ drop (suc n) (zip_with make ls rs)
      go [] rs n h k = absurd (omega arith)
      go (l ∷ ls) [] n h k = absurd (omega arith)
      go (l ∷ ls) (r ∷ rs) zero h k = refl
      go (l ∷ ls) (r ∷ rs) (suc n) h k = go ls rs n (omega arith) (omega arith)
