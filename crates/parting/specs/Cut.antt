-- THE PARTING, COMPUTED from left to right, and that it is the only one: the definition first, then the proof. Assumes nothing.
-- The theorems are in proofs/Cut.antt.
use Rattle.std.specs.Prelude.{ℕ, ◌≤◌, ◌<◌, ◌≡◌, cond, eqb, leb}
use mathlib.Core.List.{List, [], ◌∷◌, ◌++◌}
use Rattle.lists.specs.Codes.{escape, carriage_return, blank}
use Rattle.parting.specs.Rules.{Plain, Body, text, skipped, closed, abandoned, Parted, done, unfinished, then}

-- where a byte finds us: outside a frame, or inside one of which so much is collected
pub data Side : Type 0 where
  outside : Side
  inside : List ℕ → Side

abbrev pub Fine : Side → Type 0
Fine outside = Unit {0}
Fine (inside body) = Body body

-- the bytes of the frame that is open
abbrev pub front : Side → List ℕ
front outside = []
front (inside body) = escape ∷ body

-- THE PARTING, COMPUTED
unfoldable pub cut : Side → List ℕ → Parted
cut outside [] = done
cut outside (b ∷ rest) = cond (eqb b escape) (cut (inside []) rest) (then (cond (leb blank b) (text b) (skipped b)) (cut outside rest))
cut (inside body) [] = unfinished body
cut (inside body) (b ∷ rest) =
    cond (eqb b escape) (then (abandoned body) (cut (inside []) rest))
    (cond (eqb b carriage_return) (then (closed body) (cut outside rest)) (cut (inside (body ++ b ∷ [])) rest))

-- what a byte is outside a frame, and inside one
pub data Outside (b : ℕ) : Type 0 where
  opening : b ≡ escape → Outside b
  letter : blank ≤ b → Outside b
  skipping : b < blank → (b ≡ escape → ⊥) → Outside b

pub data Inside (b : ℕ) : Type 0 where
  abandoning : b ≡ escape → Inside b
  closing : b ≡ carriage_return → Inside b
  collecting : Plain b → Inside b
