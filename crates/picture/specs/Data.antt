-- Picture data as document 01 tells it: "one or more items, in all 1 to 96 columns. An item is two digits 0-9 or A-F, giving one column,
-- or a letter a to y before them, giving 2 to 26 equal columns." Written without the reader and the writer. Assumes nothing.
use Rattle.std.specs.Prelude.{ℕ, ◌+◌, ◌*◌, ◌<◌, ◌≤◌, List, [], ◌∷◌, ◌++◌, length, get_or, replicate}
use Prim.Native.Char.{code}

-- Digit x c: the code c is the digit 0-9 or A-F of the value x
pub data Digit : ℕ → ℕ → Type 0 where
  decimal : {x : ℕ} → x < 10 → Digit x (code "0" + x)
  letter : {x : ℕ} → x < 6 → Digit (10 + x) (code "A" + x)

-- Item codes columns: a is 2 columns, y is 26
pub data Item : List ℕ → List ℕ → Type 0 where
  single : {x y a b : ℕ} → Digit x a → Digit y b → Item (a ∷ b ∷ []) ((x * 16 + y) ∷ [])
  several : {k x y a b : ℕ} → k < 25 → Digit x a → Digit y b → Item ((code "a" + k) ∷ a ∷ b ∷ []) (replicate (2 + k) (x * 16 + y))

-- Items codes columns: items one after the other
pub data Items : List ℕ → List ℕ → Type 0 where
  none : Items [] []
  more : {s t xs ys : List ℕ} → Item s xs → Items t ys → Items (s ++ t) (xs ++ ys)

-- Draws codes columns: an item gives a column at least, so one column or more is one item or more
pub record Draws (codes columns : List ℕ) : Type 0 where
  pub items : Items codes columns
  pub least : 1 ≤ length columns
  pub most : length columns ≤ 96

-- each column is a byte
abbrev pub Bytes : List ℕ → Type 0
Bytes columns = (i : ℕ) → get_or columns i 0 < 256
