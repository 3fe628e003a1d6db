-- The columns that data draws, as the reader finds them. Assumes nothing.
use Rattle.std.specs.Prelude.{ℕ, ◌+◌, ◌-◌, ◌*◌, Bool, cond, ◌&&◌, List, [], ◌∷◌, ◌++◌, leb, length, replicate, Option, Some, None, option_and_then, option_map}
use Prim.Native.Char.{code}
use Rattle.lists.specs.Padded.{padded}
use Rattle.picture.specs.declared.Item.{Item}
use Rattle.picture.specs.declared.Columns.{Columns}

abbrev pub is_decimal : ℕ → Bool
is_decimal c = leb (code "0") c && leb c (code "9")

abbrev pub is_capital : ℕ → Bool
is_capital c = leb (code "A") c && leb c (code "F")

abbrev pub is_letter : ℕ → Bool
is_letter c = leb (code "a") c && leb c (code "y")

-- the value of a digit 0-9 or A-F
unfoldable pub hex_of : ℕ → Option ℕ
hex_of c = cond (is_decimal c) (Some (c - code "0")) (cond (is_capital c) (Some (c - code "A" + 10)) None)

-- how many columns an item gives that begins with this code: 2 to 26 for a letter a to y, else 1
unfoldable pub times_of : ℕ → ℕ
times_of c = cond (is_letter c) (c - code "a" + 2) 1

-- the column that two digits give
abbrev pub column_of : ℕ → ℕ → Option ℕ
column_of a b = option_and_then (λ x. option_map (λ y. x * 16 + y) (hex_of b)) (hex_of a)

abbrev pub onto : List ℕ → Option (List ℕ) → Option (List ℕ)
onto xs None = None
onto xs (Some ys) = Some (xs ++ ys)

-- a column so many times, before those that follow
abbrev pub repeated : ℕ → Option ℕ → Option (List ℕ) → Option (List ℕ)
repeated count None rest = None
repeated count (Some column) rest = onto (replicate count column) rest

-- two digits give so many columns, before those that follow
abbrev pub drawn : ℕ → ℕ → ℕ → Option (List ℕ) → Option (List ℕ)
drawn count a b rest = repeated count (column_of a b) rest

-- the columns of all items, where the codes are items
unfoldable pub items : List ℕ → Option (List ℕ)
items [] = Some []
items (a ∷ []) = None
items (a ∷ b ∷ []) = drawn 1 a b (Some [])
items (a ∷ b ∷ c ∷ more) = cond (is_letter a) (drawn (times_of a) b c (items more)) (drawn 1 a b (items (c ∷ more)))

-- at most 96 columns
abbrev pub few : Option (List ℕ) → List ℕ
few None = []
few (Some columns) = cond (leb (length columns) 96) columns []

-- the columns that the codes draw; no columns where they are no data
unfoldable pub columns_of : List ℕ → List ℕ
columns_of codes = few (items codes)

-- columns in their 96 places
abbrev pub columns_in : List ℕ → Columns
columns_in columns = record { len = length columns; bytes = padded 96 columns }

-- none where the codes are no data
abbrev pub columns_found : List ℕ → Option Columns
columns_found [] = None
columns_found (column ∷ more) = Some (columns_in (column ∷ more))

abbrev pub columns_read : List ℕ → Option Columns
columns_read codes = columns_found (columns_of codes)

-- the reader's step: the item that the codes begin with, in two codes or in three
unfoldable pub pair_of : ℕ → ℕ → ℕ → ℕ → Option Item
pair_of count a b width = option_map (λ column. record { count = count; column = column; width = width }) (column_of a b)

unfoldable pub first_of : List ℕ → Option Item
first_of [] = None
first_of (a ∷ []) = None
first_of (a ∷ b ∷ []) = pair_of 1 a b 2
first_of (a ∷ b ∷ c ∷ more) = cond (is_letter a) (pair_of (times_of a) b c 3) (pair_of 1 a b 2)
