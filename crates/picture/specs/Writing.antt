-- The data that columns are written with: "cuts each longest run of equal columns into 26s from the left, a single column without a letter"
-- (document 01, Numbers handed back). Assumes nothing.
use Rattle.std.specs.Prelude.{ℕ, suc, ◌+◌, ◌-◌, ◌/◌, ◌%◌, ◌≤◌, cond, ◌&&◌, List, [], ◌∷◌, ◌++◌, ◌≡◌, ltb, leb, eqb, length, replicate}
use Prim.Native.Char.{code}
use Rattle.lists.specs.Padded.{padded}
use Rattle.picture.specs.declared.Data.{Data}

-- the digit 0-9 or A-F of a value below 16
unfoldable pub hex_code : ℕ → ℕ
hex_code x = cond (ltb x 10) (code "0" + x) (code "A" + (x - 10))

-- n equal columns, 1 to 26 of them: a letter where they are several, then two digits
unfoldable pub item_text : ℕ → ℕ → List ℕ
item_text n column =
    cond (eqb n 1) (hex_code (column / 16) ∷ hex_code (column % 16) ∷ [])
    ((code "a" + (n - 2)) ∷ hex_code (column / 16) ∷ hex_code (column % 16) ∷ [])

-- n equal columns and those that follow: one more of the same while they are below 26, else a new item
abbrev pub runs : ℕ → ℕ → List ℕ → List ℕ
runs column n [] = item_text n column
runs column n (next ∷ rest) = cond (eqb next column && ltb n 26) (runs column (suc n) rest) (item_text n column ++ runs next 1 rest)

abbrev pub encode : List ℕ → List ℕ
encode [] = []
encode (column ∷ rest) = runs column 1 rest

-- the same rule without the writer: an item is full, or the next column differs, or no column follows
pub data Cut : List ℕ → List ℕ → Type 0 where
  last : (n column : ℕ) → 1 ≤ n → n ≤ 26 → Cut (replicate n column) (item_text n column)
  full : {column : ℕ} {rest text : List ℕ} → Cut (column ∷ rest) text → Cut (replicate 26 column ++ column ∷ rest) (item_text 26 column ++ text)
  differs : (n column : ℕ) {next : ℕ} {rest text : List ℕ} → 1 ≤ n → n ≤ 26 → (next ≡ column → ⊥) → Cut (next ∷ rest) text
      → Cut (replicate n column ++ next ∷ rest) (item_text n column ++ text)

-- nothing is written for no columns or for more than 96
abbrev pub text_of : List ℕ → List ℕ
text_of columns = cond (leb (length columns) 96) (encode columns) []

-- data in its 192 places
abbrev pub data_in : List ℕ → Data
data_in text = record { len = length text; bytes = padded 192 text }

abbrev pub data_written : List ℕ → Data
data_written columns = data_in (text_of columns)
