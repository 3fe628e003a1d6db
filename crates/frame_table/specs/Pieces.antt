-- A frame as pieces one after the other: how an edition's grammar is written down. Assumes nothing.
use Rattle.std.specs.Prelude.{ℕ, ◌<◌, ◌≤◌, Bool, true, List, [], ◌∷◌, ◌++◌, ◌≡◌, length}
use Rattle.lists.specs.Every.{every}
use Rattle.record.specs.Range.{is_code}
use Rattle.numeral.specs.Spelt.{Spelt, digit_code}
use Rattle.picture.specs.Data.{Draws}

-- the most rows that a text mode has: a writer, which knows no mode, takes cursor rows 0-4 and marks 0-5
abbrev pub most_rows : ℕ
most_rows = 5

-- which numbers are in range in a text mode that has so many rows; none of them has more than three digits
pub record Range : Type 0 where
  pub takes : ℕ → ℕ → Bool
  pub low : (n : ℕ) → takes most_rows n ≡ true → n < 1000

-- a piece of a frame: these signs; a number in one to three digits, with its range; a number in one digit, with its range; a text of 0
-- to 7 codes, 0x20 to 0xFF; data that draws columns
pub data Piece : Type 0 where
  sign : List ℕ → Piece
  number : Range → ℕ → Piece
  digit : Range → ℕ → Piece
  text : List ℕ → Piece
  columns : List ℕ → Piece

-- Matches pieces frame: the frame is the pieces, one after the other, whether their numbers are in range or not
pub data Matches : List Piece → List ℕ → Type 0 where
  end : Matches [] []
  signs : (s : List ℕ) {ps : List Piece} {f : List ℕ} → Matches ps f → Matches (sign s ∷ ps) (s ++ f)
  digits : {n : ℕ} {d : List ℕ} {ps : List Piece} {f : List ℕ} {r : Range} → Spelt n d → Matches ps f → Matches (number r n ∷ ps) (d ++ f)
  one_digit : {n : ℕ} {ps : List Piece} {f : List ℕ} {r : Range} → n < 10 → Matches ps f → Matches (digit r n ∷ ps) (digit_code n ∷ f)
  codes : {t : List ℕ} {ps : List Piece} {f : List ℕ} → length t ≤ 7 → every is_code t ≡ true → Matches ps f → Matches (text t ∷ ps) (t ++ f)
  data_of : {d cs : List ℕ} {ps : List Piece} {f : List ℕ} → Draws d cs → Matches ps f → Matches (columns cs ∷ ps) (d ++ f)
