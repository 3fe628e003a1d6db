-- Which labels and picture rows are in range: document 01, "Numbers handed back", number 2. Assumes nothing.
use Rattle.std.specs.Prelude.{ℕ, Bool, not, ◌&&◌, ◌||◌, List, leb, eqb, length}
use Rattle.lists.specs.Every.{every}
use Rattle.record.specs.Range.{is_code, is_low_column}
use Rattle.command.specs.InRange.{is_picture_row}

-- at most 7 codes, none below 0x20
unfoldable pub is_label : List ℕ → Bool
is_label codes = leb (length codes) 7 && every is_code codes

-- 1 to 96 columns, a row 0 to 6, and in row 6 no column above 31
unfoldable pub is_row : ℕ → List ℕ → Bool
is_row row columns = leb 1 (length columns) && leb (length columns) 96 && is_picture_row row && (not (eqb row 6) || every is_low_column columns)
