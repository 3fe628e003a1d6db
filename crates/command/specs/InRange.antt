-- Which orders are in range: the numbers of the table's lines, each by the range that stands beside it. Assumes nothing.
use Rattle.std.specs.Prelude.{ℕ, List, [], ◌∷◌, Bool, true, cond, ◌&&◌, eqb, Option, Some, None}
use Rattle.record.specs.Range.{large, rows_of}
pub use Rattle.frame_table.specs.Pieces.{most_rows}
use Rattle.command.specs.Order.{Order, plain, label, draw}
pub use Rattle.command.specs.Ranges.{is_overlay, is_column, is_level, is_light, is_picture_row}
use Rattle.command.specs.Grammar.{Piece, sign, number, digit, text, columns, form}
use Rattle.command.specs.declared.Command.{Command}

-- a number of an order, and whether it is in range
abbrev pub Judged : Type 0
Judged = ℕ × Bool

abbrev pub all_in : List Judged → Bool
all_in [] = true
all_in (n ∷ []) = n.1
all_in (m ∷ n ∷ more) = m.1 && all_in (n ∷ more)

-- the first that is out of range
abbrev pub first_out : List Judged → Option ℕ
first_out [] = None
first_out (n ∷ more) = cond n.1 (first_out more) (Some n.0)

-- the numbers of pieces, each judged by its range, in a text mode that has so many rows
abbrev pub judged_in : ℕ → List Piece → List Judged
judged_in rows [] = []
judged_in rows (sign s ∷ ps) = judged_in rows ps
judged_in rows (number r n ∷ ps) = (n, r.takes rows n) ∷ judged_in rows ps
judged_in rows (digit r n ∷ ps) = (n, r.takes rows n) ∷ judged_in rows ps
judged_in rows (text t ∷ ps) = judged_in rows ps
judged_in rows (columns cs ∷ ps) = judged_in rows ps

-- the numbers of a command and of any order: those of its line in the table. A label's line has none, whichever side it is
abbrev pub numbers_of : ℕ → Command → List Judged
numbers_of rows c = judged_in rows (form (plain c))

abbrev pub order_numbers : ℕ → Order → List Judged
order_numbers rows (plain c) = numbers_of rows c
order_numbers rows (label side codes) = []
order_numbers rows (draw row cs) = judged_in rows (form (draw row cs))

abbrev pub command_in_range : ℕ → Command → Bool
command_in_range rows c = all_in (numbers_of rows c)

abbrev pub order_in_range : ℕ → Order → Bool
order_in_range rows order = all_in (order_numbers rows order)

-- the rows that a cursor frame or a mark can name: the text mode's, but none in mode 10
abbrev pub rows_named : ℕ → ℕ
rows_named mode = cond (eqb mode large) 0 (rows_of mode)

-- in a text mode
abbrev pub in_range_in_mode : ℕ → Order → Bool
in_range_in_mode mode order = order_in_range (rows_named mode) order
