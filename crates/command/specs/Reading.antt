-- What the frame reader finds in a frame: a label, or a command by the table, or a picture. Assumes nothing.
use Rattle.std.specs.Prelude.{ℕ, ◌-◌, Bool, false, cond, ◌&&◌, List, [], ◌∷◌, leb, eqb, length, get_or, take, drop, Some, None, option_map}
use Rattle.std.specs.Prelude as std
use Rattle.std.specs.Bool.{then_some}
use Prim.Native.Char.{code}
use Rattle.std.proofs.Math.Option.{Option, none, some}
use Rattle.std.specs.Prelude.{Option as Maybe, Some, None, option_map}
use Rattle.lists.specs.Every.{every}
use Rattle.record.specs.Range.{is_code}
use Rattle.numeral.specs.Numeral.{is_digit}
use Rattle.picture.specs.declared.Columns.{Columns}
use Rattle.picture.specs.Reading.{columns_read}
use Rattle.command.specs.Order.{Order, plain, label, draw}
use Rattle.frame_table.specs.Reader as reader
use Rattle.command.specs.Table.{classes, next_states}
use Rattle.command.specs.First.{opens_label, first}
use Rattle.command.specs.declared.Side.{Side}
use Rattle.command.specs.declared.Side.TheVariants.{Left, Right}
use Rattle.command.specs.declared.Reading.{Reading}
use Rattle.command.specs.declared.Reading.TheVariants.{Plain, Label}
use Rattle.command.specs.declared.PictureFrame.{PictureFrame}

-- Parts of a frame ------------------------------------------------------------------------------------------------

-- whether the last code is this sign, and the codes before it
abbrev pub ends_with : ℕ → List ℕ → Bool
ends_with sign s = eqb (get_or s (length s - 1) 0) sign

abbrev pub but_last : List ℕ → List ℕ
but_last s = take (length s - 1) s

-- Labels and commands -----------------------------------------------------------------------------------------------

-- a label's text: at most 7 codes, none below 0x20
unfoldable pub is_text : List ℕ → Bool
is_text t = leb (length t) 7 && every is_code t

-- IK1 or IK2 and a text
abbrev pub side_of : ℕ → Side
side_of sign = cond (eqb sign (code "1")) Left Right

unfoldable pub label_read : ℕ → List ℕ → std.Option Reading
label_read sign t = then_some (is_text t) (Label (side_of sign))

-- a frame that is no picture, by a table of classes and one of next states; and by the first edition's
unfoldable pub read_with : List ℕ → List ℕ → List ℕ → std.Option Reading
read_with class next f = cond (opens_label f) (label_read (get_or f 2 0) (drop 3 f)) (option_map Plain (reader.read_with first class next f))

unfoldable pub read_of : List ℕ → std.Option Reading
read_of f = read_with classes next_states f

-- Picture frames --------------------------------------------------------------------------------------------------

unfoldable pub opens_picture : List ℕ → Bool
opens_picture [] = false
opens_picture (a ∷ []) = false
opens_picture (a ∷ b ∷ rest) = eqb a (code "G") && eqb b (code "r")

-- a row and its columns
abbrev pub row_with : ℕ → Columns → PictureFrame
row_with row columns = record { row = row; columns = columns }

-- the row's digit and the data
unfoldable pub row_and_data : ℕ → List ℕ → Maybe PictureFrame
row_and_data digit codes = cond (is_digit digit) (option_map (row_with (digit - code "0")) (columns_read codes)) None

-- the row's digit and what follows the comma: data and a z
unfoldable pub drawn_row : ℕ → List ℕ → Maybe PictureFrame
drawn_row digit rest = cond (ends_with (code "z") rest) (row_and_data digit (but_last rest)) None

unfoldable pub picture_of : List ℕ → Maybe PictureFrame
picture_of [] = None
picture_of (a ∷ []) = None
picture_of (a ∷ b ∷ []) = None
picture_of (a ∷ b ∷ digit ∷ []) = None
picture_of (a ∷ b ∷ digit ∷ comma ∷ rest) =
    cond (eqb a (code "G") && eqb b (code "r") && eqb comma (code ",")) (drawn_row digit rest) None

-- The order ---------------------------------------------------------------------------------------------------------

-- a label's codes are the frame's own, after IK1 or IK2
abbrev pub order_read : std.Option Reading → List ℕ → Option Order
order_read None codes = none
order_read (Some (Plain c)) codes = some (plain c)
order_read (Some (Label side)) codes = some (label side codes)

abbrev pub order_drawn : Maybe PictureFrame → Option Order
order_drawn None = none
order_drawn (Some p) = some (draw p.row (take p.columns.len p.columns.bytes))

-- what was read of a frame, unless it is a picture
abbrev pub order_found : std.Option Reading → List ℕ → Option Order
order_found reading f = cond (opens_picture f) (order_drawn (picture_of f)) (order_read reading (drop 3 f))

abbrev pub order_by : List ℕ → List ℕ → List ℕ → Option Order
order_by class next f = order_found (read_with class next f) f

unfoldable pub order_of : List ℕ → Option Order
order_of f = order_found (read_of f) f
