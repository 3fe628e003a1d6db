-- What the definitions say of a slice by its length and its parts. Assumes nothing.
use Prim.Native.Nat.{ℕ, ◌-◌}
use native.Mathlib.Nat.{le_refl}
use mathlib.Core.Bool.{true, false}
use mathlib.Core.List.{List}
use mathlib.Core.Path.{◌≡◌}
use lib.ListN.{length, take, drop, length-drop}
use lib.Seq.{take_all}
use Rattle.std.specs.Prelude.{option_map}
use Rattle.std.specs.Bool.{then_some}
use Rattle.command.specs.Pick.{byte_at}
use Rattle.command.specs.declared.Reading.TheVariants.{Plain, Label}
use Rattle.frame_table.specs.Reader as reader
use Rattle.command.specs.First.{opens_label, first}
use Rattle.command.specs.Reading.{is_text, side_of, label_read, read_with}

-- the part from n on is what `drop` leaves
pub part_rest : (n : ℕ) (s : List ℕ) → take (length s - n) (drop n s) ≡ drop n s
part_rest n s = take_all (length s - n) (drop n s) (simp length-drop (le_refl _))

-- the reading by whether the frame is a label's
module _ (class next f : List ℕ) where
  pub label_read_lem : opens_label f ≡ true → then_some (is_text (take (length f - 3) (drop 3 f))) (Label (side_of (byte_at f 2))) ≡ read_with class next f
  unfolding read_with label_read
  label_read_lem e = rw (part_rest 3 f, e)

  pub table_read : opens_label f ≡ false → option_map Plain (reader.read_with first class next f) ≡ read_with class next f
  unfolding read_with
  table_read e = rw e
