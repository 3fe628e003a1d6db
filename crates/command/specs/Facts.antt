-- What a good frame carries, by the grammar alone. Assumes nothing.
use Rattle.std.specs.Prelude.{ℕ, ◌+◌, ◌<◌, ◌≤◌, true, List, ◌≡◌, length}
use Rattle.std.proofs.Common.{arith, append-nil}
use Rattle.lists.specs.Every.{every}
use Rattle.record.specs.Range.{is_code}
use Rattle.picture.specs.Data.{Bytes}
use Rattle.picture.specs.ReadLaws.{columns_are_bytes}
use Rattle.command.specs.Order.{label, draw}
use Rattle.command.specs.Grammar.{end, signs, codes, one_digit, data_of, Spells}
use Rattle.command.specs.declared.Side.{Side}
use Rattle.command.specs.declared.Side.TheVariants.{Left, Right}

-- 0 to 7 codes, 0x20 or more
pub record LabelText (t : List ℕ) : Type 0 where
  pub most : length t ≤ 7
  pub good : every is_code t ≡ true

pub read_label : (side : Side) {t f : List ℕ} → Spells (label side t) f → LabelText t
read_label Left (signs s (codes h k rest)) = record { most = h; good = k }
read_label Right (signs s (codes h k rest)) = record { most = h; good = k }

-- they follow the three letters and signs of the frame
pub label_length : (side : Side) (t : List ℕ) {f : List ℕ} → Spells (label side t) f → length f ≡ 3 + length t
label_length Left t (signs s (codes h k end)) = rw (append-nil t) (omega arith)
label_length Right t (signs s (codes h k end)) = rw (append-nil t) (omega arith)

-- row 0 to 9, and 1 to 96 columns, each a byte
pub record PictureRow (row : ℕ) (columns : List ℕ) : Type 0 where
  pub digit : row < 10
  pub least : 1 ≤ length columns
  pub most : length columns ≤ 96
  pub bytes : Bytes columns

pub read_row : {row : ℕ} {columns f : List ℕ} → Spells (draw row columns) f → PictureRow row columns
read_row (signs s (one_digit h (signs s' (data_of d rest)))) =
    record { digit = h; least = d.least; most = d.most; bytes = columns_are_bytes d.items }
