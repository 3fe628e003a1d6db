-- What a caller knows of the reader's answers: which order they are, and that their sizes fit. Assumes nothing.
-- The theorems are in proofs/Found.antt.
use Rattle.std.specs.Prelude.{ℕ, ◌<◌, ◌≤◌, List, ◌≡◌, length, drop}
use Rattle.command.specs.Order.{label}
use Rattle.command.specs.Grammar.{Spells}
use Rattle.command.specs.Facts.{LabelText}
use Rattle.command.specs.declared.Side.{Side}
use Rattle.command.specs.declared.PictureFrame.{PictureFrame}

-- A label's codes are the frame's own, from its fourth byte on.
pub record LabelFound (side : Side) (f : List ℕ) : Type 0 where
  pub long : 3 ≤ length f
  pub codes : LabelText (drop 3 f)
  pub spelt : Spells (label side (drop 3 f)) f

-- A picture frame's row is 0 to 9, and its columns stand in 96 places.
pub record Fits (p : PictureFrame) : Type 0 where
  pub row_digit : p.row < 10
  pub few_columns : p.columns.len ≤ 96
  pub places : length p.columns.bytes ≡ 96
