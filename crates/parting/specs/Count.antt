-- HOW MANY ANSWERS: no more than frames ended, and those no more than ESC bytes and one for a frame that was open. Assumes nothing.
-- The theorems are in proofs/Count.antt.
use Rattle.std.specs.Prelude.{ℕ, ◌≤◌, Bool, List, eqb}
use Rattle.std.proofs.Math.ListN.{length}
use Rattle.lists.specs.Codes.{escape}
use Rattle.lists.specs.Counted.{counted}
use Rattle.parting.specs.Rules.{Frame, no_frame, open_frame, overlong}
use Rattle.parting.specs.Meaning.{Meaning}

-- how many ESC bytes there are
abbrev pub is_escape : ℕ → Bool
is_escape b = eqb b escape

unfoldable pub escapes : List ℕ → ℕ
escapes = counted is_escape

-- one for a frame that is open or overlong
abbrev pub waiting : Frame → ℕ
waiting no_frame = 0
waiting (open_frame body) = 1
waiting overlong = 1

-- a handset that answers a bad frame, and a closed one of these, with at most one byte
pub record OneAnswer (M : Meaning) (These : List ℕ → Type 0) : Type 0 where
  pub obeyed : (core : M.Core) (body : List ℕ) → These body → length (M.obey core body).answers ≤ 1
  pub refused : (core : M.Core) → length (M.bad_answer core) ≤ 1
