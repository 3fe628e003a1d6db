-- THE FOUR RULES of the choice screen (request T-11), over the parting of a stream and nothing else; where each of them is broken.
-- Hold this page against the request. Assumes nothing.
use Rattle.std.specs.Prelude.{ℕ, ◌<◌, ◌≤◌, Bool, true, false, cond, ◌&&◌, ◌⊎◌, ◌≡◌, length, Result, Ok, Err, ⊤}
use mathlib.Core.List.{List, [], ◌∷◌, ◌++◌, Memᴰ}
use Rattle.parting.specs.Rules.{Parted, unfinished, Placed, places, tail_place}
use Rattle.parts.specs.Laws.{tail_of}
use Rattle.choice.specs.declared.Sign.{Sign}
use Rattle.choice.specs.declared.Sign.TheVariants.{Asked}
use Rattle.choice.specs.declared.BrokenRule.{BrokenRule}
use Rattle.choice.specs.declared.Rule.{Rule}
use Rattle.choice.specs.declared.Rule.TheVariants.{NoScreen, LabelMissing, QuestionMark, FrameOpen}
use Rattle.choice.specs.Signs.{part_sign, first_opens, asks_labels, is_check, left_after, right_after}

abbrev pub sign_at : Placed → Sign
sign_at placed = part_sign placed.part

-- the parts before the next text byte or IDn, and those from it on
abbrev pub until_check : List Placed → List Placed
until_check [] = []
until_check (p ∷ later) = cond (is_check (sign_at p)) [] (p ∷ until_check later)

abbrev pub from_check : List Placed → List Placed
from_check [] = []
from_check (p ∷ later) = cond (is_check (sign_at p)) (p ∷ later) (from_check later)

-- whether a label stands behind these parts
abbrev pub left_stands : Bool → List Placed → Bool
left_stands stood [] = stood
left_stands stood (p ∷ later) = left_stands (left_after stood (sign_at p)) later

abbrev pub right_stands : Bool → List Placed → Bool
right_stands stood [] = stood
right_stands stood (p ∷ later) = right_stands (right_after stood (sign_at p)) later

-- both labels have been set in these parts, and neither is empty
abbrev pub both_set : List Placed → Bool
both_set since = left_stands false since && right_stands false since

-- where the labels are wanted: at the part that comes next, or at the stream's end
abbrev pub wanted_at : ℕ → List Placed → ℕ
wanted_at end [] = end
wanted_at end (p ∷ later) = p.place

-- Broken stream parted offset rule: the rule is broken there
pub data Broken (stream : List ℕ) (parted : Parted) : ℕ → ℕ → Type 0 where
  -- 1: the first part is an obeyed ID0 or ID5
  no_screen : first_opens parted ≡ false → Broken stream parted 0 1
  -- 2: after each later IDn with n 0, 1, 5, 6 or 10, when the next text byte, good IDn (any n) or the end comes, both labels have been
  -- set since and neither is empty
  label_missing : (first : Placed) (between : List Placed) (screen : Placed) (later : List Placed) → places 0 parted ≡ first ∷ (between ++ screen ∷ later)
      → asks_labels (sign_at screen) ≡ true → both_set (until_check later) ≡ false → Broken stream parted (wanted_at (length stream) (from_check later)) 2
  -- 3: no '?' would be given
  question_mark : (placed : Placed) → Memᴰ placed (places 0 parted) → sign_at placed ≡ Asked → Broken stream parted placed.place 3
  -- 4: no frame is left open
  frame_open : (body : List ℕ) → tail_of parted ≡ unfinished body → Broken stream parted (tail_place 0 parted) 4

-- Of anything that can be broken at offsets, by rules: the earliest offset, and there the first rule
pub record Earliest (broken : ℕ → ℕ → Type 0) (offset rule : ℕ) : Type 0 where
  pub here : broken offset rule
  pub least : (other rule' : ℕ) → broken other rule' → (offset < other) ⊎ ((offset ≡ other) × (rule ≤ rule'))

-- the rules by their numbers
abbrev pub rule_number : Rule → ℕ
rule_number NoScreen = 1
rule_number LabelMissing = 2
rule_number QuestionMark = 3
rule_number FrameOpen = 4

-- what a result tells of anything that can be broken: Ok, that nothing is; Err, that its rule is broken at its offset, and nothing earlier
abbrev pub Told : (ℕ → ℕ → Type 0) → Result ⊤ BrokenRule → Type 0
Told broken (Ok fine) = (offset rule : ℕ) → broken offset rule → ⊥
Told broken (Err first) = Earliest broken first.offset (rule_number first.rule)

-- WHAT AN ANSWER SAYS
abbrev pub Says : List ℕ → Parted → Result ⊤ BrokenRule → Type 0
Says stream parted c = Told (Broken stream parted) c
