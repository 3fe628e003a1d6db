-- The answer, computed part by part from left to right. Assumes nothing.
use Rattle.std.specs.Prelude.{ℕ, ◌+◌, Bool, false, not, cond, ◌&&◌, ◌||◌, List, length, Result, Ok, Err, ⊤}
use Rattle.std.specs.Result.{result_and}
use Rattle.record.specs.Range.{mode_in_range}
use Rattle.parting.specs.Rules.{bytes_of, Parted, done, unfinished, then}
use Rattle.parting.specs.Cut.{outside, cut}
use Rattle.choice.specs.declared.Since.{Since}
use Rattle.choice.specs.declared.Sign.{Sign}
use Rattle.choice.specs.declared.Sign.TheVariants.{Text, Screen, LeftSet, RightSet, BothEmpty, Asked, Open, Other}
use Rattle.choice.specs.declared.BrokenRule.{BrokenRule}
use Rattle.choice.specs.declared.Rule.{Rule}
use Rattle.choice.specs.declared.Rule.TheVariants.{NoScreen, LabelMissing, QuestionMark, FrameOpen}
use Rattle.choice.specs.Signs.{part_sign, opens_choice}

-- what is asked for, and which labels stand
abbrev pub since : Bool → Bool → Bool → Since
since asks left right = record { asks = asks; left = left; right = right }

-- nothing is asked for
abbrev pub calm : Since
calm = since false false false

-- both labels stand, if they are asked for
abbrev pub labelled : Since → Bool
labelled s = not s.asks || (s.left && s.right)

-- behind a part: a text byte or IDn ends what was asked for, IDn may ask anew; labels come and go
abbrev pub after : Since → Sign → Since
after s Text = calm
after s (Screen n) = since (mode_in_range n) false false
after s (LeftSet codes) = since s.asks codes s.right
after s (RightSet codes) = since s.asks s.left codes
after s BothEmpty = since s.asks false false
after s Asked = s
after s Open = s
after s Other = s

abbrev pub wanted : Since → Result ⊤ Rule
wanted s = cond (labelled s) (Ok tt) (Err LabelMissing)

-- whether a rule is broken by what stands behind the first part, and which
abbrev pub broken_by : Since → Sign → Result ⊤ Rule
broken_by s Text = wanted s
broken_by s (Screen n) = wanted s
broken_by s (LeftSet codes) = Ok tt
broken_by s (RightSet codes) = Ok tt
broken_by s BothEmpty = Ok tt
broken_by s Asked = Err QuestionMark
broken_by s Open = Err FrameOpen
broken_by s Other = Ok tt

-- the answer where a rule is broken at a place, or none
abbrev pub answer_of : Result ⊤ Rule → ℕ → Result ⊤ BrokenRule
answer_of (Ok fine) at = Ok tt
answer_of (Err rule) at = Err (record { rule = rule; offset = at })

-- from a place behind the first part on
unfoldable pub judged_from : Since → ℕ → Parted → Result ⊤ BrokenRule
judged_from s at done = answer_of (wanted s) at
judged_from s at (unfinished body) = answer_of (broken_by s Open) at
judged_from s at (then part parted) =
    result_and (answer_of (broken_by s (part_sign part)) at) (judged_from (after s (part_sign part)) (at + length (bytes_of part)) parted)

abbrev pub judged_all : Parted → Result ⊤ BrokenRule
judged_all done = answer_of (Err NoScreen) 0
judged_all (unfinished body) = answer_of (Err NoScreen) 0
judged_all (then part parted) = cond (opens_choice (part_sign part)) (judged_from calm (length (bytes_of part)) parted) (answer_of (Err NoScreen) 0)

-- THE ANSWER on a stream
unfoldable pub choice_of : List ℕ → Result ⊤ BrokenRule
choice_of stream = judged_all (cut outside stream)
