-- Which orders are in range in either edition: the numbers of the grammar's lines, each by the range that stands beside it. Assumes nothing.
use Rattle.std.specs.Prelude.{ℕ, Bool, List, [], ◌≡◌, refl}
use Rattle.command.specs.InRange.{Judged, all_in, judged_in, in_range_in_mode}
use Rattle.sister_command.specs.Order.{AnyOrder, first, own}
use Rattle.sister_command.specs.Grammar.{sister_form}
use Rattle.sister_command.specs.declared.SisterCommand.{SisterCommand}
use Rattle.sister_command.specs.declared.SisterCommand.TheVariants.{LightTo, Asked, Step}
use Rattle.sister_command.specs.declared.Question.{Question}
use Rattle.sister_command.specs.declared.Question.TheVariants as Ask
use Rattle.sister_command.specs.declared.Step.{Step as Stepping}
use Rattle.sister_command.specs.declared.Step.TheVariants.{ContrastUp, ContrastDown, BrightnessUp, BrightnessDown, SpeakerUp, SpeakerDown}
use Rattle.sister_command.specs.declared.LightChange.{LightChange}
use Rattle.sister_command.specs.declared.LightChange.TheVariants as To

-- the numbers of a command of her own
abbrev pub own_numbers : ℕ → SisterCommand → List Judged
own_numbers rows c = judged_in rows (sister_form (own c))

-- no range of these goes by the rows of a text mode
abbrev pub own_in_range : SisterCommand → Bool
own_in_range c = all_in (own_numbers 0 c)

-- in a text mode; what she shares has the first edition's ranges
abbrev pub any_in_range : ℕ → AnyOrder → Bool
any_in_range mode (first o) = in_range_in_mode mode o
any_in_range mode (own c) = own_in_range c

-- A letter after IE, a question and a step have no number.
pub letter_numbers : (change : LightChange) → own_numbers 0 (LightTo change) ≡ []
letter_numbers = elim [ To.On ↦ refl | To.AutoStart ↦ refl | To.Auto ↦ refl | To.PwmOn ↦ refl | To.PwmAuto ↦ refl | To.Restart ↦ refl | To.KeypadSet ↦ refl | To.KeypadClearedStart ↦ refl | To.KeypadCleared ↦ refl ]

pub question_numbers : (question : Question) → own_numbers 0 (Asked question) ≡ []
question_numbers = elim [ Ask.Position ↦ refl | Ask.Version ↦ refl | Ask.Hook ↦ refl | Ask.Ptt ↦ refl | Ask.Contrast ↦ refl | Ask.Mode ↦ refl | Ask.Light ↦ refl | Ask.Brightness ↦ refl | Ask.Times ↦ refl | Ask.Speaker ↦ refl ]

pub step_numbers : (step : Stepping) → own_numbers 0 (Step step) ≡ []
step_numbers = elim [ ContrastUp ↦ refl | ContrastDown ↦ refl | BrightnessUp ↦ refl | BrightnessDown ↦ refl | SpeakerUp ↦ refl | SpeakerDown ↦ refl ]
