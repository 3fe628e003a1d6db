-- What is answered in the sister's edition has changed nothing, and what is passed over is not answered. Assumes nothing.
use Rattle.std.specs.Prelude.{ℕ, true, false, List, ◌≡◌, refl}
use Rattle.std.proofs.Common.{true≢false, sym, ap, ◌∙◌}
use Rattle.std.proofs.Math.Option.{Option, none, some}
use Rattle.lists.specs.Tests.{by_test, either_way}
use Rattle.record.specs.Core.{Core}
use Rattle.sister_answer.specs.declared.Told.TheVariants as Tell
use Rattle.sister_answer.specs.Told.{told_bytes, is_silence}
use Rattle.answer.specs.Answers.{answer_bytes, is_silence as isSilent}
use Rattle.answer.specs.declared.Answer.TheVariants.{Silence}
use Rattle.command.specs.Order.{Order, plain, label, draw}
use Rattle.command.specs.InRange.{all_in}
use Rattle.command.specs.declared.Command.{Command}
use Rattle.effect.specs.Obey.{obey_order, answer_for, answer_to}
use Rattle.effect.specs.Questions.{silence_of}
use Rattle.sister_command.specs.Grammar.{SpellsIn}
use Rattle.sister_command.specs.Reading.{sister_order_of, as_first}
use Rattle.sister_command.proofs.Agree.{agree_in, shared_test}
use Rattle.sister_command.specs.Order.{AnyOrder, first, own}
use Rattle.sister_command.specs.InRange.{own_in_range, letter_numbers, question_numbers, step_numbers}
use Rattle.sister_command.specs.declared.SisterCommand.{SisterCommand}
use Rattle.sister_command.specs.declared.SisterCommand.TheVariants.{Cursor, Restart, Mode, Light, LightTo, IconU, Brightness, KeyTimes, Speaker, Asked, Step}
use Rattle.sister_command.specs.declared.Question.{Question}
use Rattle.sister_command.specs.declared.Step.{Step as Stepping}
use Rattle.sister_command.specs.declared.LightChange.{LightChange}
use Rattle.sister_effect.specs.Effect.{own_effect, refused_now, asked_of, own_told}
use Rattle.sister_effect.specs.Obey.{carry_out_own, obey_any, mark_of, answers_to, told_to}

-- A letter after IE, a question and a step have no number to be out of range.
pub letter_in_range : (change : LightChange) → own_in_range (LightTo change) ≡ true
letter_in_range change = ap all_in (letter_numbers change)

pub question_in_range : (question : Question) → own_in_range (Asked question) ≡ true
question_in_range question = ap all_in (question_numbers question)

pub step_in_range : (step : Stepping) → own_in_range (Step step) ≡ true
step_in_range step = ap all_in (step_numbers step)

-- THE THREE WAYS OF HER COMMAND: obeyed,
pub own_obeyed : (x : SisterCommand) (c : Core) → own_in_range x ≡ true → refused_now x c ≡ false → carry_out_own x c ≡ own_effect x c
unfolding carry_out_own
own_obeyed x c h k = rw (h, k)

-- refused by the record's state,
pub own_refused : (x : SisterCommand) (c : Core) → refused_now x c ≡ true → carry_out_own x c ≡ c
unfolding carry_out_own
own_refused x c k = either_way (λ (d : Core). d ≡ c) (own_in_range x) (λ _. rw k) (λ _. refl)

-- or passed over with a number out of range.
pub own_passed_over : (x : SisterCommand) (c : Core) → own_in_range x ≡ false → carry_out_own x c ≡ c
unfolding carry_out_own
own_passed_over x c h = rw h

-- WHAT IS PASSED OVER IS NOT ANSWERED: neither as a question nor as a refusal.
pub passed_over_untold : (x : SisterCommand) (c : Core) → own_in_range x ≡ false → own_told x c ≡ Tell.Silence
passed_over_untold (Cursor n) c h = refl
passed_over_untold Restart c h = refl
passed_over_untold (Mode n) c h = refl
passed_over_untold (Light n) c h = refl
passed_over_untold (LightTo change) c h = absurd (true≢false (sym (letter_in_range change) ∙ h))
passed_over_untold (IconU n) c h = refl
passed_over_untold (Brightness n) c h = refl
passed_over_untold (KeyTimes time1 time2) c h = refl
passed_over_untold (Speaker n) c h = refl
passed_over_untold (Asked question) c h = absurd (true≢false (sym (question_in_range question) ∙ h))
passed_over_untold (Step step) c h = absurd (true≢false (sym (step_in_range step) ∙ h))

-- A question changes nothing, and nothing else is answered with a value,
asked_same : (x : SisterCommand) (c : Core) → is_silence (asked_of x c) ≡ false → own_effect x c ≡ c
asked_same (Cursor n) c h = absurd (true≢false h)
asked_same Restart c h = absurd (true≢false h)
asked_same (Mode n) c h = absurd (true≢false h)
asked_same (Light n) c h = absurd (true≢false h)
asked_same (LightTo change) c h = absurd (true≢false h)
asked_same (IconU n) c h = absurd (true≢false h)
asked_same (Brightness n) c h = absurd (true≢false h)
asked_same (KeyTimes time1 time2) c h = absurd (true≢false h)
asked_same (Speaker n) c h = absurd (true≢false h)
asked_same (Asked question) c h = refl
asked_same (Step step) c h = absurd (true≢false h)

-- so WHATEVER IS ANSWERED HAS CHANGED NOTHING: a bad frame, a refused command, a question.
pub told_same : (c : Core) (found : Option AnyOrder) → is_silence (told_to c found) ≡ false → obey_any c found ≡ c
told_same c none h = refl
told_same c (some (first o)) h = absurd (true≢false h)
told_same c (some (own x)) h =
    by_test (refused_now x c) (λ k. own_refused x c k)
    (λ k. by_test (own_in_range x) (λ i. own_obeyed x c i k ∙ asked_same x c (rw k at h)) (λ i. own_passed_over x c i))

-- WHERE THE SISTER SPELLS AN ORDER OF THE FIRST EDITION, it is no question of that edition: those have other frames in hers.
pub shared_silent : (o : Order) {f : List ℕ} → SpellsIn true (first o) f → answer_to (some o) ≡ Silence
shared_silent (plain c) s = silence_of (answer_for c) (shared_test (λ (x : Command). isSilent (answer_for x)) (λ m n. refl) c s)
shared_silent (label side codes) s = refl
shared_silent (draw row columns) s = refl

-- So in her edition what a frame is answered is what is told.
pub answers_told : (c : Core) (f : List ℕ) → c.edition.sister ≡ true → answers_to c (sister_order_of f) ≡ told_bytes (told_to c (sister_order_of f))
answers_told c f h = cases (sister_order_of f) refl
  where
    cases : (found : Option AnyOrder) → sister_order_of f ≡ found → answers_to c found ≡ told_bytes (told_to c found)
    cases none e = rw h
    cases (some (first o)) e = rw (shared_silent o ((agree_in true (first o) f).0 e))
    cases (some (own x)) e = refl

-- IN THE FIRST EDITION a frame does and is answered what it did before there was a sister.
pub obeys_first : (c : Core) (found : Option Order) → obey_any c (as_first found) ≡ obey_order c found
obeys_first c none = refl
obeys_first c (some o) = refl

pub answers_first : (c : Core) → c.edition.sister ≡ false → (found : Option Order) → answers_to c (as_first found) ≡ answer_bytes (answer_to found) c.settings.contrast c.settings.hook
answers_first c h none = ap mark_of h
answers_first c h (some o) = refl
