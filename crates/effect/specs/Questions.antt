-- A frame that is answered changes nothing: a bad one, and a question. Assumes nothing.
use Rattle.std.specs.Prelude.{true, false, ◌≡◌, refl, ◌⊎◌, ℕ}
use Rattle.std.proofs.Common.{true≢false, sym, ap, inl, inr, ⊎_elim}
use Rattle.std.proofs.Math.Option.{Option, none, some}
use Rattle.lists.specs.Tests.{by_test}
use Rattle.answer.specs.Answers.{is_silence}
use Rattle.answer.specs.declared.Answer.{Answer}
use Rattle.answer.specs.declared.Answer.TheVariants.{Silence, QuestionMark}
use Rattle.answer.specs.declared.Answer.TheVariants as Answers
use Rattle.command.specs.InRange.{in_range_in_mode}
use Rattle.command.specs.Order.{Order, plain, label, draw}
use Rattle.command.specs.Kind.{same_kind, that_one}
use Rattle.command.specs.declared.Command.{Command}
use Rattle.command.specs.declared.Command.TheVariants.{ContrastAsked, HookAsked, VersionAsked}
use Rattle.record.specs.Core.{Core}
use Rattle.effect.specs.Effect.{carry_out}
use Rattle.effect.specs.Obey.{obey_order, answer_for, answer_to}

-- one of the three questions
abbrev pub OneQuestion : Command → Type 0
OneQuestion command = (command ≡ ContrastAsked) ⊎ (command ≡ HookAsked) ⊎ (command ≡ VersionAsked)

-- Only these are answered.
questions : (command : Command) → is_silence (answer_for command) ≡ false → OneQuestion command
questions command h =
    by_test (same_kind command ContrastAsked) (λ e. inl (that_one command ContrastAsked (λ m n. refl) e))
    (λ a. by_test (same_kind command HookAsked) (λ e. inr (inl (that_one command HookAsked (λ m n. refl) e)))
    (λ b. by_test (same_kind command VersionAsked) (λ e. inr (inr (that_one command VersionAsked (λ m n. refl) e)))
    (λ d. absurd (true≢false (simp (a, b, d) at h)))))

-- A QUESTION CHANGES NOTHING,
pub question_same : (command : Command) (c : Core) → is_silence (answer_for command) ≡ false → carry_out (plain command) c ≡ c
unfolding carry_out
question_same command c h =
    ⊎_elim (λ e. rw e) (⊎_elim (λ e. rw e) (λ e. rw e)) (questions command h)

-- so whatever is answered has changed nothing,
pub answered_same : (c : Core) (found : Option Order) → is_silence (answer_to found) ≡ false → obey_order c found ≡ c
answered_same c none h = refl
answered_same c (some (plain command)) h = question_same command c h
answered_same c (some (label side codes)) h = absurd (true≢false h)
answered_same c (some (draw row columns)) h = absurd (true≢false h)

-- and no other frame of the grammar is answered.
pub three_questions : (o : Order) (c : Core) → is_silence (answer_to (some o)) ≡ false → (o ≡ plain ContrastAsked) ⊎ (o ≡ plain HookAsked) ⊎ (o ≡ plain VersionAsked)
three_questions (plain command) c h =
    ⊎_elim (λ e. inl (ap plain e)) (⊎_elim (λ e. inr (inl (ap plain e))) (λ e. inr (inr (ap plain e)))) (questions command h)
three_questions (label side codes) c h = absurd (true≢false h)
three_questions (draw row columns) c h = absurd (true≢false h)

-- An answer that is no answer is silence.
pub silence_of : (answer : Answer) → is_silence answer ≡ true → answer ≡ Silence
silence_of Silence h = refl
silence_of QuestionMark h = absurd (true≢false (sym h))
silence_of Answers.Contrast h = absurd (true≢false (sym h))
silence_of Answers.Hook h = absurd (true≢false (sym h))
silence_of Answers.Version h = absurd (true≢false (sym h))

-- A question has no number to be out of range: what is passed over is not answered.
pub passed_over_silent : (o : Order) (mode : ℕ) → in_range_in_mode mode o ≡ false → answer_to (some o) ≡ Silence
passed_over_silent (plain command) mode h =
    by_test (is_silence (answer_for command)) (λ e. silence_of (answer_for command) e)
    (λ e. ⊎_elim (λ q. absurd (true≢false (rw q at h))) (⊎_elim (λ q. absurd (true≢false (rw q at h))) (λ q. absurd (true≢false (rw q at h)))) (questions command e))
passed_over_silent (label side codes) mode h = refl
passed_over_silent (draw row columns) mode h = refl
