-- What a frame does to the core, and the promise of the function that does it. Assumes nothing.
use Rattle.std.specs.Prelude.{ℕ, cond, List, ◌≡◌}
use Rattle.std.proofs.Math.Option.{Option, none, some}
use Rattle.record.specs.declared.Settings.{Settings}
use Rattle.record.specs.declared.Edition.{Edition}
use Rattle.answer.specs.declared.Answer.{Answer}
use Rattle.answer.specs.declared.Answer.TheVariants.{Silence, QuestionMark}
use Rattle.answer.specs.declared.Answer.TheVariants as Answers
use Rattle.command.specs.Order.{Order, plain, label, draw}
use Rattle.command.specs.Kind.{same_kind}
use Rattle.command.specs.declared.Command.{Command}
use Rattle.command.specs.declared.Command.TheVariants.{ContrastAsked, HookAsked, VersionAsked}
use Rattle.effect.specs.declared.Obeyed.{Obeyed}
use Rattle.record.specs.Core.{Core}
use Rattle.effect.specs.Effect.{carry_out}

-- a frame outside the grammar changes nothing; a frame of the grammar has its order carried out
abbrev pub obey_order : Core → Option Order → Core
obey_order c none = c
obey_order c (some order) = carry_out order c

-- what a frame is answered: '?' if it is bad; a question its answer; any other frame nothing, in range or not
abbrev pub answer_for : Command → Answer
answer_for c =
    cond (same_kind c ContrastAsked) Answers.Contrast
    (cond (same_kind c HookAsked) Answers.Hook
    (cond (same_kind c VersionAsked) Answers.Version
    Silence))

abbrev pub answer_to : Option Order → Answer
answer_to none = QuestionMark
answer_to (some (plain c)) = answer_for c
answer_to (some (label side codes)) = Silence
answer_to (some (draw row columns)) = Silence

abbrev pub core : Settings → List ℕ → List ℕ → Edition → Core
core settings text picture edition = record { settings = settings; text = text; picture = picture; edition = edition }

-- the promise: `found` is the order that the frame spells by the tables that are lent, `before` the core at entry and `after` the one at
-- exit, made of the settings handed back and the two arrays
pub record Obeys (found : Option Order) (before : Core) (obeyed : Obeyed) (after : Core) : Type 0 where
  pub answer : obeyed.answer ≡ answer_to found
  pub same : after ≡ obey_order before found
