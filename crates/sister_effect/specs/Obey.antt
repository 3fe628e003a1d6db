-- WHAT A FRAME DOES IN EITHER EDITION, and what it is answered; and the promise of the function that does it in the sister's. Assumes nothing.
use Rattle.std.specs.Prelude.{ℕ, Bool, true, false, cond, List, [], ◌∷◌, ◌≡◌}
use Rattle.std.proofs.Math.Option.{Option, none, some}
use Rattle.lists.specs.Codes.{question_mark}
use Rattle.record.specs.Core.{Core}
use Rattle.answer.specs.Answers.{answer_bytes}
use Rattle.sister_answer.specs.declared.Told.{Told}
use Rattle.sister_answer.specs.declared.Told.TheVariants.{Silence, Mark}
use Rattle.sister_answer.specs.Told.{told_bytes}
use Rattle.sister_command.specs.Order.{AnyOrder, first, own}
use Rattle.sister_command.specs.InRange.{own_in_range}
use Rattle.sister_command.specs.declared.SisterCommand.{SisterCommand}
use Rattle.effect.specs.Effect.{effect, carry_out}
use Rattle.effect.specs.Obey.{answer_to}
use Rattle.sister_effect.specs.Effect.{own_effect, refused_now, own_told}
use Rattle.sister_effect.specs.declared.SisterObeyed.{SisterObeyed}

-- with a number out of range her command is passed over; refused by the record's state it changes nothing; else it is obeyed
unfoldable pub carry_out_own : SisterCommand → Core → Core
carry_out_own command c = cond (own_in_range command) (cond (refused_now command c) c (own_effect command c)) c

-- what an order that is obeyed does, and whether the record's state has it refused
abbrev pub effect_any : AnyOrder → Core → Core
effect_any (first o) c = effect o c
effect_any (own command) c = own_effect command c

abbrev pub refused_any : AnyOrder → Core → Bool
refused_any (first o) c = false
refused_any (own command) c = refused_now command c

abbrev pub carry_out_any : AnyOrder → Core → Core
carry_out_any (first o) c = carry_out o c
carry_out_any (own command) c = carry_out_own command c

-- a frame outside the grammar changes nothing
abbrev pub obey_any : Core → Option AnyOrder → Core
obey_any c none = c
obey_any c (some o) = carry_out_any o c

-- what a bad frame is answered: '?', by the sister '?' CR LF
abbrev pub mark_of : Bool → List ℕ
mark_of true = told_bytes Mark
mark_of false = question_mark ∷ []

-- WHAT A FRAME IS ANSWERED
abbrev pub answers_to : Core → Option AnyOrder → List ℕ
answers_to c none = mark_of c.edition.sister
answers_to c (some (first o)) = answer_bytes (answer_to (some o)) c.settings.contrast c.settings.hook
answers_to c (some (own command)) = told_bytes (own_told command c)

-- in the sister's edition: an order that she shares is no question
abbrev pub told_to : Core → Option AnyOrder → Told
told_to c none = Mark
told_to c (some (first o)) = Silence
told_to c (some (own command)) = own_told command c

-- what a part of that function promises: what is told, and the core that it leaves
pub record Leaves (tells : Told) (left : Core) (obeyed : SisterObeyed) (after : Core) : Type 0 where
  pub told : obeyed.told ≡ tells
  pub same : after ≡ left

-- the promise: `found` is the order that the frame spells in her edition, `before` the core at entry and `after` the one at exit, made of
-- the settings and the edition handed back and the two arrays
pub record SisterObeys (found : Option AnyOrder) (before : Core) (obeyed : SisterObeyed) (after : Core) : Type 0 where
  pub told : obeyed.told ≡ told_to before found
  pub same : after ≡ obey_any before found
