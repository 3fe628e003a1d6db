-- The keypad's letters are refused unless the light is auto without PWM. Assumes nothing.
use Rattle.std.proofs.Common.{sym, ◌∙◌}
use mathlib.Core.Logic.{inl, inr}
use Rattle.sister_effect.proofs.light_refused.Goals as goal

pub returns-in-KeypadSet : goal.returns-in-KeypadSet
returns-in-KeypadSet c = record {
  same = λ t g.
      c.not_normal_auto.ensures.same t g ∙ sym (elim c.in-KeypadSet.is [ inl e ↦ rw e | inr w ↦ elim w [ inl e ↦ rw e | inr e ↦ rw e ] ]);
}
