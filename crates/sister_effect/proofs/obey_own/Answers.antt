-- Obeyed, refused or passed over. Assumes nothing.
use Rattle.std.proofs.Common.{sym, ◌∙◌}
use Rattle.effect.specs.Obey.{core}
use Rattle.sister_effect.specs.Questions.{own_obeyed, own_refused, own_passed_over, passed_over_untold}
use Rattle.sister_effect.proofs.obey_own.Goals as goal

pub returns-then-refused : goal.returns-then-refused
returns-then-refused c = record {
  obeys = let a = c.args in
      let before = core a.settings a.text.now a.picture.now a.edition in
      let no = sym (c.refused.ensures.same a.text.now a.picture.now) ∙ c.if-refused.true in
      rw c.unchanged.ensures (record { told = rw no; same = sym (own_refused a.c before no) });
}

pub returns-then-own_in_range : goal.returns-then-own_in_range
returns-then-own_in_range c = record {
  obeys = let a = c.args in
      let before = core a.settings a.text.now a.picture.now a.edition in
      let free = sym (c.refused.ensures.same a.text.now a.picture.now) ∙ c.if-refused.false in
      record { told = rw free c.changed.ensures.leaves.told; same = c.changed.ensures.leaves.same ∙ sym (own_obeyed a.c before (sym c.own_in_range.ensures.same ∙ c.if-own_in_range.true) free) };
}

pub returns : goal.returns
returns c = record {
  obeys = let a = c.args in
      let before = core a.settings a.text.now a.picture.now a.edition in
      let out = sym c.own_in_range.ensures.same ∙ c.if-own_in_range.false in
      record { told = sym (passed_over_untold a.c before out); same = sym (own_passed_over a.c before out) };
}
