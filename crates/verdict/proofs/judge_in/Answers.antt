-- By the sister's reader, or in the record's text mode. Assumes nothing.
use Rattle.std.proofs.Common.{Bool, sym, ap, ◌∙◌}
use Rattle.sister_command.specs.Reading.{order_in}
use Rattle.effect.specs.Obey.{core}
use Rattle.verdict.specs.Verdict.{by_any, verdict_in}
use Rattle.verdict.specs.Laws.{first_edition}
use Rattle.verdict.proofs.judge_in.Goals as goal

pub returns-then-edition : goal.returns-then-edition
unfolding verdict_in
returns-then-edition c = record {
  same = λ t g.
      c.judge_sister.ensures.same t g ∙ ap (λ (sister : Bool). by_any (core c.args.settings t g c.args.edition) (order_in sister c.args.frame.now)) (sym c.if-edition.true);
}

pub returns-else-edition : goal.returns-else-edition
returns-else-edition c = record {
  same = λ t g.
      c.judge.ensures.same ∙ sym (first_edition (core c.args.settings t g c.args.edition) c.args.frame.now c.if-edition.false);
}
