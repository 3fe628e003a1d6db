-- The lent call on the record's own parts, put together again. Assumes nothing.
use Rattle.std.proofs.Common.{ap, ◌∙◌}
use Rattle.record.specs.declared.Record.{Record}
use Rattle.record.specs.declared.Small.{Small}
use Rattle.record.specs.With.{with_settings}
use Rattle.seconds.specs.declared.Passed.{Passed}
use Rattle.seconds.specs.Seconds.{passed, lent_of}
use Rattle.seconds.specs.Laws.{lent_back}
use Rattle.seconds.proofs.second.Goals as goal

pub returns : goal.returns
returns c = record {
  same = let r = c.args.r in
      let told = c.second_lent-q.ensures.same ∙ ap (λ (s : Record). lent_of (passed s)) c.in_parts.ensures.same in
      ap (λ (q : Passed Small). record { number = q.number; after = with_settings r q.after.settings }) told ∙ lent_back r;
}
