-- The lent call on the record's own parts, put together again. Assumes nothing.
use Rattle.std.proofs.Common.{ap, ◌∙◌}
use Rattle.record.specs.declared.Record.{Record}
use Rattle.record.specs.declared.Small.{Small}
use Rattle.record.specs.With.{with_settings}
use Rattle.hook.specs.declared.Hooked.{Hooked}
use Rattle.hook.specs.Hook.{hooked, lent_of}
use Rattle.hook.specs.Laws.{lent_back}
use Rattle.hook.proofs.hook.Goals as goal

pub returns : goal.returns
returns c = record {
  same = let r = c.args.r in
      let told = c.hook_lent-q.ensures.same ∙ ap (λ (s : Record). lent_of (hooked s c.args.on)) c.in_parts.ensures.same in
      ap (λ (q : Hooked Small). record { number = q.number; after = with_settings r q.after.settings }) told ∙ lent_back r c.args.on;
}
