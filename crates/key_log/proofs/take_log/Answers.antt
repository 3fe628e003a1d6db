-- `key_log::take_log` keeps its promise: the parts that are lent are the record's. Assumes nothing.
use Rattle.std.proofs.Common.{refl, ap, ◌∙◌, length}
use Rattle.record.specs.declared.Record.{Record}
use Rattle.key_log.specs.Log.{outcome, handed_back, lent_of, buffer_after}
use Rattle.key_log.specs.Laws.{by_value}
use Rattle.key_log.proofs.take_log.Goals as goal

pub returns-clause-same : goal.returns-clause-same
returns-clause-same c =
    let ticks = c.args.ticks.now in
    let edges = c.args.edges.now in
    let codes = c.args.codes.now in
    let lent = c.take_log_lent-l.ensures in
    let own = c.in_parts.ensures.same in
    (by_value c.args.r ticks edges codes refl
    (lent.same ∙ ap (λ (s : Record). lent_of (handed_back (outcome s ticks edges (length codes)))) own)
    (lent.buffer ∙ ap (λ (s : Record). buffer_after (outcome s ticks edges (length codes)) codes) own)).0
