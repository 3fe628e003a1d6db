-- `stream::feed_lent` keeps its promise. Assumes nothing.
use Rattle.std.proofs.Common.{◌≡◌, false, refl, sym, ap, ◌∙◌}
use Rattle.record.specs.Parts.{together}
use Rattle.record.specs.Range.{in_range}
use Rattle.command.specs.Table.{classes, next_states}
use Rattle.stream.specs.declared.Fed.{Fed}
use Rattle.stream.specs.Stream.{lent_of, fed_of, answers_after}
use Rattle.stream.proofs.Demand.{ready, feeds, answers_fed}
use Rattle.stream.proofs.feed_lent.Goals as goal

pub read-d-requires : goal.read-d-requires
unfolding classes next_states
read-d-requires c =
    let a = c.args in
    (ready (together a.small a.text.now a.picture.now a.frame.now) (sym c.in_range_lent.ensures.same ∙ c.if-in_range_lent.true), (refl, refl))

pub returns-then-in_range_lent : goal.returns-then-in_range_lent
unfolding fed_of answers_after
returns-then-in_range_lent c =
    let a = c.args in
    let good = sym c.in_range_lent.ensures.same ∙ c.if-in_range_lent.true in
    let k = c.read-d.ensures in
    let w = feeds a.small a.text.now a.picture.now a.frame.now a.bytes.now a.answers.now _ refl good k in
    record {
      same = ap lent_of w;
      text = ap (λ (f : Fed). f.record.text) w;
      picture = ap (λ (f : Fed). f.record.picture) w;
      frame = c.empty_from.ensures.buffer ∙ ap (λ (f : Fed). f.record.frame.bytes) w;
      buffer = answers_fed a.small a.text.now a.picture.now a.frame.now a.bytes.now a.answers.now _ refl good k;
    }

pub returns-else-in_range_lent : goal.returns-else-in_range_lent
unfolding fed_of answers_after
returns-else-in_range_lent c =
    let a = c.args in
    let bad : in_range (together a.small a.text.now a.picture.now a.frame.now) ≡ false = sym c.in_range_lent.ensures.same ∙ c.if-in_range_lent.false in
    record { same = rw bad; text = rw bad; picture = rw bad; frame = rw bad; buffer = rw bad }
