-- `stream_input::one_call` keeps its promise. Assumes nothing.
use Rattle.std.proofs.Common.{arith, sym, subst, ◌≤◌, length-take-le}
use Rattle.stream.specs.declared.Fed.{Fed}
use Rattle.stream_input.specs.Laws.{writes_within, counted_there}
use Rattle.stream_input.proofs.one_call.Goals as goal

pub slice_bounds-answers-end : goal.slice_bounds-answers-end
slice_bounds-answers-end c =
    let within : c.feed-fed.result.written ≤ 64 = subst (λ (f : Fed). f.written ≤ 64) (sym c.feed-fed.ensures.same) (writes_within c.args.r c.args.bytes.now 64) in
    omega (arith, within, c.feed-fed.auto.answers)

pub slice_bounds-count-end : goal.slice_bounds-count-end
slice_bounds-count-end c =
    let within : c.feed-fed.result.written ≤ 64 = subst (λ (f : Fed). f.written ≤ 64) (sym c.feed-fed.ensures.same) (writes_within c.args.r c.args.bytes.now 64) in
    sym (length-take-le _ _ (omega (arith, within, c.feed-fed.auto.answers)))

pub returns : goal.returns
returns c = counted_there c.args.r c.args.bytes.now _ c.feed-fed.ensures.same c.feed-fed.ensures.buffer c.count-replies.ensures.same
