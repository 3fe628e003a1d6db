-- `stream_input::hear_piece` keeps its promise. Assumes nothing.
use Rattle.std.proofs.Common.{arith, ap}
use Rattle.stream_input.specs.declared.Call.{Call}
use Rattle.stream_input.specs.Laws.{begins, progress, further}
use Rattle.stream_input.proofs.hear_piece.Goals as goal

pub loop-at-init : goal.loop-at-init
loop-at-init c = begins _ _ (omega arith)

pub returns-then-call-eq0-clause-value : goal.returns-then-call-eq0-clause-value
returns-then-call-eq0-clause-value c =
    let used = ap (λ (call : Call). call.fed.used) c.one_call-call.ensures in
    λ h. absurd (omega (arith, progress c.loop-at.invariant h c.loop-at-test.true, used, c.if-call-eq0.true))

pub overflow_add-at : goal.overflow_add-at
overflow_add-at c =
    let next = further c.loop-at.invariant c.one_call-call.result c.one_call-call.ensures c.if-call-eq0.false in
    omega (arith, next.within, c.well_formed)

pub loop-at-preserved : goal.loop-at-preserved
loop-at-preserved c = rw c.more-now.ensures (further c.loop-at.invariant c.one_call-call.result c.one_call-call.ensures c.if-call-eq0.false)
