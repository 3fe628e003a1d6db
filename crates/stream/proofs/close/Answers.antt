-- `stream::close` keeps its promise. Assumes nothing.
use Rattle.stream.specs.Turns.{shared_long, shared_whole}
use Rattle.stream.proofs.close.Goals as goal

pub returns-then-state-eq-OPEN : goal.returns-then-state-eq-OPEN
returns-then-state-eq-OPEN c =
    let q = c.requires in
    λ e same. shared_whole _ _ _ e _ _ q.class_value.0 q.class_value.1 same q.frame_value _ _ _ c.if-state-eq-OPEN.true (c.obey.ensures.obeys e)

pub returns-else-state-eq-OPEN : goal.returns-else-state-eq-OPEN
returns-else-state-eq-OPEN c = λ e same. shared_long _ _ _ e _ _ c.if-state-eq-OPEN.false
