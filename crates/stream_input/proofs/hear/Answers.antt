-- `stream_input::hear` keeps its promise. Assumes nothing.
use Rattle.std.proofs.Common.{arith}
use Rattle.stream_input.specs.Laws.{hears_nothing, hears_then, from_the_start}
use Rattle.stream_input.proofs.hear.Goals as goal

pub loop-init : goal.loop-init
loop-init g c = hears_nothing _ (omega arith)

pub returns-then-turn-clause-heard : goal.returns-then-turn-clause-heard
returns-then-turn-clause-heard g c = (from_the_start _ _ (hears_then c.loop.invariant c.hear_once-turn.ensures)).0

pub loop-preserved : goal.loop-preserved
loop-preserved g c = hears_then c.loop.invariant c.hear_once-turn.ensures
