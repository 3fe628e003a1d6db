-- `stream::collect_run` keeps its promise. Assumes nothing.
use Rattle.std.proofs.Common.{arith}
use Rattle.stream.specs.Turns.{collects_more}
use Rattle.stream.proofs.collect_run.Goals as goal

pub loop-k-preserved : goal.loop-k-preserved
loop-k-preserved c = collects_more c.loop-k.invariant (omega arith) (omega arith) c.if-b-eq-ESCAPE.false c.if-b-eq-CARRIAGE_RETURN.false (omega arith) (omega arith)
