-- `stream::store_run` keeps its promise. Assumes nothing.
use Rattle.std.proofs.Common.{arith, add-zero}
use Rattle.stream.specs.Turns.{stores_none, stores_one}
use Rattle.stream.proofs.store_run.Goals as goal

pub loop-k-init : goal.loop-k-init
loop-k-init c = let p = c.requires in simp add-zero (stores_none _ _ _ _ _ _ p.1 p.0.within)

pub loop-k-preserved : goal.loop-k-preserved
loop-k-preserved c = stores_one c.loop-k.invariant (omega arith) c.if-b-lt-BLANK.false (omega arith) (omega arith) (omega arith) (omega arith)
