-- `stream::drop_run` keeps its promise. Assumes nothing.
use Rattle.stream.specs.Turns.{Drops}
use Rattle.stream.proofs.drop_run.Given as goal

abbrev pub invariant-loop-i : goal.invariant-loop-i
invariant-loop-i l = Drops l.bytes l.from l.i
