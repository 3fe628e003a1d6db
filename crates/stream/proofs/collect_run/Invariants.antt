-- `stream::collect_run` keeps its promise. Assumes nothing.
use Rattle.std.specs.Prelude.{◌+◌}
use Rattle.stream.specs.Turns.{Collects}
use Rattle.stream.proofs.collect_run.Given as goal

abbrev pub invariant-loop-k : goal.invariant-loop-k
invariant-loop-k l = Collects l.len l.initial.frame l.bytes l.from (l.from + l.k) (l.len + l.k) l.frame
