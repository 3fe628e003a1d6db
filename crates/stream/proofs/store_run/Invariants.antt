-- `stream::store_run` keeps its promise. Assumes nothing.
use Rattle.std.specs.Prelude.{◌+◌}
use Rattle.stream.specs.Turns.{Stores}
use Rattle.stream.proofs.store_run.Given as goal

abbrev pub invariant-loop-k : goal.invariant-loop-k
invariant-loop-k l = Stores l.start l.end l.column l.initial.text l.bytes l.from (l.from + l.k) (l.column + l.k) l.text
