-- The loop keeps: the columns drawn so far stand in the row, and the codes that are left give the others. Assumes nothing.
use Rattle.std.specs.Prelude.{length}
use Rattle.picture.proofs.Drawing.{Drawing}
use Rattle.picture.proofs.read_data.Given as goal

abbrev pub invariant-loop-rest : goal.invariant-loop-rest
invariant-loop-rest l = Drawing l.d l.bytes l.used l.rest

abbrev pub decreases-loop-rest : goal.decreases-loop-rest
decreases-loop-rest l = length l.rest
