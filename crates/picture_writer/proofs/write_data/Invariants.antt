-- The loop keeps: the items written so far, the open run and the columns that are left give the same data. Assumes nothing.
use Rattle.picture_writer.proofs.Encoding.{Encoding}
use Rattle.picture_writer.proofs.write_data.Given as goal

abbrev pub invariant-loop-next : goal.invariant-loop-next
invariant-loop-next l = Encoding l.columns l.rest l.bytes l.used l.column l.count l.next-index
