-- The body of a picture row's frame is added. Assumes nothing.
use Rattle.std.proofs.Common.{arith, append_assoc}
use Rattle.line.specs.Laws.{adding, then, within}
use Rattle.writer.proofs.add_row.Goals as goal

pub returns : goal.returns
returns c =
    let first = adding 4 c.add.ensures.same (omega arith) in
    within 197 (simp append_assoc) (omega arith) (then (then first c.add_data.ensures (omega arith)) (adding 1 c.add-2.ensures.same (omega arith)) (omega arith))
