-- The body of a label's frame is added. Assumes nothing.
use Rattle.std.proofs.Common.{arith}
use Rattle.line.specs.Laws.{adding, then}
use Rattle.writer.proofs.add_label.Goals as goal

pub returns-in-Left : goal.returns-in-Left
returns-in-Left c = rw c.in-Left.is (then (adding 3 c.add.ensures.same (omega arith)) (adding 7 c.add-in-Left.ensures.same (omega arith)) (omega arith))

pub returns-in-Right : goal.returns-in-Right
returns-in-Right c = rw c.in-Right.is (then (adding 3 c.add-in-Right.ensures.same (omega arith)) (adding 7 c.add-in-Right-2.ensures.same (omega arith)) (omega arith))
