-- An answer of two numbers. Assumes nothing.
use Rattle.std.proofs.Common.{arith}
use Rattle.line.specs.Laws.{adding, adding_number, then, within}
use Rattle.sister_answer.specs.Told.{opening}
use Rattle.sister_answer.proofs.Pairs.{pair_built}
use Rattle.sister_answer.proofs.with_pair.Goals as goal

pub returns : goal.returns
returns c = let start = c.args in
    let first = then c.opened.ensures (adding_number start.m c.add_number.ensures.same) (omega arith) in
    let both = then (then first (adding 1 c.add-first.ensures.same (omega arith)) (omega arith)) (adding_number start.n c.add_number-2.ensures.same) (omega arith) in
    (within 15 (pair_built (opening start.letters.now) start.m start.n) (omega arith) (then both (adding 2 c.add.ensures.same (omega arith)) (omega arith))).same
