-- An answer of one number. Assumes nothing.
use Rattle.std.proofs.Common.{arith}
use Rattle.line.specs.Laws.{adding, adding_number, then}
use Rattle.sister_answer.proofs.with_number.Goals as goal

pub returns : goal.returns
returns c = let number = adding_number c.args.n c.add_number.ensures.same in
    (then (then c.opened.ensures number (omega arith)) (adding 2 c.add.ensures.same (omega arith)) (omega arith)).same
