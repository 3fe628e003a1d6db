-- An answer of signs. Assumes nothing.
use Rattle.std.proofs.Common.{arith}
use Rattle.line.specs.Laws.{adding, then}
use Rattle.sister_answer.proofs.with_signs.Goals as goal

pub returns : goal.returns
returns c = let signs = adding 24 c.add.ensures.same c.requires.signs_len_bound in
    (then (then c.opened.ensures signs (omega arith)) (adding 2 c.add-2.ensures.same (omega arith)) (omega arith)).same
