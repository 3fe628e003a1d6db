-- The line of an answer is put behind what is written. Assumes nothing.
use Rattle.std.proofs.Common.{arith}
use Rattle.line.specs.Laws.{length_from_empty}
use Rattle.sister_answer.specs.Told.{told_bytes}
use Rattle.sister_answer.specs.Laws.{told_at_most}
use Rattle.sister_answer.proofs.Behind.{answered}
use Rattle.sister_answer.proofs.tell.Goals as goal

pub put-requires : goal.put-requires
put-requires c = let told = c.args.told in
    let few = told_at_most told in
    rw c.line_of.ensures (omega (arith, few, length_from_empty (told_bytes told) (omega (arith, few))))

pub returns : goal.returns
returns c = let start = c.args in
    let p = answered start.answers.now start.written (told_bytes start.told) c.line_of.ensures (omega (arith, told_at_most start.told)) (c.put.ensures.value, c.put.ensures.answers_after) in
    record { same = p.0; buffer = p.1 }
