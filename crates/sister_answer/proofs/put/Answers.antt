-- A line behind what is written, or no room for it there. Assumes nothing.
use Rattle.std.proofs.Common.{rules, arith}
use Rattle.sister_answer.proofs.Behind.{copied, not_copied}
use Rattle.sister_answer.proofs.put.Goals as goal

pub returns-then-copy : goal.returns-then-copy
returns-then-copy c = let p = copied c.args.answers.now c.args.written (omega (arith, c.if-answers-written.false)) c.args.line (search rules) c.requires c.copy.ensures.same c.copy.ensures.left c.if-copy.true in
    record { value = p.0; answers_after = p.1 }

pub returns : goal.returns
returns c = let p = not_copied c.args.answers.now c.args.written (omega (arith, c.if-answers-written.false)) c.args.line (search rules) c.requires c.copy.ensures.same c.copy.ensures.left c.if-copy.false in
    record { value = p.0; answers_after = p.1 }
