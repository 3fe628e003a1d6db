-- What stands before the value, in an empty line. Assumes nothing.
use Rattle.std.proofs.Common.{arith, ap, ◌∙◌}
use Rattle.line.specs.declared.Line.{Line}
use Rattle.line.specs.Lines.{added}
use Rattle.line.specs.Laws.{adding, then}
use Rattle.sister_answer.proofs.opened.Goals as goal

pub returns : goal.returns
returns c = let start = c in
    let escape = adding 1 (c.add.ensures.same ∙ ap (λ (x : Line). added x _) c.empty.ensures.same) (omega arith) in
    let letters = then escape (adding 3 c.add-2.ensures.same start.requires) (omega arith) in
    then letters (adding 2 c.add-3.ensures.same (omega arith)) (omega arith)
