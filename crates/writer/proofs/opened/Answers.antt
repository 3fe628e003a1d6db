-- A line that holds ESC. Assumes nothing.
use Rattle.std.proofs.Common.{arith, [], ◌∷◌, ◌≡◌, ◌∙◌, ap}
use Rattle.lists.specs.Codes.{escape}
use Rattle.line.specs.declared.Line.{Line}
use Rattle.line.specs.Lines.{empty_line, added}
use Rattle.line.specs.Laws.{adding, length_from_empty}
use Rattle.writer.proofs.opened.Goals as goal

pub returns : goal.returns
returns c =
    let same : c.add.result ≡ added empty_line (escape ∷ []) = c.add.ensures.same ∙ ap (λ (x : Line). added x (escape ∷ [])) c.empty.ensures.same in
    (adding 1 same (omega arith), ap (λ (x : Line). x.len) same ∙ length_from_empty (escape ∷ []) (omega arith))
