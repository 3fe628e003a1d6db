-- The line of each answer. Assumes nothing.
use Rattle.std.proofs.Common.{◌∙◌}
use Rattle.sister_answer.proofs.Behind.{nothing_added}
use Rattle.sister_answer.proofs.line_of.Goals as goal

pub returns-in-Silence : goal.returns-in-Silence
returns-in-Silence c = rw c.in-Silence.is (c.empty.ensures.same ∙ nothing_added)
