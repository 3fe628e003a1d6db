-- Each command in range does what its line says. Assumes nothing.
use Rattle.effect.specs.Effect.{line_cleared}
use Rattle.effect.proofs.changed.Goals as goal

pub returns-in-ClearLine : goal.returns-in-ClearLine
unfolding line_cleared
returns-in-ClearLine c = record { same = λ g e. rw (c.in-ClearLine.is, c.clear_line.ensures.same, c.row_start-start.ensures.same, c.row_end-end.ensures.same) }
