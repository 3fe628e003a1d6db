-- `seen::shown_at` keeps its promise. Assumes nothing.
use Rattle.std.specs.Prelude.{◌/◌}
use Rattle.std.proofs.Common.{arith}
use Rattle.seen.specs.LineLaws.{row_at}
use Rattle.seen.specs.Columns.{shown_at}
use Rattle.seen.proofs.shown_at.Goals as goal

pub returns-in-TextRow : goal.returns-in-TextRow
unfolding shown_at
returns-in-TextRow c = let told = c.args in
    rw (c.in-TextRow.is, row_at 16 told.parts.text.now c.in-TextRow.n (told.column / 6) (omega (arith, c.requires.2)))

pub returns-in-PictureRow : goal.returns-in-PictureRow
unfolding shown_at
returns-in-PictureRow c = let told = c.args in
    rw (c.in-PictureRow.is, row_at 96 told.parts.picture.now c.in-PictureRow.n told.column (omega (arith, c.requires.2)))
