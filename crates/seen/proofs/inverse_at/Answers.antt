-- `seen::inverse_at` keeps its promise. Assumes nothing.
use Rattle.std.specs.Prelude.{ℕ, false, ◌≡◌, refl}
use Rattle.record.specs.declared.Record.{Record}
use Rattle.seen_owners.specs.declared.Owner.{Owner}
use Rattle.seen_owners.specs.declared.Owner.TheVariants.{Nothing, IconBar, TextRow, PictureRow, SoftKeys, SmallLine, BigLine, PictureWithRocker}
use Rattle.seen.specs.Rows.{contents}
use Rattle.seen.specs.Columns.{inverse_at}
use Rattle.seen.proofs.inverse_at.Goals as goal

-- All but a text row have no mark.
no_mark : (r : Record) (o : Owner) → ((n : ℕ) → o ≡ TextRow n → ⊥) → false ≡ inverse_at r o
unfolding contents
no_mark r Nothing h = refl
no_mark r IconBar h = refl
no_mark r (TextRow n) h = absurd (h n refl)
no_mark r (PictureRow n) h = refl
no_mark r SoftKeys h = refl
no_mark r SmallLine h = refl
no_mark r (BigLine half) h = refl
no_mark r (PictureWithRocker n) h = refl

pub returns-in-TextRow : goal.returns-in-TextRow
unfolding contents
returns-in-TextRow c text picture held frame edition = rw (c.in-TextRow.is, c.mark_of.ensures)

pub returns-in_default : goal.returns-in_default
unfolding contents
returns-in_default c text picture held frame edition = let told = c.args in
    no_mark (record { settings = told.p; text = text; picture = picture; held = held; frame = frame; edition = edition }) told.owner c.in_default.not-TextRow
