-- `seen::bar_at_place` keeps its promise. Assumes nothing.
use Rattle.std.specs.Prelude.{◌≡◌, refl}
use Rattle.record.specs.declared.Record.{Record}
use Rattle.seen_panels.specs.declared.Phase.{Phase}
use Rattle.seen_owners.specs.declared.Owner.{Owner}
use Rattle.seen_owners.specs.declared.Owner.TheVariants.{Nothing, IconBar, TextRow, PictureRow, SoftKeys, SmallLine, BigLine, PictureWithRocker}
use Rattle.seen.specs.Rows.{no_bar, contents}
use Rattle.seen.specs.Columns.{bar_at}
use Rattle.seen.proofs.bar_at_place.Goals as goal

-- All but the icon bar have no bar.
no_bar_lem : (r : Record) (phase : Phase) (o : Owner) → (o ≡ IconBar → ⊥) → no_bar ≡ bar_at r phase o
unfolding contents
no_bar_lem r phase Nothing h = refl
no_bar_lem r phase IconBar h = absurd (h refl)
no_bar_lem r phase (TextRow n) h = refl
no_bar_lem r phase (PictureRow n) h = refl
no_bar_lem r phase SoftKeys h = refl
no_bar_lem r phase SmallLine h = refl
no_bar_lem r phase (BigLine half) h = refl
no_bar_lem r phase (PictureWithRocker n) h = refl

pub returns-in-IconBar : goal.returns-in-IconBar
unfolding contents
returns-in-IconBar c text picture held frame edition = rw (c.in-IconBar.is, c.bar_of.ensures)

pub returns-in_default : goal.returns-in_default
unfolding contents
returns-in_default c text picture held frame edition = let told = c.args in
    rw c.no_bar.ensures (no_bar_lem (record { settings = told.p; text = text; picture = picture; held = held; frame = frame; edition = edition }) told.phase told.owner c.in_default.not-IconBar)
