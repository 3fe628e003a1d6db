-- `seen::column_seen_lent` keeps its promise. Assumes nothing.
use Rattle.std.proofs.Common.{arith, sym, ◌∙◌}
use Rattle.seen_owners.specs.Laws.{owner_placed}
use Rattle.seen.specs.LineLaws.{column_fits}
use Rattle.seen.proofs.column_seen_lent.Goals as goal

pub shown_at-requires : goal.shown_at-requires
shown_at-requires c = let told = c.args in
    (rw c.owner_of-owner.ensures.same (owner_placed told.parts.small.settings.screen told.row told.column), column_fits _ (sym c.in_range_lent.ensures.same ∙ c.if-not-in_range_lent.false), omega arith)

pub inverse_at-requires : goal.inverse_at-requires
inverse_at-requires c = let told = c.args in
    rw c.owner_of-owner.ensures.same (owner_placed told.parts.small.settings.screen told.row told.column)
