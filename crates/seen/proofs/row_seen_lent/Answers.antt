-- `seen::row_seen_lent` keeps its promise. Assumes nothing.
use Rattle.std.proofs.Common.{sym, ◌∙◌}
use Rattle.seen_owners.specs.Laws.{row_owner_placed}
use Rattle.seen.specs.LineLaws.{column_fits}
use Rattle.seen.proofs.row_seen_lent.Goals as goal

pub contents_of-requires : goal.contents_of-requires
contents_of-requires c = let told = c.args in
    (rw c.owner_of_row-owner.ensures.same (row_owner_placed told.parts.small.settings.screen told.row), column_fits _ (sym c.in_range_lent.ensures.same ∙ c.if-not-in_range_lent.false))
