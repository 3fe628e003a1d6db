-- The overlay's letter, or the text mode's. Assumes nothing.
use Rattle.seen_owners.specs.Laws.{mode_line_fits, line_fits}
use Rattle.seen_owners.proofs.letter_at.Goals as goal

pub letter_in-requires : goal.letter_in-requires
letter_in-requires c = (rw c.line_of.ensures (line_fits c.args.overlay c.args.mode), c.requires)

pub letter_in-requires-in-84 : goal.letter_in-requires-in-84
letter_in-requires-in-84 c = (rw c.mode_line.ensures (mode_line_fits c.args.mode), c.requires)
