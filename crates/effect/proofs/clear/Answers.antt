-- All text is blank. Assumes nothing.
use Rattle.std.specs.Prelude.{refl}
use Rattle.effect.specs.Effect.{blanks}
use Rattle.effect.proofs.clear.Goals as goal

pub returns : goal.returns
unfolding blanks
returns c = record { same = refl }
