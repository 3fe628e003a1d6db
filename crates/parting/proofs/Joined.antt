-- A stream that goes on with ESC parts as its two sides do.
-- What it speaks of is in specs/Joined.antt. Assumes nothing.
use Rattle.std.specs.Prelude.{ℕ, List, ◌∷◌, ◌++◌}
use Rattle.std.proofs.Common.{append_assoc}
use Rattle.lists.specs.Codes.{escape}
use Rattle.parting.specs.Rules.{Part, text, skipped, closed, abandoned, opens, MayFollow, Parted, Parting, ends, waits, goes_on}
use Rattle.parting.specs.Joined.{join}

-- what may follow may go on
follows_on : (part : Part) (rest more : List ℕ) → MayFollow part rest → MayFollow part (rest ++ more)
follows_on (text b) rest more f = tt
follows_on (skipped b) rest more f = tt
follows_on (closed body) rest more f = tt
follows_on (abandoned body) _ more opens = opens

-- A stream that goes on with ESC parts as its two sides do.
pub joined : {bytes : List ℕ} {first : Parted} {rest : List ℕ} {second : Parted} → Parting bytes first → Parting (escape ∷ rest) second
    → Parting (bytes ++ escape ∷ rest) (join first second)
unfolding join
joined ends q = q
joined (waits h) q = goes_on {part = abandoned _} h opens q
joined {rest = next} (goes_on {part} {rest} l f p) q = rw append_assoc (goes_on l (follows_on part rest (escape ∷ next) f) (joined p q))
