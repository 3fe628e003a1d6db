-- EXACTLY ONE PARTING. Assumes nothing.
-- The theorems are in proofs/Exactly.antt.
use Rattle.std.specs.Prelude.{ℕ, ◌≡◌, List}
use Rattle.parting.specs.Rules.{Parted, Parting}

-- A stream parts in exactly one way.
pub record ExactlyOne (stream : List ℕ) : Type 0 where
  pub parted : Parted
  pub parting : Parting stream parted
  pub only : (other : Parted) → Parting stream other → other ≡ parted
