-- CALLS IN ORDER: each call is offered what the one before left unused, then its own bytes. Assumes nothing.
use Rattle.std.specs.Prelude.{ℕ}
use Rattle.turns.specs.Calls
use Rattle.parting.specs.Meaning.{State}
pub use Rattle.turns.specs.Calls.{offered, taken_in}
unfoldable pub use Rattle.turns.specs.Calls.{session}

-- one call: the bytes that are new, and its room for answers
abbrev pub Call : Type 0
Call = Calls.Call ℕ

-- what a list of calls leaves: the record, the bytes not used, all answers
abbrev pub Session : Type 0 → Type 0
Session Core = Calls.Session (State Core) ℕ
