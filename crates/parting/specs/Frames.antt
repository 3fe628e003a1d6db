-- WHAT IS SAID OF FRAMES among parts: that each closed one is of some kind, and how many are ended. Assumes nothing.
use Rattle.std.specs.Prelude.{ℕ, ◌+◌, List}
use Rattle.parting.specs.Rules.{Part, text, skipped, closed, abandoned, Parted, done, unfinished, then}

-- a closed frame is one of these
abbrev pub OfThese : (List ℕ → Type 0) → Part → Type 0
OfThese These (text b) = Unit {0}
OfThese These (skipped b) = Unit {0}
OfThese These (closed body) = These body
OfThese These (abandoned body) = Unit {0}

-- each closed frame is one of these
abbrev pub EachClosed : (List ℕ → Type 0) → Parted → Type 0
EachClosed These done = Unit {0}
EachClosed These (unfinished body) = Unit {0}
EachClosed These (then part parted) = OfThese These part × EachClosed These parted

-- how many frames a part ends
abbrev pub ended_by : Part → ℕ
ended_by (text b) = 0
ended_by (skipped b) = 0
ended_by (closed body) = 1
ended_by (abandoned body) = 1

-- how many frames are ended, closed or abandoned
unfoldable pub ended : Parted → ℕ
ended done = 0
ended (unfinished body) = 0
ended (then part parted) = ended_by part + ended parted
