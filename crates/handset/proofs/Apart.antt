-- A record that is put apart, by what is known of the record. Assumes nothing.
use Prim.Native.Nat.{ℕ}
use mathlib.Core.List.{List}
use mathlib.Core.Path.{◌≡◌, subst}
use Rattle.record.specs.declared.Record.{Record}
use Rattle.record.specs.declared.Small.{Small}
use Rattle.record.specs.Parts.{small_of}

-- the small fields and the three arrays are this record's
abbrev pub Apart : Small → List ℕ → List ℕ → List ℕ → Record → Type 0
Apart small text picture bytes r = (small ≡ small_of r) × ((text ≡ r.text) × ((picture ≡ r.picture) × (bytes ≡ r.frame.bytes)))

pub apart_as : {r r' : Record} {small : Small} {text picture bytes : List ℕ} → r ≡ r' → Apart small text picture bytes r → Apart small text picture bytes r'
apart_as {small} {text} {picture} {bytes} e put = subst (Apart small text picture bytes) e put
