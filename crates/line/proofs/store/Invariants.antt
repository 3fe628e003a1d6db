-- The codes that are still to be stored give the same room at each turn. Assumes nothing.
use Rattle.std.proofs.lemmas.List.Edits.{sets}
use Rattle.std.specs.Prelude.{◌+◌, ◌-◌, ◌≡◌, length, drop}
use Rattle.line.proofs.store.Given as goal

abbrev pub invariant-loop-i : goal.invariant-loop-i
invariant-loop-i l = (length l.room ≡ length l.initial.room) × (sets l.room (l.at + l.i) (drop l.i l.codes) ≡ sets l.initial.room l.at l.codes)

abbrev pub decreases-loop-i : goal.decreases-loop-i
decreases-loop-i l = length l.codes - l.i
