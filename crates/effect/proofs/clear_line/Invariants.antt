-- Blanks from the column on to the row's end. Assumes nothing.
use Rattle.std.proofs.lemmas.List.Edits.{sets}
use Rattle.std.specs.Prelude.{◌+◌, ◌-◌, ◌≡◌, ◌≤◌, replicate}
use Rattle.lists.specs.Codes.{blank}
use Rattle.effect.proofs.clear_line.Given as goal

abbrev pub invariant-loop-i : goal.invariant-loop-i
invariant-loop-i l = (l.column ≤ l.i) × (l.i - l.column ≤ l.end - l.column) × (l.text ≡ sets l.initial.text (l.start + l.column) (replicate (l.i - l.column) blank))
