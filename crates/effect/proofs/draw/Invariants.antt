-- The columns that are still to be drawn give the same picture at each turn. Assumes nothing.
use Rattle.std.proofs.Math.Seq.{slice}
use Rattle.std.proofs.lemmas.List.Edits.{sets}
use Rattle.std.specs.Prelude.{◌+◌, ◌*◌, ◌≡◌, ◌≤◌, map, take}
use Rattle.effect.specs.Effect.{kept_in}
use Rattle.effect.proofs.draw.Given as goal

abbrev pub invariant-loop-i : goal.invariant-loop-i
invariant-loop-i l = (l.i ≤ l.columns.len) × (sets l.picture (l.start + l.i) (map (kept_in l.row) (slice l.i l.columns.len l.columns.bytes)) ≡ sets l.initial.picture (l.row * 96) (map (kept_in l.row) (take l.columns.len l.columns.bytes)))
