-- `seen::codes_in` keeps its promise. The loop goes from the end of the line: what is left of it has the same last code. Assumes nothing.
use Rattle.std.specs.Prelude.{◌≡◌, ◌≤◌, take}
use Rattle.record.specs.Range.{line_of}
use Rattle.seen.specs.Line.{after_last}
use Rattle.seen.proofs.codes_in.Given as goal

abbrev pub invariant-loop-i : goal.invariant-loop-i
invariant-loop-i l = (l.i ≤ 24) × (after_last (take l.i (line_of l.text)) ≡ after_last (line_of l.text))

abbrev pub decreases-loop-i : goal.decreases-loop-i
decreases-loop-i l = l.i
