-- `stream::read` keeps its promise. Assumes nothing.
use Rattle.std.specs.Prelude.{◌-◌, length}
use Rattle.stream.specs.Stream.{standing}
use Rattle.stream.specs.Turns.{Going}
use Rattle.stream.proofs.read.Given as goal

abbrev pub invariant-loop-i : goal.invariant-loop-i
invariant-loop-i l = Going l.bytes l.initial.answers (standing l.initial.settings l.initial.text l.initial.picture l.initial.edition l.initial.state l.initial.len l.initial.frame) l.answers l.settings l.text l.picture l.edition l.state l.len l.frame l.i l.w

abbrev pub decreases-loop-i : goal.decreases-loop-i
decreases-loop-i l = length l.bytes - l.i
