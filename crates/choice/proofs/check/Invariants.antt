-- One pass: the answer is that of the parts from the loop's place on. Assumes nothing.
use Rattle.std.proofs.Common.{◌-◌, ◌≡◌, length}
use Rattle.choice.specs.Choice.{choice_of}
use Rattle.choice.proofs.Steps.{judged}
use Rattle.choice.proofs.check.Given as goal

abbrev pub invariant-loop-sign : goal.invariant-loop-sign
invariant-loop-sign l = choice_of l.bytes ≡ judged l.bytes l.since l.at

abbrev pub decreases-loop-sign : goal.decreases-loop-sign
decreases-loop-sign l = length l.bytes - l.at
