-- `stream_input::hear` keeps its promise. Assumes nothing.
use Rattle.stream_input.specs.Heard.{Hears}
use Rattle.stream_input.proofs.hear.Given as goal

abbrev pub invariant-loop : goal.invariant-loop
invariant-loop g l = Hears l.initial.heard l.heard
