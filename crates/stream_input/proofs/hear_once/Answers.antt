-- `stream_input::hear_once` keeps its promise. Assumes nothing.
use Rattle.std.proofs.Common.{arith}
use Rattle.stream_input.specs.Laws.{hears_nothing}
use Rattle.stream_input.proofs.hear_once.Goals as goal

pub returns-in-Err : goal.returns-in-Err
returns-in-Err g c = hears_nothing _ (omega arith)
