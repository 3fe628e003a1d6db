-- `record_ranges::scan` keeps its promise. Assumes nothing.
use Rattle.std.proofs.Common.{arith, sym, ◌∙◌}
use Rattle.record_ranges.specs.Scan.{test_of, turn, at_end}
use Rattle.record_ranges.proofs.scan.Goals as goal

pub loop-b-preserved : goal.loop-b-preserved
loop-b-preserved c = let start = c.args in
    let loop = c.loop-b in
    (omega arith, loop.invariant.1 ∙ turn (test_of start.place) start.len start.s.now loop.b-index loop.left loop.ok c.place_right-ok.result c.loop-b-test.true (omega arith) loop.invariant.0 c.place_right-ok.ensures)

pub returns : goal.returns
returns c = let start = c.args in
    let loop = c.loop-b in
    sym (loop.invariant.1 ∙ at_end (test_of start.place) start.len start.s.now loop.b-index loop.ok c.loop-b-test.false)
