-- `stream::store_all` keeps its promise. Assumes nothing.
use Rattle.std.proofs.Common.{arith}
use Rattle.stream.specs.Turns.{Ends, stores_on, past_first}
use Rattle.stream.proofs.store_all.Goals as goal

pub returns-else-next-end : goal.returns-else-next-end
returns-else-next-end c = let s = c.store_run-stored.ensures in
    let p = c.requires in
    let b = c.args.bytes.now in
    let d = c.drop_run.ensures in
    (past_first (Ends b) (let l = d.1.onward in omega arith) (λ e. let l = e p.1 in omega arith) d.0, stores_on s.1 (d.1.stores s.1.small c.if-next-end.false))
