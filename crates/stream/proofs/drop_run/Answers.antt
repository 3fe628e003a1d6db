-- `stream::drop_run` keeps its promise. Assumes nothing.
use Rattle.std.proofs.Common.{arith, subst}
use Rattle.std.specs.Prelude.{ℕ, ◌≡◌, length}
use Rattle.stream.specs.Turns.{Drops, drops_none, drops_more}
use Rattle.stream.proofs.drop_run.Goals as goal

pub loop-i-init : goal.loop-i-init
loop-i-init c = drops_none _ _ c.requires

pub loop-i-preserved : goal.loop-i-preserved
loop-i-preserved c = drops_more c.loop-i.invariant c.loop-i-test.true c.if-bytes-i-lt-BLANK.false

pub returns : goal.returns
returns c = let bytes = c.args.bytes.now in
    let end : c.loop-i.i ≡ length bytes = omega arith in
    (λ h. absurd (omega arith), subst (λ (i : ℕ). Drops bytes c.args.from i) end c.loop-i.invariant)
