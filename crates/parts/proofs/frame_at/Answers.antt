-- `parts::frame_at` keeps its promise. Assumes nothing.
use Rattle.std.proofs.Common.{arith}
use Rattle.parts.proofs.Steps.{stop_within, tail_told, abandoned_told, closed_told}
use Rattle.parts.proofs.frame_at.Goals as goal

pub overflow_add-body_end : goal.overflow_add-body_end
overflow_add-body_end c = omega (arith, stop_within c.args.bytes.now c.args.place _ c.requires c.body_length.ensures)

pub returns-in-None : goal.returns-in-None
returns-in-None c = tail_told c.args.bytes.now c.args.place _ c.requires c.body_length.ensures c.in-None.ensures.lookup.3

pub returns-in-Some-eq27 : goal.returns-in-Some-eq27
returns-in-Some-eq27 c = let b = c.in-Some-eq27.ensures.lookup.3 in abandoned_told c.args.bytes.now c.args.place _ c.requires c.body_length.ensures b.0 (omega (arith, b.1 0))

pub returns-in-Some : goal.returns-in-Some
returns-in-Some c = let b = c.in-Some.ensures.lookup.3 in closed_told c.args.bytes.now c.args.place _ c.requires c.body_length.ensures b.0 (λ e. omega (arith, b.1 0))
