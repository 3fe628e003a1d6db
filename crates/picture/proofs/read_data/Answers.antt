-- The loop keeps: the columns drawn so far stand in the row, and the codes that are left give the others. Assumes nothing.
use Rattle.std.proofs.Common.{arith, sym, ◌∙◌}
use Rattle.picture.proofs.Drawing.{starts, draws_more, all_left, no_data, over_full, ends}
use Rattle.picture.proofs.read_data.Goals as goal

pub loop-rest-init : goal.loop-rest-init
loop-rest-init c = starts c.args.d.now

pub returns-in_err-item : goal.returns-in_err-item
returns-in_err-item c = record { same = c.from_residual.ensures ∙ no_data c.loop-rest.invariant (grind (arith, c.is_empty.ensures, c.loop-rest-test.true)) (sym c.first_item.ensures.same ∙ c.in_err-item.was) }

pub returns-then-used-item : goal.returns-then-used-item
returns-then-used-item c = record { same = over_full c.loop-rest.invariant (sym c.first_item.ensures.same ∙ c.in_ok-item.was) (omega (arith, c.if-used-item.true)) }

pub loop-rest-preserved : goal.loop-rest-preserved
loop-rest-preserved c =
    draws_more c.loop-rest.invariant c.fill.new.self _ (sym c.first_item.ensures.same ∙ c.in_ok-item.was) (omega (arith, c.if-used-item.false, c.loop-rest.invariant.fits)) (c.fill.ensures.after (λ y h. h)) (all_left c.in_ok-item.item.width c.loop-rest.rest.now)

pub returns : goal.returns
returns c = record { same = c.then_some.ensures ∙ ends c.loop-rest.invariant (grind (arith, c.is_empty.ensures, c.loop-rest-test.false)) }
