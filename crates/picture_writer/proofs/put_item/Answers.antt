-- The stores of an item, with and without a letter. Assumes nothing.
use Rattle.std.proofs.Common.{arith}
use Rattle.picture_writer.proofs.Stores.{single_item, lettered_item}
use Rattle.picture_writer.proofs.put_item.Goals as goal

pub returns-then-count-eq1 : goal.returns-then-count-eq1
returns-then-count-eq1 c = let a = c.args in
    let s = single_item a.text.now a.at a.count a.column _ _ c.hex_digit-high.ensures.same c.hex_digit-low.ensures.same (omega (arith, c.if-count-eq1.true)) in
    record { end = s.0; same = s.1 }

pub returns : goal.returns
returns c = let a = c.args in
    let s = lettered_item a.text.now a.at a.count a.column _ _ c.hex_digit-high.ensures.same c.hex_digit-low.ensures.same (λ e. c.if-count-eq1.false (omega arith)) in
    record { end = s.0; same = s.1 }
