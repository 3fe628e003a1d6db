-- Letters, and a number behind them. Assumes nothing.
use Rattle.std.specs.Prelude.{refl}
use Rattle.std.proofs.Common.{arith}
use Rattle.line.specs.Laws.{adding, adding_number, then, within}
use Rattle.sister_form.proofs.numbered.Goals as goal

pub returns : goal.returns
returns c = let letters = adding 4 (rw c.empty.ensures.same at c.add.ensures.same) (omega (arith, c.requires)) in
    within 7 refl (omega arith) (then letters (adding_number c.args.n c.add_number.ensures.same) (omega arith))
