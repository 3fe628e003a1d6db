-- The codes of a form are added, shape by shape. Assumes nothing.
use Rattle.std.proofs.Common.{arith, append_assoc}
use Rattle.std.specs.Prelude.{refl}
use Rattle.line.specs.Laws.{adding, adding_number, then, within}
use Rattle.command_form.proofs.add_form.Goals as goal

pub returns-in-TwoSigns : goal.returns-in-TwoSigns
returns-in-TwoSigns c = rw c.in-TwoSigns.is (adding 9 c.add.ensures.same (omega arith))

pub returns-in-ThreeSigns : goal.returns-in-ThreeSigns
returns-in-ThreeSigns c = rw c.in-ThreeSigns.is (adding 9 c.add-in-ThreeSigns.ensures.same (omega arith))

pub returns-in-Number : goal.returns-in-Number
returns-in-Number c =
    rw c.in-Number.is (within 9 refl (omega arith) (then (adding 2 c.add-in-Number.ensures.same (omega arith)) (adding_number c.in-Number.n c.add_number.ensures.same) (omega arith)))

pub returns-in-Times : goal.returns-in-Times
returns-in-Times c =
    let letters = adding 2 c.add-in-Times.ensures.same (omega arith) in
    let first = then letters (adding_number c.in-Times.time1 c.add_number-in-Times.ensures.same) (omega arith) in
    let both = then (then first (adding 1 c.add-in-Times-2.ensures.same (omega arith)) (omega arith)) (adding_number c.in-Times.time2 c.add_number-in-Times-2.ensures.same) (omega arith) in
    rw c.in-Times.is (within 9 (simp append_assoc) (omega arith) both)

pub returns-in-Place : goal.returns-in-Place
returns-in-Place c =
    let bracket = adding 1 c.add-in-Place.ensures.same (omega arith) in
    let first = then bracket (adding_number c.in-Place.row c.add_number-in-Place.ensures.same) (omega arith) in
    let both = then (then first (adding 1 c.add-in-Place-2.ensures.same (omega arith)) (omega arith)) (adding_number c.in-Place.column c.add_number-in-Place-2.ensures.same) (omega arith) in
    rw c.in-Place.is (within 9 (simp append_assoc) (omega arith) (then both (adding 1 c.add-in-Place-3.ensures.same (omega arith)) (omega arith)))
