-- What her form stands for, in an empty line. Assumes nothing.
use Rattle.std.proofs.Common.{arith, append_assoc}
use Rattle.line.specs.Laws.{adding, adding_number, then, within}
use Rattle.command.specs.Spell.{spell}
use Rattle.sister_form.specs.declared.SharedForm.TheVariants.{Place}
use Rattle.sister_form.specs.Pieces.{pieces}
use Rattle.sister_form.proofs.shared_body.Goals as goal

pub returns-in-Place : goal.returns-in-Place
returns-in-Place c = record {
  same =
      let row = c.in-Place.row in
      let column = c.in-Place.column in
      let first = then c.numbered.ensures (adding 1 c.add.ensures.same (omega arith)) (omega arith) in
      rw (← c.shared_form.ensures, c.in-Place.is) (within {t = spell (pieces c.args.c (Place row column))} 11 (simp append_assoc) (omega arith) (then first (adding_number column c.add_number.ensures.same) (omega arith))).same;
}
