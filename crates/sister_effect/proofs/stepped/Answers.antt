-- A step that is not refused has room. Assumes nothing.
use Rattle.std.proofs.Common.{arith, leb-false}
use Rattle.std.proofs.lemmas.Bool.{eqb-false}
use Rattle.std.specs.Prelude.{[]}
use Rattle.sister_effect.proofs.stepped.Goals as goal

pub overflow_add-p : goal.overflow_add-p
overflow_add-p c = omega (arith, leb-false 20 c.args.p.contrast (rw c.in-ContrastUp.is at (c.requires [] [])))

pub overflow_sub-p : goal.overflow_sub-p
overflow_sub-p c = omega (arith, eqb-false c.args.p.contrast 0 (rw c.in-ContrastDown.is at (c.requires [] [])))

pub overflow_add-e : goal.overflow_add-e
overflow_add-e c = omega (arith, leb-false 100 c.args.e.brightness (rw c.in-BrightnessUp.is at (c.requires [] [])))

pub overflow_sub-e : goal.overflow_sub-e
overflow_sub-e c = omega (arith, eqb-false c.args.e.brightness 0 (rw c.in-BrightnessDown.is at (c.requires [] [])))

pub overflow_add-e-in-SpeakerUp : goal.overflow_add-e-in-SpeakerUp
overflow_add-e-in-SpeakerUp c = omega (arith, leb-false 7 c.args.e.speaker (rw c.in-SpeakerUp.is at (c.requires [] [])))

pub overflow_sub-e-in-SpeakerDown : goal.overflow_sub-e-in-SpeakerDown
overflow_sub-e-in-SpeakerDown c = omega (arith, eqb-false c.args.e.speaker 0 (rw c.in-SpeakerDown.is at (c.requires [] [])))
