-- Each of her commands in range that is not refused does what its line says. Assumes nothing.
use Rattle.sister_effect.proofs.changed.Goals as goal

pub returns-in-Light : goal.returns-in-Light
returns-in-Light c = record { leaves = rw c.in-Light.is (c.light_at.ensures.leaves c.args.text.now c.args.picture.now) }

pub returns-in-LightTo : goal.returns-in-LightTo
returns-in-LightTo c = record { leaves = rw c.in-LightTo.is (c.light_to.ensures.leaves c.args.text.now c.args.picture.now) }

pub stepped-requires : goal.stepped-requires
stepped-requires c = λ t g. rw c.in-Step.is at (c.requires.by_index t g)

pub returns-in-Step : goal.returns-in-Step
returns-in-Step c = record { leaves = rw c.in-Step.is (c.stepped.ensures.leaves c.args.text.now c.args.picture.now) }
