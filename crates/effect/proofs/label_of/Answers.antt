-- The codes stand in the first places, and zero after them. Assumes nothing.
use Rattle.std.proofs.Common.{arith, sym, ◌∙◌, length-drop, take_all}
use Rattle.std.specs.Prelude.{◌≡◌, ◌+◌, ◌-◌, ◌≤◌, drop, length, []}
use Rattle.lists.specs.Padded.{padded, lengthen}
use Rattle.lists.specs.Written.{part_written}
use Rattle.effect.proofs.label_of.Goals as goal

pub returns : goal.returns
unfolding padded
returns c = let t = drop 3 c.args.f.now in
    let n : length c.args.f.now - 3 ≡ length t = sym (length-drop 3 c.args.f.now) in
    let fits : 0 + length t ≤ 7 = omega (arith, c.requires) in
    let codes = part_written (padded 7 []) _ t 0 (length c.args.f.now - 3) (c.copy_from_slice.ensures.after ∙ take_all _ t (omega arith)) n fits ∙ lengthen 7 [] t fits in
    record { same = λ i. record { len = n i; codes = codes i } }
