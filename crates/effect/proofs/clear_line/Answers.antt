-- Blanks from the column on to the row's end. Assumes nothing.
use Rattle.std.proofs.Common.{arith, ap, ◌∙◌}
use Rattle.std.proofs.lemmas.List.Edits.{sets}
use Rattle.std.specs.Prelude.{ℕ, suc, ◌+◌, ◌-◌, ◌≡◌, List, ◌≤◌, replicate, set}
use Rattle.lists.specs.Codes.{blank}
use Rattle.effect.specs.Sets.{sets_more}
use Rattle.effect.proofs.clear_line.Goals as goal

-- One blank more.
more : (text : List ℕ) (start column i : ℕ) → column ≤ i
    → set (sets text (start + column) (replicate (i - column) blank)) (start + i) blank ≡ sets text (start + column) (replicate (i + 1 - column) blank)
more text start column i h =
    let at : start + i ≡ start + column + (i - column) = omega arith in
    let one : i + 1 - column ≡ suc (i - column) = omega arith in
    rw (at, one) (sets_more text (start + column) (i - column) blank)

pub loop-i-preserved : goal.loop-i-preserved
loop-i-preserved c = let start = c.args in
    let loop = c.loop-i in
    let grown = c.blank_at.ensures.same ∙ ap (λ (t : List ℕ). set t (start.start + loop.i) blank) loop.invariant.2 ∙ more start.text.now start.start start.column loop.i loop.invariant.0 in
    (omega arith, omega arith, grown)
