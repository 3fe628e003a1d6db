-- A part lies within the window and its body within it, by the laws of the parts; so does a run that it begins. Before the window's end
-- there is one. Assumes nothing.
use Rattle.std.proofs.Common.{◌≡◌, refl, ap, ◌∙◌, ℕ, ◌<◌, ◌≤◌, List, length, sym, arith, Option, Some, is_none, true≢false}
use Rattle.parts.specs.declared.PartAt.{PartAt}
use Rattle.parts.specs.Parts.{part_at}
use Rattle.parts.specs.Laws.{advances, progress, lies}
use Rattle.explain.proofs.front_at.Goals as goal

lying : (bytes : List ℕ) (place : ℕ) {p : PartAt} → Some p ≡ part_at bytes place → (place < p.end) × (p.end ≤ length bytes) × (p.body ≤ p.body_end) × (p.body_end ≤ p.end)
lying bytes place e =
    let a = progress bytes place (sym e) in
    let b = lies bytes place (sym e) in
    (a.further, a.within, b.in_order, b.stops)

pub returns-in_err-part : goal.returns-in_err-part
returns-in_err-part c =
    record {
      within = rw c.from_residual.ensures tt;
      there = λ before. absurd (true≢false (ap (λ (found : Option PartAt). is_none found) (c.in_err-part.ensures.same ∙ (advances c.args.window.now c.args.at before).some)));
    }

pub returns-in_default : goal.returns-in_default
returns-in_default c = record { within = lying c.args.window.now c.args.at c.in_ok-part.ensures.same; there = λ before. refl }

pub run_end-end-requires : goal.run_end-end-requires
run_end-end-requires c = (lying c.args.window.now c.args.at c.in_ok-part.ensures.same).1

pub returns : goal.returns
returns c =
    let l = lying c.args.window.now c.args.at c.in_ok-part.ensures.same in
    let run = c.run_end-end.ensures in
    record { within = (omega (arith, l.0, run.0), run.1, omega (arith, l.0, run.0), omega arith); there = λ before. refl }
