-- `parts::part_at` keeps its promise. Assumes nothing.
use Rattle.std.proofs.Common.{arith, sym, ◌∙◌}
use Rattle.parts.specs.Laws.{none_at_end}
use Rattle.parts.proofs.Steps.{frame_opens, text_stands, skipped_stands}
use Rattle.parts.proofs.part_at.Goals.{then-first-lt-BLANK, else-first-lt-BLANK}
use Rattle.parts.proofs.part_at.Goals as goal

pub returns-then-first-eq-ESCAPE : goal.returns-then-first-eq-ESCAPE
returns-then-first-eq-ESCAPE c = record {
  same =
      let b = c.in_ok-first.ensures.lookup.3 in
      c.frame_at.ensures ∙ frame_opens c.args.bytes.now c.args.place b.0 (omega (arith, b.1 0));
}

pub returns-in_err-first : goal.returns-in_err-first
returns-in_err-first c = record { same = c.from_residual.ensures ∙ sym (none_at_end c.args.bytes.now c.args.place (c.in_err-first.ensures.lookup.3)) }

pub returns : goal.returns
returns c = record {
  same =
      let b = c.in_ok-first.ensures.lookup.3 in
      elim c.if-first-lt-BLANK.branch [
        | then-first-lt-BLANK w ↦ rw w.kind-is (skipped_stands c.args.bytes.now c.args.place b.0 (omega (arith, b.1 0)) (λ e. omega (arith, b.1 0)))
        | else-first-lt-BLANK w ↦ rw w.kind-is (text_stands c.args.bytes.now c.args.place b.0 (omega (arith, b.1 0)))
      ];
}
