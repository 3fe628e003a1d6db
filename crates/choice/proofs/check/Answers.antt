-- One pass: the answer is that of the parts from the loop's place on. Assumes nothing.
use Rattle.std.proofs.Common.{arith, sym, ap, ◌∙◌}
use Rattle.std.proofs.lemmas.Result.{err_from_is_err_and}
use Rattle.std.specs.Prelude.{Result, Err, ⊤}
use Rattle.choice.specs.declared.BrokenRule.{BrokenRule}
use Rattle.choice.specs.declared.Rule.{Rule}
use Rattle.choice.specs.Choice.{answer_of}
use Rattle.choice.proofs.Steps.{opened, other_opening, no_opening, breaks, passes, further, ends}
use Rattle.choice.proofs.check.Goals as goal

pub returns-in_default : goal.returns-in_default
returns-in_default c = record { same = sym (other_opening c.args.bytes.now (sym c.in-Some.ensures.same) (sym c.opens_choice.ensures.same ∙ c.if-opens_choice.false)) }

pub returns-in_default-2 : goal.returns-in_default-2
returns-in_default-2 c = record { same = sym (no_opening c.args.bytes.now (sym c.read_at.ensures.same ∙ c.in_default.is)) }

pub loop-sign-init : goal.loop-sign-init
loop-sign-init c = opened c.args.bytes.now (sym c.in-Some.ensures.same) (sym c.opens_choice.ensures.same ∙ c.if-opens_choice.true)

pub returns-in_err-answer : goal.returns-in_err-answer
returns-in_err-answer c = record {
  same =
      let loop = c.loop-sign in
      let broken = c.in_err-answer.ensures.same ∙ ap (λ (b : Result ⊤ Rule). answer_of b loop.at) c.broken_by.ensures.same in
      let told = err_from_is_err_and c.from_residual.result c.from_residual.ensures.1 in
      told.1 ∙ ap (λ (first : BrokenRule). Err first) told.2 ∙ sym (loop.invariant ∙ breaks c.args.bytes.now loop.since loop.at (sym c.in-Some-read_at.ensures.same) broken);
}

pub loop-sign-smaller : goal.loop-sign-smaller
loop-sign-smaller c = omega (arith, further c.args.bytes.now c.loop-sign.at (sym c.in-Some-read_at.ensures.same))

pub loop-sign-preserved : goal.loop-sign-preserved
loop-sign-preserved c =
    let loop = c.loop-sign in
    let fine = c.in_ok-answer.ensures.same ∙ ap (λ (b : Result ⊤ Rule). answer_of b loop.at) c.broken_by.ensures.same in
    loop.invariant ∙ passes c.args.bytes.now loop.since loop.at (sym c.in-Some-read_at.ensures.same) fine ∙ rw c.since_after-since.ensures.same

pub returns : goal.returns
returns c = record {
  same =
      let loop = c.loop-sign in
      c.answer-2.ensures.same
      ∙ ap (λ (b : Result ⊤ Rule). answer_of b loop.at) c.labels_wanted.ensures.same
      ∙ sym (loop.invariant ∙ ends c.args.bytes.now loop.since loop.at (sym c.in_default-read_at.ensures.same));
}
