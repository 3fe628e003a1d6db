-- Each reading of the frame gives its order, and the order its verdict. Assumes nothing.
use Rattle.std.proofs.Common.{ℕ, true, List, ◌≡◌, refl, sym, ap, ◌∙◌}
use Rattle.std.specs.Prelude.{◌||◌}
use Rattle.std.proofs.Math.Option.{Option}
use Rattle.record.specs.Core.{Core}
use Rattle.command.specs.First.{opens_label}
use Rattle.command.specs.Reading.{opens_picture, order_of}
use Rattle.effect.specs.Obey.{core}
use Rattle.sister_command.specs.Order.{AnyOrder}
use Rattle.sister_command.specs.Reading.{sister_order_of}
use Rattle.sister_effect.proofs.Orders.{opens, said_found}
use Rattle.verdict.specs.declared.Verdict.{Verdict}
use Rattle.verdict.specs.Verdict.{verdict_of, by_any}
use Rattle.verdict.specs.Laws.{by_first}
use Rattle.verdict.proofs.judge_sister.Goals as goal

-- a frame that opens as the first edition's has its verdict there
opened : (c : Core) (f : List ℕ) {v : Verdict} → (opens_picture f || opens_label f) ≡ true → v ≡ verdict_of c.settings.screen.mode f → v ≡ by_any c (sister_order_of f)
unfolding sister_order_of verdict_of
opened c f h e = rw h (e ∙ by_first c (order_of f))

-- the verdict by what was found
judged : (c : Core) {found read : Option AnyOrder} {v : Verdict} → found ≡ read → v ≡ by_any c read → v ≡ by_any c found
judged c e h = h ∙ ap (by_any c) (sym e)

pub returns-then-opens_picture-opens_label : goal.returns-then-opens_picture-opens_label
returns-then-opens_picture-opens_label c = record {
  same = λ t g.
      opened (core c.args.settings t g c.args.edition) c.args.frame.now (opens c.args.frame.now c.opens_picture.ensures.same c.opens_label.ensures.same c.if-opens_picture-opens_label.true) c.judge.ensures.same;
}

pub returns-in-None : goal.returns-in-None
returns-in-None c = record {
  same = λ t g.
      judged (core c.args.settings t g c.args.edition) (said_found c.args.frame.now c.opens_picture.ensures.same c.opens_label.ensures.same c.if-opens_picture-opens_label.false c.read_sister.ensures.same c.in-None.is) refl;
}

pub returns-in-Some-Shared : goal.returns-in-Some-Shared
returns-in-Some-Shared c = record {
  same = λ t g.
      judged (core c.args.settings t g c.args.edition) (said_found c.args.frame.now c.opens_picture.ensures.same c.opens_label.ensures.same c.if-opens_picture-opens_label.false c.read_sister.ensures.same (rw c.in-Some-Shared.field-0-is at c.in-Some-Shared.is))
      (c.by_number.ensures.same ∙ rw (c.number_out.ensures.same, c.rows_named-rows.ensures.same));
}

pub returns-in-Some-Own : goal.returns-in-Some-Own
returns-in-Some-Own c = record {
  same = λ t g.
      judged (core c.args.settings t g c.args.edition) (said_found c.args.frame.now c.opens_picture.ensures.same c.opens_label.ensures.same c.if-opens_picture-opens_label.false c.read_sister.ensures.same (rw c.in-Some-Own.field-0-is at c.in-Some-Own.is)) (c.of_own.ensures.same t g);
}
