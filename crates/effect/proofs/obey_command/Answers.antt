-- A command in range is carried out, another is passed over. Assumes nothing.
use Rattle.std.specs.Prelude.{true, false}
use Rattle.effect.specs.Effect.{carry_out}
use Rattle.effect.proofs.Orders.{judged}
use Rattle.effect.proofs.obey_command.Goals as goal

pub returns-then-in_range : goal.returns-then-in_range
unfolding carry_out
returns-then-in_range c = record {
  same = let start = c.args in
      λ g e. rw (judged start.p.screen.mode start.c true c.rows_named-rows.ensures.same c.in_range.ensures.same c.if-in_range.true) (c.changed.ensures.same g e);
}

pub returns-else-in_range : goal.returns-else-in_range
unfolding carry_out
returns-else-in_range c = record {
  same = let start = c.args in
      λ g e. rw (judged start.p.screen.mode start.c false c.rows_named-rows.ensures.same c.in_range.ensures.same c.if-in_range.false);
}
