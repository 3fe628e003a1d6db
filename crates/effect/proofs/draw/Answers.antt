-- The columns that are still to be drawn give the same picture at each turn. Assumes nothing.
use Rattle.std.proofs.Common.{arith, sym, ◌*◌, ◌∙◌, le-leb}
use Rattle.effect.specs.Effect.{drawn}
use Rattle.effect.proofs.Stores.{draw_ends}
use Rattle.effect.proofs.draw.Goals as goal

pub returns : goal.returns
unfolding drawn
returns c = record {
  same = let a = c.args in
      let loop = c.loop-i in
      rw (le-leb a.row 6 (omega arith)) (sym (draw_ends a.row (a.row * 96) a.columns.len a.columns.bytes loop.picture loop.i loop.invariant.0 (omega arith)) ∙ loop.invariant.1);
}
