-- More codes stand behind those of the line, or find no room. Assumes nothing.
use Rattle.std.proofs.Common.{arith, sym}
use Rattle.line.specs.Laws.{added_with_room, added_without_room}
use Rattle.line.proofs.add.Goals as goal

pub returns-then-start-gt-MOST_CODES : goal.returns-then-start-gt-MOST_CODES
returns-then-start-gt-MOST_CODES c = record {
  same = let start = c.args in
      sym (added_without_room start.line start.codes.now (omega (arith, c.if-start-gt-MOST_CODES.true)));
}

pub returns-then-start-n : goal.returns-then-start-n
returns-then-start-n c = record {
  same = let start = c.args in
      sym (added_without_room start.line start.codes.now (omega (arith, c.if-start-gt-MOST_CODES.false, c.if-start-n.true)));
}

pub returns : goal.returns
returns c = record {
  same = let start = c.args in
      rw c.store.ensures (sym (added_with_room start.line start.codes.now (omega (arith, c.if-start-gt-MOST_CODES.false, c.if-start-n.false))));
}
