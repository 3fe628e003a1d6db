-- What a line holds is at the front of the room, or finds no room there. Assumes nothing.
use Rattle.std.proofs.Common.{rules, refl, sym, ◌∙◌}
use Rattle.std.specs.Prelude.{◌≡◌, length}
use Rattle.line.specs.Lines.{finds_room, room_with}
use Rattle.line.proofs.Storing.{copied}
use Rattle.line.proofs.copy.Goals as goal

pub returns-then-n-room-clause-same : goal.returns-then-n-room-clause-same
unfolding finds_room room_with
returns-then-n-room-clause-same c = let start = c.args in
    let places : length start.line.bytes ≡ 200 = search rules in
    let finds = c.if-n-room.true in
    sym finds

pub returns-then-n-room-clause-left : goal.returns-then-n-room-clause-left
unfolding finds_room room_with
returns-then-n-room-clause-left c = let start = c.args in
    let places : length start.line.bytes ≡ 200 = search rules in
    let finds = c.if-n-room.true in
    c.store.ensures ∙ copied start.line start.room.now finds places

pub returns-clause-same : goal.returns-clause-same
unfolding finds_room room_with
returns-clause-same c = rw c.if-n-room.false refl

pub returns-clause-left : goal.returns-clause-left
unfolding finds_room room_with
returns-clause-left c = rw c.if-n-room.false refl
