-- A line with its CR LF is in the room, or the room is too short. Assumes nothing.
use Rattle.std.proofs.Common.{rules, ◌≡◌, length}
use Rattle.writer.proofs.Delivering.{ended, no_room, wrote}
use Rattle.writer.proofs.deliver.Goals as goal

pub returns-then-copy : goal.returns-then-copy
returns-then-copy c =
    let frame = c.add-frame.result in
    let whole : length frame.bytes ≡ 200 = search rules in
    let e = ended c.args.line (search rules) c.requires c.add-frame.ensures.same in
    let w = rw e.0 at (wrote frame c.args.room.now whole e.1 c.copy.ensures.same c.copy.ensures.left c.if-copy.true) in
    record { same = w.0; left = w.1 }

pub returns-else-copy : goal.returns-else-copy
returns-else-copy c =
    let frame = c.add-frame.result in
    let whole : length frame.bytes ≡ 200 = search rules in
    let e = ended c.args.line (search rules) c.requires c.add-frame.ensures.same in
    let w = rw e.0 at (no_room frame c.args.room.now whole e.1 c.copy.ensures.same c.copy.ensures.left c.if-copy.false) in
    record { same = w.0; left = w.1 }
