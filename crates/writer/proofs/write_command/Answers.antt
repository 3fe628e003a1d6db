-- What write_command hands back and leaves in the room. Assumes nothing.
use Rattle.std.proofs.Common.{sym, ◌∙◌}
use Rattle.command.specs.Order.{plain}
use Rattle.command.specs.InRange.{command_in_range, most_rows}
use Rattle.command.specs.Spell.{spelling}
use Rattle.writer.specs.ReadBack.{command_reads_back}
use Rattle.writer.proofs.Delivering.{body_held, body_delivered}
use Rattle.writer.proofs.write_command.Goals as goal

pub deliver_body-requires : goal.deliver_body-requires
deliver_body-requires c g = (body_held _ _ (command_reads_back c.args.c (sym c.in_range.ensures.same ∙ g)).most c.body.ensures.same).1

pub returns : goal.returns
returns c =
    let w = body_delivered (command_in_range most_rows c.args.c) (spelling (plain c.args.c)) c.args.room.now c.in_range.ensures.same c.body.ensures.same (λ h. (command_reads_back c.args.c h).most) (c.deliver_body.ensures.same, c.deliver_body.ensures.left) in
    record { same = w.0; left = w.1 }
