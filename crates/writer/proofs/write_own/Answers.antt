-- What write_own hands back and leaves in the room. Assumes nothing.
use Rattle.std.proofs.Common.{sym, ◌∙◌}
use Rattle.command.specs.Spell.{spell}
use Rattle.sister_command.specs.Order.{own}
use Rattle.sister_command.specs.Grammar.{sister_form}
use Rattle.sister_command.specs.InRange.{own_in_range}
use Rattle.writer.specs.ReadBack.{own_reads_back}
use Rattle.writer.proofs.Delivering.{body_held, body_delivered}
use Rattle.writer.proofs.write_own.Goals as goal

pub deliver_body-requires : goal.deliver_body-requires
deliver_body-requires c g = (body_held _ _ (own_reads_back c.args.c (sym c.own_in_range.ensures.same ∙ g)).most c.own_body.ensures.same).1

pub returns : goal.returns
returns c =
    let w = body_delivered (own_in_range c.args.c) (spell (sister_form (own c.args.c))) c.args.room.now c.own_in_range.ensures.same c.own_body.ensures.same (λ h. (own_reads_back c.args.c h).most) (c.deliver_body.ensures.same, c.deliver_body.ensures.left) in
    record { same = w.0; left = w.1 }
