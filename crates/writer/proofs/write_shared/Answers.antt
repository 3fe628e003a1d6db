-- What write_shared hands back and leaves in the room. Assumes nothing.
use Rattle.std.proofs.Common.{sym, ◌∙◌, ap₂}
use Rattle.std.specs.Prelude.{◌&&◌}
use Rattle.command.specs.Order.{plain}
use Rattle.command.specs.Spell.{spell}
use Rattle.sister_command.specs.Order.{first}
use Rattle.sister_command.specs.Grammar.{sister_form}
use Rattle.writer.specs.Writing.{shared_in_range}
use Rattle.writer.specs.ReadBack.{shared_reads_back}
use Rattle.writer.proofs.Delivering.{body_held, body_delivered}
use Rattle.writer.proofs.write_shared.Goals as goal

pub deliver_body-requires : goal.deliver_body-requires
deliver_body-requires c g = (body_held _ _ (shared_reads_back c.args.c (sym (ap₂ ◌&&◌ c.is_shared.ensures.same c.in_range.ensures.same) ∙ g)).most c.shared_body.ensures.same).1

pub returns : goal.returns
returns c =
    let w = body_delivered (shared_in_range c.args.c) (spell (sister_form (first (plain c.args.c)))) c.args.room.now (ap₂ ◌&&◌ c.is_shared.ensures.same c.in_range.ensures.same) c.shared_body.ensures.same (λ h. (shared_reads_back c.args.c h).most) (c.deliver_body.ensures.same, c.deliver_body.ensures.left) in
    record { same = w.0; left = w.1 }
