-- The first bytes of a frame that the table accepts pick the command. Assumes nothing.
use Rattle.std.proofs.Common.{sym, ◌∙◌}
use Rattle.frame_table.specs.Opens.{heads_three}
use Rattle.frame_table.specs.Reader.{read_picked}
use Rattle.command.specs.First.{first}
use Rattle.command.proofs.read_table.Goals as goal

pub returns : goal.returns
returns c = record {
  same =
      let a = c.args in
      read_picked first a.class.now a.next.now a.f.now {r = c.in_ok-before.field-0} (sym c.accepted.ensures.same ∙ c.in_ok-before.was)
      (rw (heads_three a.f.now, ← c.byte_at.ensures.same, ← c.byte_at-2.ensures.same, ← c.byte_at-3.ensures.same) c.command_of.ensures.same);
}
