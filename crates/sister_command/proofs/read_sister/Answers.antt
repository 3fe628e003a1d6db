-- The first bytes of a frame that her table accepts pick the command. Assumes nothing.
use Rattle.std.proofs.Common.{sym, ◌∙◌}
use Rattle.frame_table.specs.Opens.{heads_four}
use Rattle.frame_table.specs.Reader.{read_refused, read_picked}
use Rattle.sister_command.specs.Table.{classes, next_states}
use Rattle.sister_command.specs.Sister.{sister}
use Rattle.sister_command.specs.Reading.{sister_read}
use Rattle.sister_command.proofs.read_sister.Goals as goal

pub returns-in_err-before : goal.returns-in_err-before
unfolding sister_read classes next_states
returns-in_err-before c = record { same = c.from_residual.ensures ∙ read_refused sister classes next_states c.args.f.now (sym c.accepted.ensures.same ∙ c.in_err-before.was) }

pub returns : goal.returns
unfolding sister_read classes next_states
returns c = record {
  same =
      let f = c.args.f.now in
      read_picked sister classes next_states f {r = c.in_ok-before.field-0} (sym c.accepted.ensures.same ∙ c.in_ok-before.was)
      (rw (heads_four f, ← c.byte_at.ensures.same, ← c.byte_at-2.ensures.same, ← c.byte_at-3.ensures.same, ← c.byte_at-4.ensures.same) c.command_of.ensures.same);
}
