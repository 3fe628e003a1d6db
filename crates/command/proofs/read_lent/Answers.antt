-- What the table finds is a command. Assumes nothing.
use Rattle.std.proofs.Common.{sym, ◌∙◌, ◌≡◌, rules, tests}
use Rattle.std.specs.Prelude.{option_map}
use Rattle.command.specs.declared.Reading.TheVariants.{Plain}
use Rattle.command.proofs.Parts.{table_read}
use Rattle.command.proofs.read_lent.Goals as goal

pub returns : goal.returns
returns c = record {
  same =
      let found : c.map.result ≡ option_map Plain c.read_table.result = search (rules, tests) in
      found ∙ rw c.read_table.ensures.same (table_read c.args.class.now c.args.next.now c.args.f.now (sym c.opens_label.ensures.same ∙ c.if-opens_label.false));
}
