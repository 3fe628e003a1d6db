-- All codes of a short label pass. Assumes nothing.
use Rattle.std.proofs.Common.{rules, sym, ◌∙◌, le-leb, tests}
use Rattle.std.proofs.lemmas.Iterator.{YieldsList-from_slice}
use Rattle.std.proofs.lemmas.Iterator.Search.{all_from_yields_List}
use Rattle.std.specs.Prelude.{length}
use Rattle.lists.specs.Every.{every_all}
use Rattle.record.specs.Range.{is_code}
use Rattle.writer_ranges.specs.Fitting.{is_label}
use Rattle.writer_ranges.proofs.label_in_range.Goals as goal

pub returns-then-codes-le-LONGEST_LABEL : goal.returns-then-codes-le-LONGEST_LABEL
unfolding is_label
returns-then-codes-le-LONGEST_LABEL c = let codes = c.args.codes.now in
    record {
      same = rw (le-leb (length codes) 7 c.if-codes-le-LONGEST_LABEL.true)
          (all_from_yields_List is_code _ _ c.all.result c.all.ensures.ran (YieldsList-from_slice codes cc) (λ x b q k. search (rules, tests)) ∙ sym (every_all is_code codes));
    }
