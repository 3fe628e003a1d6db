-- A label's text: not too long, and each code passes. Assumes nothing.
use Rattle.std.specs.Prelude.{length, refl, ◌&&◌}
use Rattle.std.proofs.Common.{le-leb, ◌∙◌, rules, tests}
use Rattle.std.proofs.lemmas.Iterator.{YieldsList-from_slice}
use Rattle.std.proofs.lemmas.Iterator.Search.{all_from_yields_List}
use Rattle.std.proofs.lemmas.List.Recursion.{same_from_clauses}
use Rattle.std.specs.List.{list_all}
use Rattle.lists.specs.Every.{every}
use Rattle.record.specs.Range.{is_code}
use Rattle.command.specs.Reading.{is_text}
use Rattle.command.proofs.is_text.Goals as goal

pub returns-then-t-le-LONGEST_LABEL : goal.returns-then-t-le-LONGEST_LABEL
unfolding is_text
returns-then-t-le-LONGEST_LABEL c = record {
  same =
      let t = c.args.t.now in
      rw (le-leb (length t) 7 c.if-t-le-LONGEST_LABEL.true)
      (all_from_yields_List is_code _ _ c.all.result c.all.ensures.ran (YieldsList-from_slice t cc) (λ x b q k. search (rules, tests))
      ∙ same_from_clauses (list_all is_code) (every is_code) (λ x passed. is_code x && passed) refl (λ _ _. refl) (λ _ _. refl) t);
}
