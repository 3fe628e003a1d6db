-- `record_ranges::label_in_range` keeps its promise. Assumes nothing.
use Rattle.std.proofs.Common.{rules, tests, sym, ap, ◌∙◌, eq-eqb, le-leb}
use Rattle.std.proofs.lemmas.Bool.{lt-leb}
use Rattle.std.proofs.lemmas.Iterator.{YieldsList-from_slice}
use Rattle.std.proofs.lemmas.Iterator.Search.{all_from_yields_List}
use Rattle.std.proofs.lemmas.Slice.{between_is}
use Rattle.std.specs.List.{between}
use Rattle.std.specs.Prelude.{true, false, ◌≡◌, length, take}
use Rattle.lists.specs.Every.{every, every_all}
use Rattle.record.specs.Range.{is_code, is_unused, label_in_range}
use Rattle.record_ranges.proofs.label_in_range.Goals as goal

pub returns-then-len-gt-LONGEST_LABEL : goal.returns-then-len-gt-LONGEST_LABEL
unfolding label_in_range
returns-then-len-gt-LONGEST_LABEL c = let l = c.args.l in
    let full : length l.codes ≡ 7 = search rules in
    rw (eq-eqb _ _ full, lt-leb l.len 7 c.if-len-gt-LONGEST_LABEL.true)

pub returns-then-all : goal.returns-then-all
unfolding label_in_range
returns-then-all c = let l = c.args.l in
    let full : length l.codes ≡ 7 = search rules in
    let front = take l.len l.codes in
    let codes = all_from_yields_List is_code _ _ c.all.result c.all.ensures.ran (YieldsList-from_slice front cc) (λ x b q k. search (rules, tests)) in
    let used : every is_code front ≡ true = every_all is_code front ∙ sym codes ∙ c.if-all.true in
    let back = between l.len 7 l.codes in
    let rest = all_from_yields_List is_unused _ _ c.all-then-all.result c.all-then-all.ensures.ran (YieldsList-from_slice back cc) (λ x b q k. search (rules, tests)) in
    rw (eq-eqb _ _ full, le-leb l.len 7 c.if-len-gt-LONGEST_LABEL.false, used) (rest ∙ sym (every_all is_unused back) ∙ ap (every is_unused) (between_is l.codes l.len 7))

pub returns-else-all : goal.returns-else-all
unfolding label_in_range
returns-else-all c = let l = c.args.l in
    let full : length l.codes ≡ 7 = search rules in
    let front = take l.len l.codes in
    let codes = all_from_yields_List is_code _ _ c.all.result c.all.ensures.ran (YieldsList-from_slice front cc) (λ x b q k. search (rules, tests)) in
    let used : every is_code front ≡ false = every_all is_code front ∙ sym codes ∙ c.if-all.false in
    rw (eq-eqb _ _ full, le-leb l.len 7 c.if-len-gt-LONGEST_LABEL.false, used) c.if-all.false
