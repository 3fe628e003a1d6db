-- `key_log::take_log_lent` keeps its promise. Assumes nothing.
use Rattle.std.proofs.Common.{refl, sym, ◌∙◌, length}
use Rattle.record.specs.Parts.{whole}
use Rattle.key_log.specs.Laws.{ends_with_1, ends_with_5, ends_with_4, ends_with_0, all_listed_in, kept}
use Rattle.key_log.proofs.take_log_lent.Goals as goal

pub returns-then-not-good : goal.returns-then-not-good
returns-then-not-good c =
    let r = whole c.args.parts in
    let bad = sym c.in_range_lent-good.ensures.same ∙ c.if-not-good.true in
    let both = kept c.args.codes.now (ends_with_1 r c.args.ticks.now c.args.edges.now (length c.args.codes.now) bad) c.refuse.ensures refl in
    record { same = both.0; buffer = both.1 }

pub returns-then-ticks-edges : goal.returns-then-ticks-edges
returns-then-ticks-edges c =
    let r = whole c.args.parts in
    let good = sym c.in_range_lent-good.ensures.same ∙ c.if-not-good.false in
    let both = kept c.args.codes.now (ends_with_5 r c.args.ticks.now c.args.edges.now (length c.args.codes.now) good c.if-ticks-edges.true) c.refuse-then-ticks-edges.ensures refl in
    record { same = both.0; buffer = both.1 }

pub returns-then-not-listed : goal.returns-then-not-listed
returns-then-not-listed c =
    let r = whole c.args.parts in
    let good = sym c.in_range_lent-good.ensures.same ∙ c.if-not-good.false in
    let odd = all_listed_in r.edition.sister c.args.edges.now c.last_number-last.ensures c.all_listed-listed.ensures.same ∙ c.if-not-listed.true in
    let both = kept c.args.codes.now (ends_with_4 r c.args.ticks.now c.args.edges.now (length c.args.codes.now) good c.if-ticks-edges.false odd) c.refuse-then-not-listed.ensures refl in
    record { same = both.0; buffer = both.1 }

pub returns : goal.returns
returns c =
    let r = whole c.args.parts in
    let good = sym c.in_range_lent-good.ensures.same ∙ c.if-not-good.false in
    let all = all_listed_in r.edition.sister c.args.edges.now c.last_number-last.ensures c.all_listed-listed.ensures.same ∙ c.if-not-listed.false in
    let taken = c.take_by_edition.ensures in
    let both = kept c.args.codes.now (ends_with_0 r c.args.ticks.now c.args.edges.now (length c.args.codes.now) good c.if-ticks-edges.false all) (taken.back r.text r.picture r.frame.bytes) (taken.buffer r.text r.picture r.frame.bytes) in
    record { same = both.0; buffer = both.1 }
