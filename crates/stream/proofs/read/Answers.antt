-- `stream::read` keeps its promise. Assumes nothing.
use Rattle.std.proofs.Common.{arith, sym, ◌∙◌}
use Rattle.std.specs.Prelude.{◌≡◌, refl}
use Rattle.parting.specs.Reading.{step}
use Rattle.turns.proofs.Loop.{go_end}
use Rattle.sister_answer.specs.Laws.{told_not_empty}
use Rattle.stream.specs.Stream.{handset}
use Rattle.stream.specs.Turns.{mark_not_empty, reply_not_empty, own_closes, go_quiet, go_loud, go_halt, same_core, fits_none, fits_open, turn_open, turn_skip, loud_esc, turn_quiet, loud_return, turn_over, turn_lost, in_place}
use Rattle.stream.proofs.read.Goals as goal

pub store_all-run-requires : goal.store_all-run-requires
store_all-run-requires c = let q = in_place c.loop-i.invariant.range in
    (rw (c.row_start-start.ensures.same, c.row_end-end.ensures.same) q, c.loop-i-test.true, c.if-b-ge-BLANK.true)

pub loop-i-preserved-then-b-ge-BLANK : goal.loop-i-preserved-then-b-ge-BLANK
loop-i-preserved-then-b-ge-BLANK c = let v = c.loop-i in c.store_all-run.ensures.1.goes c.if-state-eq-NO_FRAME.true (sym c.row_start-start.ensures.same) (sym c.row_end-end.ensures.same) refl v.invariant

pub loop-i-preserved-then-b-eq-ESCAPE : goal.loop-i-preserved-then-b-eq-ESCAPE
loop-i-preserved-then-b-eq-ESCAPE c = let v = c.loop-i in
    let z : v.len ≡ 0 = v.invariant.fits.none (λ e. omega (arith, c.if-state-eq-NO_FRAME.true)) in
    go_quiet v.invariant (omega arith) v.invariant.range (fits_open z v.invariant.fits) (turn_open v.settings v.text v.picture _ v.state v.len v.frame _ c.if-state-eq-NO_FRAME.true z c.if-b-eq-ESCAPE.true)

pub loop-i-preserved-then-state-eq-NO_FRAME : goal.loop-i-preserved-then-state-eq-NO_FRAME
loop-i-preserved-then-state-eq-NO_FRAME c = let v = c.loop-i in
    go_quiet v.invariant (omega arith) v.invariant.range v.invariant.fits (turn_skip v.settings v.text v.picture _ v.state v.len v.frame _ c.if-state-eq-NO_FRAME.true c.if-b-ge-BLANK.false c.if-b-eq-ESCAPE.false)

pub loop-i-preserved-then-w-told : goal.loop-i-preserved-then-w-told
loop-i-preserved-then-w-told c = let v = c.loop-i in
    go_loud v.invariant (let t = c.loop-i-test in omega arith) v.invariant.range (fits_none 1 v.frame (omega arith) v.invariant.fits.full) (loud_esc v.settings v.text v.picture _ v.state v.len v.frame _ c.if-state-eq-NO_FRAME.false c.if-b-eq-ESCAPE-2.true)
    c.mark-told.ensures.value c.mark-told.ensures.answers_after c.if-w-told.true

pub returns-else-w-told : goal.returns-else-w-told
returns-else-w-told c = let v = c.loop-i in
    record { account = go_halt v.invariant (let t = c.loop-i-test in omega arith) (loud_esc v.settings v.text v.picture _ v.state v.len v.frame _ c.if-state-eq-NO_FRAME.false c.if-b-eq-ESCAPE-2.true) (mark_not_empty v.edition.sister) c.mark-told.ensures.value c.mark-told.ensures.answers_after c.if-w-told.false; fits = v.invariant.fits }

pub loop-i-preserved-then-is_silence : goal.loop-i-preserved-then-is_silence
loop-i-preserved-then-is_silence c = let v = c.loop-i in
    let k = own_closes _ _ _ _ _ _ (sym c.closes_own.ensures ∙ c.if-closes_own.true) _ _ _ c.obey_own_frame-hers.ensures.obeys in
    go_quiet v.invariant (let t = c.loop-i-test in omega arith) (k.range v.invariant.range) (fits_none 0 v.frame (omega arith) v.invariant.fits.full)
    (turn_quiet v.settings v.text v.picture _ v.state v.len v.frame _ c.if-state-eq-NO_FRAME.false c.if-b-eq-CARRIAGE_RETURN.true k (sym c.is_silence.ensures.same ∙ c.if-is_silence.true))

pub loop-i-preserved-then-w-told-2 : goal.loop-i-preserved-then-w-told-2
loop-i-preserved-then-w-told-2 c = let v = c.loop-i in
    let k = own_closes _ _ _ _ _ _ (sym c.closes_own.ensures ∙ c.if-closes_own.true) _ _ _ c.obey_own_frame-hers.ensures.obeys in
    let loud = sym c.is_silence.ensures.same ∙ c.if-is_silence.false in
    go_loud v.invariant (let t = c.loop-i-test in omega arith) (k.range v.invariant.range) (fits_none 0 v.frame (omega arith) v.invariant.fits.full)
    (loud_return v.settings v.text v.picture _ v.state v.len v.frame _ c.if-state-eq-NO_FRAME.false c.if-b-eq-CARRIAGE_RETURN.true k loud) c.tell-told.ensures.same c.tell-told.ensures.buffer c.if-w-told-2.true

pub returns-else-w-told-2 : goal.returns-else-w-told-2
returns-else-w-told-2 c = let v = c.loop-i in
    let k = own_closes _ _ _ _ _ _ (sym c.closes_own.ensures ∙ c.if-closes_own.true) _ _ _ c.obey_own_frame-hers.ensures.obeys in
    let loud = sym c.is_silence.ensures.same ∙ c.if-is_silence.false in
    record { account = same_core (k.keeps loud) (go_halt v.invariant (let t = c.loop-i-test in omega arith) (loud_return v.settings v.text v.picture _ v.state v.len v.frame _ c.if-state-eq-NO_FRAME.false c.if-b-eq-CARRIAGE_RETURN.true k loud) (told_not_empty c.obey_own_frame-hers.result.told loud) c.tell-told.ensures.same c.tell-told.ensures.buffer c.if-w-told-2.false); fits = v.invariant.fits }

pub loop-i-preserved-then-is_silence-2 : goal.loop-i-preserved-then-is_silence-2
loop-i-preserved-then-is_silence-2 c = let v = c.loop-i in
    let k = c.close-o.ensures _ refl in
    go_quiet v.invariant (let t = c.loop-i-test in omega arith) (k.range v.invariant.range) (fits_none 0 v.frame (omega arith) v.invariant.fits.full)
    (turn_quiet v.settings v.text v.picture _ v.state v.len v.frame _ c.if-state-eq-NO_FRAME.false c.if-b-eq-CARRIAGE_RETURN.true k (sym c.is_silence-then-b-eq-CARRIAGE_RETURN.ensures.same ∙ c.if-is_silence-2.true))

pub loop-i-preserved-then-w-told-3 : goal.loop-i-preserved-then-w-told-3
loop-i-preserved-then-w-told-3 c = let v = c.loop-i in
    let k = c.close-o.ensures _ refl in
    let loud = sym c.is_silence-then-b-eq-CARRIAGE_RETURN.ensures.same ∙ c.if-is_silence-2.false in
    go_loud v.invariant (let t = c.loop-i-test in omega arith) (k.range v.invariant.range) (fits_none 0 v.frame (omega arith) v.invariant.fits.full)
    (loud_return v.settings v.text v.picture _ v.state v.len v.frame _ c.if-state-eq-NO_FRAME.false c.if-b-eq-CARRIAGE_RETURN.true k loud) c.reply-told.ensures.value c.reply-told.ensures.answers_after c.if-w-told-3.true

pub returns-else-w-told-3 : goal.returns-else-w-told-3
returns-else-w-told-3 c = let v = c.loop-i in
    let k = c.close-o.ensures _ refl in
    let loud = sym c.is_silence-then-b-eq-CARRIAGE_RETURN.ensures.same ∙ c.if-is_silence-2.false in
    record { account = same_core (k.keeps loud) (go_halt v.invariant (let t = c.loop-i-test in omega arith) (loud_return v.settings v.text v.picture _ v.state v.len v.frame _ c.if-state-eq-NO_FRAME.false c.if-b-eq-CARRIAGE_RETURN.true k loud) (reply_not_empty v.edition.sister _ _ c.close-o.result.answer loud) c.reply-told.ensures.value c.reply-told.ensures.answers_after c.if-w-told-3.false); fits = v.invariant.fits }

pub loop-i-preserved-then-state-eq-OVERLONG : goal.loop-i-preserved-then-state-eq-OVERLONG
loop-i-preserved-then-state-eq-OVERLONG c = let v = c.loop-i in
    go_quiet v.invariant (omega arith) v.invariant.range v.invariant.fits (turn_lost v.settings v.text v.picture _ v.state v.len v.frame _ c.if-state-eq-OVERLONG.true c.if-b-eq-ESCAPE-2.false c.if-b-eq-CARRIAGE_RETURN.false)

pub collect_run-more-requires : goal.collect_run-more-requires
collect_run-more-requires c = (c.loop-i.invariant.fits.full, c.if-len-lt-LONGEST_FRAME.true, c.loop-i-test.true, c.if-b-eq-ESCAPE-2.false, c.if-b-eq-CARRIAGE_RETURN.false)

pub loop-i-preserved-then-len-lt-LONGEST_FRAME : goal.loop-i-preserved-then-len-lt-LONGEST_FRAME
loop-i-preserved-then-len-lt-LONGEST_FRAME c = let v = c.loop-i in
    c.collect_run-more.ensures.1.goes (omega (arith, c.if-state-eq-OVERLONG.false, v.invariant.fits.known)) v.invariant

pub loop-i-preserved : goal.loop-i-preserved
loop-i-preserved c = let v = c.loop-i in
    let e : v.state ≡ 1 = omega (arith, v.invariant.fits.known) in
    go_quiet v.invariant (omega arith) v.invariant.range (fits_none 2 v.frame (omega arith) v.invariant.fits.full)
    (turn_over v.settings v.text v.picture _ v.state v.len v.frame _ v.invariant.fits e c.if-b-eq-ESCAPE-2.false c.if-b-eq-CARRIAGE_RETURN.false c.if-len-lt-LONGEST_FRAME.false)

pub returns-after-loop-i : goal.returns-after-loop-i
returns-after-loop-i c = let v = c.loop-i in record { account = go_end (step handset) v.invariant.account (omega arith); fits = v.invariant.fits }
