-- What a verdict says, by the grammar and the ranges alone; it says this of every frame in every text mode, and no other verdict would.
-- In either edition the same, by the record's state too, and that what it says comes true. Assumes nothing.
use Rattle.std.specs.Prelude.{ℕ, Bool, true, false, cond, List, [], ◌≡◌, refl, Option as Maybe, Some, None}
use Rattle.std.proofs.Common.{true≢false, sym, ap, ◌∙◌}
use Rattle.std.proofs.Math.Option.{Option, none, some}
use Rattle.command.specs.Order.{Order}
use Rattle.command.specs.Grammar.{Spells}
use Rattle.command.specs.InRange.{Judged, rows_named, all_in, first_out, order_numbers, in_range_in_mode}
use Rattle.command.specs.Judged.{none_out, one_out}
use Rattle.command.specs.Reading.{order_of}
use Rattle.command.proofs.Agree.{agree, bad_frame}
use Rattle.lists.specs.Tests.{by_test}
use Rattle.record.specs.Core.{Core}
use Rattle.answer.specs.declared.Answer.{Answer}
use Rattle.answer.specs.Answers.{answer_bytes}
use Rattle.sister_answer.specs.Told.{told_bytes, is_silence}
use Rattle.effect.specs.Effect.{effect, carry_out}
use Rattle.effect.specs.Questions.{passed_over_silent}
use Rattle.sister_command.specs.Order.{AnyOrder, first, own}
use Rattle.sister_command.specs.Grammar.{SpellsIn}
use Rattle.sister_command.specs.InRange.{any_in_range}
use Rattle.sister_command.specs.Reading.{as_first, order_in}
use Rattle.sister_command.proofs.Agree.{agree_in, bad_frame_in}
use Rattle.sister_effect.specs.Effect.{own_effect, refused_now}
use Rattle.sister_effect.specs.Obey.{carry_out_any, obey_any, mark_of, answers_to}
use Rattle.sister_effect.specs.Questions.{own_obeyed, own_refused, own_passed_over, passed_over_untold}
use Rattle.verdict.specs.declared.Verdict.{Verdict}
use Rattle.verdict.specs.declared.Verdict.TheVariants.{Bad, PassedOver, Obeyed, Refused}
use Rattle.verdict.specs.Verdict.{by_number, by_order, verdict_of, any_numbers, refused_in, by_any, verdict_in}

-- the numbers of an order, each with its range in a text mode
abbrev pub numbers_in : ℕ → Order → List Judged
numbers_in mode order = order_numbers (rows_named mode) order

-- bad: no order is spelt; else one is, and its numbers decide; the first edition's record refuses none
abbrev pub Tells : ℕ → List ℕ → Verdict → Type 0
Tells mode frame Bad = (o : Order) → Spells o frame → ⊥
Tells mode frame (PassedOver n) = (o : Order) × Spells o frame × (in_range_in_mode mode o ≡ false) × (first_out (numbers_in mode o) ≡ Some n)
Tells mode frame Obeyed = (o : Order) × Spells o frame × (in_range_in_mode mode o ≡ true)
Tells mode frame Refused = ⊥

-- The verdict of a frame that spells an order.
pub of_order : (mode : ℕ) {frame : List ℕ} (o : Order) → Spells o frame → verdict_of mode frame ≡ by_number (first_out (numbers_in mode o))
unfolding verdict_of
of_order mode {frame} o s = ap (by_order mode) ((agree o frame).1 s)

-- The verdict of one that spells none.
pub of_none : (mode : ℕ) {frame : List ℕ} → ((o : Order) → Spells o frame → ⊥) → verdict_of mode frame ≡ Bad
unfolding verdict_of
of_none mode {frame} bad = ap (by_order mode) ((bad_frame frame).1 bad)

none_told : (ns : List Judged) → all_in ns ≡ true → first_out ns ≡ None
none_told ns h = cases (first_out ns) refl
  where
    cases : (out : Maybe ℕ) → first_out ns ≡ out → first_out ns ≡ None
    cases None e = e
    cases (Some n) e = absurd (true≢false (sym h ∙ one_out ns e))

-- THE VERDICT TELLS
pub tells : (mode : ℕ) (frame : List ℕ) → Tells mode frame (verdict_of mode frame)
unfolding verdict_of
tells mode frame = cases (order_of frame) refl
  where
    judged : (o : Order) → Spells o frame → (out : Maybe ℕ) → first_out (numbers_in mode o) ≡ out → Tells mode frame (by_number out)
    judged o s None e = (o, s, none_out (numbers_in mode o) e)
    judged o s (Some n) e = (o, s, one_out (numbers_in mode o) e, e)

    cases : (found : Option Order) → order_of frame ≡ found → Tells mode frame (by_order mode found)
    cases none e = (bad_frame frame).0 e
    cases (some o) e = judged o ((agree o frame).0 e) (first_out (numbers_in mode o)) refl

-- AND ONLY ONE DOES
pub only : (mode : ℕ) (frame : List ℕ) (v : Verdict) → Tells mode frame v → v ≡ verdict_of mode frame
only mode frame Bad bad = sym (of_none mode bad)
only mode frame (PassedOver n) told = sym (of_order mode told.0 told.1 ∙ ap by_number told.3)
only mode frame Obeyed told = sym (of_order mode told.0 told.1 ∙ ap by_number (none_told (numbers_in mode told.0) told.2))
only mode frame Refused told = absurd told

-- EITHER EDITION -------------------------------------------------------------------------------------------------------

-- bad: no order is spelt; refused: one is, and the record's state refuses it; else its numbers decide
abbrev pub TellsIn : Core → List ℕ → Verdict → Type 0
TellsIn c frame Bad = (o : AnyOrder) → SpellsIn c.edition.sister o frame → ⊥
TellsIn c frame (PassedOver n) = (o : AnyOrder) × SpellsIn c.edition.sister o frame × (any_in_range c.settings.screen.mode o ≡ false) × (first_out (any_numbers c.settings.screen.mode o) ≡ Some n)
TellsIn c frame Obeyed = (o : AnyOrder) × SpellsIn c.edition.sister o frame × (any_in_range c.settings.screen.mode o ≡ true) × (refused_in c o ≡ false)
TellsIn c frame Refused = (o : AnyOrder) × SpellsIn c.edition.sister o frame × (refused_in c o ≡ true)

all_any : (mode : ℕ) (o : AnyOrder) → any_in_range mode o ≡ all_in (any_numbers mode o)
all_any mode (first o) = refl
all_any mode (own x) = refl

-- WHAT IS REFUSED HAS NO NUMBER OUT OF RANGE: the two verdicts never meet.
pub out_not_refused : (c : Core) (o : AnyOrder) → any_in_range c.settings.screen.mode o ≡ false → refused_in c o ≡ false
out_not_refused c (first o) h = refl
out_not_refused c (own x) h = by_test (refused_now x c) (λ k. absurd (true≢false (sym (ap is_silence (rw k at (passed_over_untold x c h)))))) (λ k. k)

-- The verdict of a frame that spells an order.
pub of_any : (c : Core) {frame : List ℕ} (o : AnyOrder) → SpellsIn c.edition.sister o frame → verdict_in c frame ≡ by_any c (some o)
unfolding verdict_in
of_any c {frame} o s = ap (by_any c) ((agree_in c.edition.sister o frame).1 s)

-- THE VERDICT TELLS
pub tells_in : (c : Core) (frame : List ℕ) → TellsIn c frame (verdict_in c frame)
unfolding verdict_in
tells_in c frame = cases (order_in c.edition.sister frame) refl
  where
    judged : (o : AnyOrder) → SpellsIn c.edition.sister o frame → (refused : Bool) → refused_in c o ≡ refused → (out : Maybe ℕ) → first_out (any_numbers c.settings.screen.mode o) ≡ out → TellsIn c frame (cond refused Refused (by_number out))
    judged o s true k out e = (o, s, k)
    judged o s false k None e = (o, s, all_any c.settings.screen.mode o ∙ none_out (any_numbers c.settings.screen.mode o) e, k)
    judged o s false k (Some n) e = (o, s, all_any c.settings.screen.mode o ∙ one_out (any_numbers c.settings.screen.mode o) e, e)

    cases : (found : Option AnyOrder) → order_in c.edition.sister frame ≡ found → TellsIn c frame (by_any c found)
    cases none e = (bad_frame_in c.edition.sister frame).0 e
    cases (some o) e = judged o ((agree_in c.edition.sister o frame).0 e) (refused_in c o) refl (first_out (any_numbers c.settings.screen.mode o)) refl

-- AND ONLY ONE DOES
pub only_in : (c : Core) (frame : List ℕ) (v : Verdict) → TellsIn c frame v → v ≡ verdict_in c frame
unfolding verdict_in
only_in c frame Bad bad = sym (ap (by_any c) ((bad_frame_in c.edition.sister frame).1 bad))
only_in c frame (PassedOver n) told = sym (of_any c told.0 told.1 ∙ rw (out_not_refused c told.0 told.2, told.3))
only_in c frame Obeyed told =
    let none : first_out (any_numbers c.settings.screen.mode told.0) ≡ None = none_told (any_numbers c.settings.screen.mode told.0) (sym (all_any c.settings.screen.mode told.0) ∙ told.2) in
    sym (of_any c told.0 told.1 ∙ rw (told.3, none))
only_in c frame Refused told = sym (of_any c told.0 told.1 ∙ rw told.2)

-- IN THE FIRST EDITION it is the verdict in the record's text mode.
pub by_first : (c : Core) (found : Option Order) → by_order c.settings.screen.mode found ≡ by_any c (as_first found)
by_first c none = refl
by_first c (some o) = refl

pub first_edition : (c : Core) (frame : List ℕ) → c.edition.sister ≡ false → verdict_in c frame ≡ verdict_of c.settings.screen.mode frame
unfolding verdict_of verdict_in
first_edition c frame h = ap (λ (sister : Bool). by_any c (order_in sister frame)) h ∙ sym (by_first c (order_of frame))

-- WHAT THE VERDICT SAYS COMES TRUE -------------------------------------------------------------------------------------

abbrev pub effect_in : AnyOrder → Core → Core
effect_in (first o) c = effect o c
effect_in (own x) c = own_effect x c

-- what the frame does and is answered: a bad one and a refused one the mark, one that is passed over nothing, and none of them changes
-- anything
abbrev pub ComesTrue : Core → List ℕ → Verdict → Type 0
ComesTrue c frame Bad = (obey_any c (order_in c.edition.sister frame) ≡ c) × (answers_to c (order_in c.edition.sister frame) ≡ mark_of c.edition.sister)
ComesTrue c frame (PassedOver n) = (obey_any c (order_in c.edition.sister frame) ≡ c) × (answers_to c (order_in c.edition.sister frame) ≡ [])
ComesTrue c frame Obeyed = (o : AnyOrder) × SpellsIn c.edition.sister o frame × (obey_any c (order_in c.edition.sister frame) ≡ effect_in o c)
ComesTrue c frame Refused = (obey_any c (order_in c.edition.sister frame) ≡ c) × (answers_to c (order_in c.edition.sister frame) ≡ mark_of true)

obeyed_any : (c : Core) (o : AnyOrder) → any_in_range c.settings.screen.mode o ≡ true → refused_in c o ≡ false → carry_out_any o c ≡ effect_in o c
unfolding carry_out
obeyed_any c (first o) h k = rw h
obeyed_any c (own x) h k = own_obeyed x c h k

passed_over_any : (c : Core) (o : AnyOrder) → any_in_range c.settings.screen.mode o ≡ false → (carry_out_any o c ≡ c) × (answers_to c (some o) ≡ [])
unfolding carry_out
passed_over_any c (first o) h = (rw h, ap (λ (a : Answer). answer_bytes a c.settings.contrast c.settings.hook) (passed_over_silent o c.settings.screen.mode h))
passed_over_any c (own x) h = (own_passed_over x c h, ap told_bytes (passed_over_untold x c h))

refused_any : (c : Core) (o : AnyOrder) → refused_in c o ≡ true → (carry_out_any o c ≡ c) × (answers_to c (some o) ≡ mark_of true)
refused_any c (first o) k = absurd (true≢false (sym k))
refused_any c (own x) k = (own_refused x c k, rw k)

pub comes_true : (c : Core) (frame : List ℕ) → ComesTrue c frame (verdict_in c frame)
comes_true c frame = becomes (verdict_in c frame) (tells_in c frame)
  where
    -- what is found is the order that is spelt
    as_found : (o : AnyOrder) → SpellsIn c.edition.sister o frame → {after : Core} {answer : List ℕ} → (carry_out_any o c ≡ after) × (answers_to c (some o) ≡ answer) → (obey_any c (order_in c.edition.sister frame) ≡ after) × (answers_to c (order_in c.edition.sister frame) ≡ answer)
    as_found o s w = let e = (agree_in c.edition.sister o frame).1 s in (ap (obey_any c) e ∙ w.0, ap (answers_to c) e ∙ w.1)

    becomes : (v : Verdict) → TellsIn c frame v → ComesTrue c frame v
    becomes Bad bad = let e = (bad_frame_in c.edition.sister frame).1 bad in (ap (obey_any c) e, ap (answers_to c) e)
    becomes (PassedOver n) told = as_found told.0 told.1 (passed_over_any c told.0 told.2)
    becomes Obeyed told = (told.0, told.1, (as_found told.0 told.1 (obeyed_any c told.0 told.2 told.3, refl)).0)
    becomes Refused told = as_found told.0 told.1 (refused_any c told.0 told.2)
