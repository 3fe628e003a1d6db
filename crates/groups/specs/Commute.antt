-- ORDERS WITH NO FIELD IN COMMON: which comes first makes no difference, neither to the core nor to what each is answered. Assumes nothing.
use Rattle.std.specs.Prelude.{ℕ, true, false, List, [], ◌∷◌, ◌≡◌, refl, eqb}
use Rattle.std.proofs.Common.{true≢false, ap, sym, ◌∙◌}
use Rattle.std.proofs.Math.Option.{some}
use Rattle.std.proofs.lemmas.Bool.{eqb-false}
use Rattle.lists.specs.Tests.{by_test}
use Rattle.record.specs.Core.{Core}
use Rattle.record.specs.Fields.{Field, number, read, put, among, fields_are_all}
use Rattle.effect.specs.Touched.{set_by}
use Rattle.effect.proofs.Untouched.{said_apart}
use Rattle.sister_answer.specs.Told.{told_bytes}
use Rattle.sister_command.specs.Order.{AnyOrder, first, own}
use Rattle.sister_effect.specs.Obey.{carry_out_any, answers_to}
use Rattle.sister_effect.specs.Touched.{set_by_own, sets_any, touches_any}
use Rattle.sister_effect.specs.Untouched.{stays_any, apart_any, told_apart}
use Rattle.groups.specs.Putting.{Whole, all_like, all_like_read}

abbrev pub set_by_any : AnyOrder → List Field
set_by_any (first o) = set_by o
set_by_any (own command) = set_by_own command

-- the order touches none of these fields
abbrev pub Free : AnyOrder → List Field → Type 0
Free o fs = (f : Field) → among f fs ≡ true → touches_any o f ≡ false

among_first : (f : Field) (fs : List Field) → among f (f ∷ fs) ≡ true
among_first f fs = by_test (eqb (number f) (number f)) (λ e. rw e) (λ e. absurd (eqb-false (number f) (number f) e refl))

among_more : (g f : Field) (fs : List Field) → among g fs ≡ true → among g (f ∷ fs) ≡ true
among_more g f fs h = by_test (eqb (number g) (number f)) (λ e. rw e) (λ e. rw e h)

free_more : (o : AnyOrder) (f : Field) (fs : List Field) → Free o (f ∷ fs) → Free o fs
free_more o f fs free g h = free g (among_more g f fs h)

-- What stands in fields that an order does not touch makes no difference to what it does,
carry_like : (o : AnyOrder) (fs : List Field) (d c : Core) → Free o fs → carry_out_any o (all_like fs d c) ≡ all_like fs d (carry_out_any o c)
carry_like o [] d c free = refl
carry_like o (f ∷ fs) d c free =
    apart_any o f (read f d) (all_like fs d c) (free f (among_first f fs)) ∙ ap (put f (read f d)) (carry_like o fs d c (free_more o f fs free))

-- nor to what it is answered.
answer_apart : (o : AnyOrder) (f : Field) (v : List ℕ) (c : Core) → touches_any o f ≡ false → answers_to (put f v c) (some o) ≡ answers_to c (some o)
answer_apart (first o) f v c h = said_apart o f v c h
answer_apart (own command) f v c h = ap told_bytes (told_apart command f v c h)

answer_like : (o : AnyOrder) (fs : List Field) (d c : Core) → Free o fs → answers_to (all_like fs d c) (some o) ≡ answers_to c (some o)
answer_like o [] d c free = refl
answer_like o (f ∷ fs) d c free =
    answer_apart o f (read f d) (all_like fs d c) (free f (among_first f fs)) ∙ answer_like o fs d c (free_more o f fs free)

-- An order has set the fields that it may set, and no other.
set_by_any_lem : (o : AnyOrder) (f : Field) → sets_any o f ≡ among f (set_by_any o)
set_by_any_lem (first o) f = refl
set_by_any_lem (own command) f = refl

only_set : (o : AnyOrder) (c : Core) → Whole c → Whole (carry_out_any o c) → carry_out_any o c ≡ all_like (set_by_any o) (carry_out_any o c) c
only_set o c h k =
    fields_are_all _ _ (λ g. by_test (among g (set_by_any o))
    (λ e. sym (all_like_read (set_by_any o) g (carry_out_any o c) c h k ∙ rw e))
    (λ e. stays_any o g c (set_by_any_lem o g ∙ e) ∙ sym (all_like_read (set_by_any o) g (carry_out_any o c) c h k ∙ rw e)))

module _ (o p : AnyOrder) (c : Core) (free : Free o (set_by_any p)) (w : Whole c) (wp : Whole (carry_out_any p c)) where
  -- so after an order that sets nothing that it touches it does and is answered as before it
  pub carried_after : carry_out_any o (carry_out_any p c) ≡ all_like (set_by_any p) (carry_out_any p c) (carry_out_any o c)
  carried_after = ap (carry_out_any o) (only_set p c w wp) ∙ carry_like o (set_by_any p) (carry_out_any p c) c free

  pub answered_after : answers_to (carry_out_any p c) (some o) ≡ answers_to c (some o)
  answered_after = ap (λ (x : Core). answers_to x (some o)) (only_set p c w wp) ∙ answer_like o (set_by_any p) (carry_out_any p c) c free

-- an order touches what it sets
pub touches_set : (o : AnyOrder) (f : Field) → among f (set_by_any o) ≡ true → touches_any o f ≡ true
touches_set (first o) f h = rw h
touches_set (own command) f h = rw h

-- ORDER DOES NOT MATTER where neither touches what the other sets.
pub commute : (o p : AnyOrder) (c : Core) → Free o (set_by_any p) → Free p (set_by_any o) → Whole c → Whole (carry_out_any o c) → Whole (carry_out_any p c)
    → carry_out_any o (carry_out_any p c) ≡ carry_out_any p (carry_out_any o c)
commute o p c a b w wo wp = carried_after o p c a w wp ∙ fields_are_all _ _ same ∙ sym (carried_after p o c b w wo)
  where
    same : (g : Field) → read g (all_like (set_by_any p) (carry_out_any p c) (carry_out_any o c)) ≡ read g (all_like (set_by_any o) (carry_out_any o c) (carry_out_any p c))
    same g =
        let one = all_like_read (set_by_any p) g (carry_out_any p c) (carry_out_any o c) wo wp in
        let other = all_like_read (set_by_any o) g (carry_out_any o c) (carry_out_any p c) wp wo in
        by_test (among g (set_by_any p))
        (λ e. by_test (among g (set_by_any o))
        (λ f. absurd (true≢false (sym (touches_set o g f) ∙ a g e)))
        (λ f. one ∙ rw e (sym (other ∙ rw f))))
        (λ e. by_test (among g (set_by_any o))
        (λ f. one ∙ rw e (sym (other ∙ rw f)))
        (λ f. one ∙ rw e (stays_any o g c (set_by_any_lem o g ∙ f) ∙ sym (stays_any p g c (set_by_any_lem p g ∙ e)) ∙ sym (other ∙ rw f))))
