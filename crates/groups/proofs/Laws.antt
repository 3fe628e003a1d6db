-- ORDERS WITH NO GROUP IN COMMON: which comes first makes no difference, neither to the core nor to what each is answered.
-- What it speaks of is in specs/Laws.antt. Assumes nothing.
use Rattle.std.specs.Prelude.{ℕ, zero, suc, Bool, true, false, not, ◌&&◌, ◌||◌, List, [], ◌∷◌, ◌++◌, map, ◌≢◌, ◌≡◌, refl, eqb, leb}
use Rattle.std.proofs.Common.{arith, true≢false, ap, sym, ◌∙◌, subst, eqb-true, leb-true}
use Rattle.std.proofs.Math.Option.{some}
use Rattle.std.proofs.lemmas.Bool.{eqb-false}
use Rattle.lists.specs.Both.{both}
use Rattle.lists.specs.Tests.{by_test}
use Rattle.record.specs.Core.{Core}
use Rattle.record.specs.Fields.{Field, picture, number, among, all_fields, one_field}
use Rattle.command.specs.Order.{plain, label, draw}
use Rattle.effect.specs.Beside.{at_field}
use Rattle.effect.specs.Touched.{set_by, read_by}
use Rattle.sister_command.specs.Order.{AnyOrder, first, own}
use Rattle.sister_effect.specs.Obey.{carry_out_any, answers_to}
use Rattle.sister_effect.specs.Touched.{set_by_own, read_by_own, touches_any}
use Rattle.groups.specs.Groups.{Group, Screen, PictureRow, code, groups_at, every_row, rows_drawn, touched, groups_over, groups_of, belongs, none_in, none_in_common}
use Rattle.groups.specs.Putting.{Whole}
use Rattle.groups.specs.Commute.{set_by_any, Free, touches_set, commute, answered_after}
use Rattle.groups.specs.Pictures.{draws_commute, draws_nothing}
use Rattle.groups.specs.Laws.{Commutes, Draws, Fits, frame_of, no_frame_lem}

turned : {o p : AnyOrder} {c : Core} → Commutes o p c → Commutes p o c
turned w = record { same = sym w.same; one = w.other; other = w.one }

-- Lists of groups -----------------------------------------------------------------------------------------------------

in_front : (g : Group) (a b : List Group) → belongs g a ≡ true → belongs g (a ++ b) ≡ true
in_front g [] b h = absurd (true≢false (sym h))
in_front g (x ∷ a) b h = by_test (eqb (code g) (code x)) (λ e. rw e) (λ e. rw e (in_front g a b (rw e at h)))

behind : (g : Group) (a b : List Group) → belongs g b ≡ true → belongs g (a ++ b) ≡ true
behind g [] b h = h
behind g (x ∷ a) b h = by_test (eqb (code g) (code x)) (λ e. rw e) (λ e. rw e (behind g a b h))

-- a group of a field that is among those of an order is one of that order
of_field : (rows : List ℕ) (f : Field) (fs : List Field) (g : Group) → among f fs ≡ true → belongs g (groups_at rows f) ≡ true → belongs g (groups_over rows fs) ≡ true
of_field rows f [] g m h = absurd (true≢false (sym m))
of_field rows f (x ∷ fs) g m h =
    by_test (eqb (number f) (number x))
    (λ e. in_front g (groups_at rows x) (groups_over rows fs) (subst (λ (y : Field). belongs g (groups_at rows y) ≡ true) (one_field f x (eqb-true (number f) (number x) e)) h))
    (λ e. behind g (groups_at rows x) (groups_over rows fs) (of_field rows f fs g (rw e at m) h))

same_code : (g x : Group) (b : List Group) → code g ≡ code x → belongs g b ≡ belongs x b
same_code g x [] e = refl
same_code g x (y ∷ b) e = λ j. eqb (e j) (code y) || same_code g x b e j

not_both : (g : Group) (a b : List Group) → none_in a b ≡ true → belongs g a ≡ true → belongs g b ≡ true → ⊥
not_both g [] b none h k = true≢false (sym h)
not_both g (x ∷ a) b none h k =
    let parts = both {a = not (belongs x b)} none in
    by_test (eqb (code g) (code x))
    (λ e. true≢false (sym parts.0 ∙ ap not (sym (same_code g x b (eqb-true (code g) (code x) e)) ∙ k)))
    (λ e. not_both g a b parts.1 (rw e at h) k)

-- Fields --------------------------------------------------------------------------------------------------------------

-- Every field but the picture has a group that does not go by the rows.
abbrev is_picture : Field → Bool
is_picture f = eqb (number f) (number picture)

abbrev group_of : Field → Group
group_of f = first_of (groups_at [] f)
  where
    first_of : List Group → Group
    first_of [] = Screen
    first_of (g ∷ more) = g

has_groups : (rows : List ℕ) → map (λ (f : Field). is_picture f || belongs (group_of f) (groups_at rows f)) all_fields ≡ map (λ (f : Field). true) all_fields
unfolding all_fields
has_groups rows = refl

has_group : (rows : List ℕ) (f : Field) → is_picture f ≡ false → belongs (group_of f) (groups_at rows f) ≡ true
has_group rows f e =
    rw e at (at_field (λ (x : Field). is_picture x || belongs (group_of x) (groups_at rows x)) (λ (x : Field). true) true f (has_groups rows))

among_both : (f : Field) (a b : List Field) → among f (a ++ b) ≡ (among f a || among f b)
among_both f [] b = refl
among_both f (x ∷ a) b = by_test (eqb (number f) (number x)) (λ e. rw e) (λ e. rw e (among_both f a b))

touched_is : (o : AnyOrder) (f : Field) → among f (touched o) ≡ touches_any o f
touched_is (first o) f = among_both f (set_by o) (read_by o)
touched_is (own command) f = among_both f (set_by_own command) (read_by_own command)

module _ (o p : AnyOrder) (none : none_in_common o p ≡ true) where
  -- both touch the picture, or no field is touched by both
  only_picture : (f : Field) → touches_any o f ≡ true → touches_any p f ≡ true → f ≡ picture
  only_picture f a b =
      by_test (is_picture f) (λ e. one_field f picture (eqb-true (number f) (number picture) e))
      (λ e. absurd (not_both (group_of f) (groups_of o) (groups_of p) none
      (of_field (rows_drawn o) f (touched o) (group_of f) (touched_is o f ∙ a) (has_group (rows_drawn o) f e))
      (of_field (rows_drawn p) f (touched p) (group_of f) (touched_is p f ∙ b) (has_group (rows_drawn p) f e))))

  none_touched : (touches_any o picture && touches_any p picture) ≡ false → (f : Field) → touches_any o f ≡ true → touches_any p f ≡ true → ⊥
  none_touched apart f a b = true≢false (rw (a, b) at (ap (λ (x : Field). touches_any o x && touches_any p x) (only_picture f a b)) ∙ apart)

-- Picture frames ------------------------------------------------------------------------------------------------------

drawing : (o : AnyOrder) → Draws o
drawing (first (plain command)) = no_frame_lem refl
drawing (first (label side codes)) = no_frame_lem refl
drawing (first (draw m a)) = frame_of m a
drawing (own command) = no_frame_lem refl

listed : (m : ℕ) → leb m 6 ≡ true → belongs (PictureRow m) (map PictureRow every_row) ≡ true
listed zero h = refl
listed (suc zero) h = refl
listed (suc (suc zero)) h = refl
listed (suc (suc (suc zero))) h = refl
listed (suc (suc (suc (suc zero)))) h = refl
listed (suc (suc (suc (suc (suc zero))))) h = refl
listed (suc (suc (suc (suc (suc (suc zero)))))) h = refl
listed (suc (suc (suc (suc (suc (suc (suc m))))))) h = absurd (omega (arith, leb-true (suc (suc (suc (suc (suc (suc (suc m))))))) 6 h))

-- One of row 7 to 9 goes with any order.
idle : (m : ℕ) (a : List ℕ) (p : AnyOrder) (c : Core) → leb m 6 ≡ false → Commutes (first (draw m a)) p c
idle m a p c h =
    record {
      same = draws_nothing m a (carry_out_any p c) h ∙ sym (ap (carry_out_any p) (draws_nothing m a c h));
      one = refl;
      other = ap (λ (x : Core). answers_to x (some p)) (draws_nothing m a c h);
    }

itself : (m : ℕ) (b : List Group) → belongs (PictureRow m) (PictureRow m ∷ b) ≡ true
itself m b = by_test (eqb (code (PictureRow m)) (code (PictureRow m))) (λ e. rw e) (λ e. absurd (eqb-false (code (PictureRow m)) (code (PictureRow m)) e refl))

-- a row that an order draws is one of its groups
drawn_row_lem : (o : AnyOrder) (m : ℕ) → touches_any o picture ≡ true → belongs (PictureRow m) (map PictureRow (rows_drawn o)) ≡ true → belongs (PictureRow m) (groups_of o) ≡ true
drawn_row_lem o m t h = of_field (rows_drawn o) picture (touched o) (PictureRow m) (touched_is o picture ∙ t) h

module _ (c : Core) where
  pictures : (o p : AnyOrder) → none_in_common o p ≡ true → Fits o → Fits p → touches_any o picture ≡ true → touches_any p picture ≡ true → Draws o → Draws p → Commutes o p c
  pictures o p none fo fp to tp (no_frame_lem eo) (no_frame_lem ep) =
      absurd (not_both (PictureRow 0) (groups_of o) (groups_of p) none (drawn_row_lem o 0 to (rw eo)) (drawn_row_lem p 0 tp (rw ep)))
  pictures o p none fo fp to tp (frame_of m a) (no_frame_lem ep) =
      by_test (leb m 6)
      (λ e. absurd (not_both (PictureRow m) (groups_of (first (draw m a))) (groups_of p) none (drawn_row_lem (first (draw m a)) m refl (rw e (itself m []))) (drawn_row_lem p m tp (rw ep (listed m e)))))
      (λ e. idle m a p c e)
  pictures o p none fo fp to tp (no_frame_lem eo) (frame_of n b) =
      by_test (leb n 6)
      (λ e. absurd (not_both (PictureRow n) (groups_of o) (groups_of (first (draw n b))) none (drawn_row_lem o n to (rw eo (listed n e))) (drawn_row_lem (first (draw n b)) n refl (rw e (itself n [])))))
      (λ e. turned (idle n b o c e))
  pictures o p none fo fp to tp (frame_of m a) (frame_of n b) =
      by_test (leb m 6)
      (λ e. by_test (leb n 6)
      (λ f.
      let differ : m ≢ n = λ q. not_both (PictureRow m) (groups_of (first (draw m a))) (groups_of (first (draw n b))) none (drawn_row_lem (first (draw m a)) m refl (rw e (itself m []))) (drawn_row_lem (first (draw n b)) m refl (rw (q, f) (itself n []))) in
      record { same = draws_commute m n a b c differ fo fp; one = refl; other = refl })
      (λ f. turned (idle n b (first (draw m a)) c f)))
      (λ e. idle m a (first (draw n b)) c e)

  -- ORDER DOES NOT MATTER between orders with no group in common.
  pub order_does_not_matter : (o p : AnyOrder) → none_in_common o p ≡ true → Fits o → Fits p → Whole c → Whole (carry_out_any o c) → Whole (carry_out_any p c) → Commutes o p c
  order_does_not_matter o p none fo fp w wo wp =
      by_test (touches_any o picture && touches_any p picture)
      (λ e. let each = both {a = touches_any o picture} e in pictures o p none fo fp each.0 each.1 (drawing o) (drawing p))
      (λ e.
      let never = none_touched o p none e in
      let one : Free o (set_by_any p) = λ f h. by_test (touches_any o f) (λ t. absurd (never f t (touches_set p f h))) (λ t. t) in
      let other : Free p (set_by_any o) = λ f h. by_test (touches_any p f) (λ t. absurd (never f (touches_set o f h) t)) (λ t. t) in
      record {
        same = commute o p c one other w wo wp;
        one = answered_after o p c one w wp;
        other = answered_after p o c other w wo;
      })
