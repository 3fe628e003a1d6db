-- A FIELD BESIDE AN ORDER, of whichever edition: what it takes to say once that an order leaves a field alone, and what follows. Assumes
-- nothing.
use Rattle.std.specs.Prelude.{ℕ, Bool, true, false, cond, List, [], map, ◌≡◌, refl, get_or}
use Rattle.std.proofs.Common.{ap, sym, ◌∙◌}
use Rattle.lists.specs.Tests.{by_test, either_way}
use Rattle.record.specs.Core.{Core}
use Rattle.record.specs.Fields.{Field, number, read, put, all_fields, at_place}

-- what is said of an order: the fields that it may set and those that it touches; whether it is obeyed and what it does then
pub record Deed : Type 0 where
  pub sets : Field → Bool
  pub touches : Field → Bool
  pub inside : Core → Bool
  pub does : Core → Core

abbrev pub carried : Deed → Core → Core
carried o c = cond (o.inside c) (o.does c) c

-- A field beside an order: what stands in it, unless the order may set it; and, unless the order touches it, whether the order is
-- obeyed and what it does.
pub record Beside : Type 0 where
  pub stands : List ℕ
  pub inside : Bool
  pub does : Core

-- with other content put into the field after the order, and before it
abbrev pub put_after : Deed → List ℕ → Core → Field → Beside
put_after o v c f =
    record {
      stands = cond (o.sets f) [] (read f c);
      inside = cond (o.touches f) true (o.inside c);
      does = cond (o.touches f) c (put f v (o.does c));
    }

abbrev pub put_before : Deed → List ℕ → Core → Field → Beside
put_before o v c f =
    record {
      stands = cond (o.sets f) [] (read f (o.does c));
      inside = cond (o.touches f) true (o.inside (put f v c));
      does = cond (o.touches f) c (o.does (put f v c));
    }

-- for all fields at once: it makes no difference
abbrev pub NoDifference : Deed → Type 0
NoDifference o = (v : List ℕ) (c : Core) → map (put_before o v c) all_fields ≡ map (put_after o v c) all_fields

-- What two tables of all fields have for a field.
pub at_field : {A : Type 0} (g h : Field → A) (d : A) (f : Field) → map g all_fields ≡ map h all_fields → g f ≡ h f
at_field g h d f same = sym (at_place g d f) ∙ ap (λ (l : List _). get_or l (number f) d) same ∙ at_place h d f

module _ (o : Deed) (same : NoDifference o) where
  beside_at : (v : List ℕ) (c : Core) (f : Field) → put_before o v c f ≡ put_after o v c f
  beside_at v c f = at_field (put_before o v c) (put_after o v c) (record { stands = []; inside = true; does = c }) f (same v c)

  -- A field that an order may not set is as it was.
  pub field_stays : (f : Field) (c : Core) → o.sets f ≡ false → read f (carried o c) ≡ read f c
  field_stays f c h =
      either_way (λ (d : Core). read f d ≡ read f c) (o.inside c)
      (λ e. rw h at (ap (λ (b : Beside). b.stands) (beside_at [] c f))) (λ e. refl)

  -- An order goes the same way whatever stands in a field that it does not touch.
  pub field_apart : (f : Field) (v : List ℕ) (c : Core) → o.touches f ≡ false → carried o (put f v c) ≡ put f v (carried o c)
  field_apart f v c h =
      let inside : o.inside (put f v c) ≡ o.inside c = rw h at (ap (λ (b : Beside). b.inside) (beside_at v c f)) in
      by_test (o.inside c) (λ e. rw (inside, e) (rw h at (ap (λ (b : Beside). b.does) (beside_at v c f)))) (λ e. rw (inside, e))
