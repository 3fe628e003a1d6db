-- What stands in each field once one is as in another core. Assumes nothing.
use Rattle.std.specs.Prelude.{ℕ, cond, List, [], ◌∷◌, ◌++◌, map, ◌≡◌, refl, eqb, length, take, drop}
use Rattle.std.proofs.Common.{arith, ap, sym, ◌∙◌, length-drop, length-append, length-take-le, eqb-true}
use Rattle.std.proofs.Math.Seq.{take-append_seam, drop-append_seam}
use Rattle.std.proofs.lemmas.Bool.{eqb-false}
use Rattle.lists.specs.Tests.{by_test}
use Rattle.record.specs.Range.{line_start, text_of, line_of}
use Rattle.record.specs.Core.{Core}
use Rattle.record.specs.Fields.{Field, number, read, put, among, all_fields, flag_read, flags_read}
use Rattle.effect.specs.Beside.{at_field}

-- the text has its five rows and its line
abbrev pub Whole : Core → Type 0
Whole c = length c.text ≡ 104

rows_of : (a b : List ℕ) → length a ≡ 104 → text_of (text_of a ++ line_of b) ≡ text_of a
rows_of a b h =
    let e : length (take line_start a) ≡ 80 = length-take-le line_start a (omega arith) in
    ap (λ (n : ℕ). take n (take line_start a ++ drop line_start b)) (sym e) ∙ take-append_seam (take line_start a) (drop line_start b)

line_of_lem : (a b : List ℕ) → length a ≡ 104 → line_of (text_of a ++ line_of b) ≡ line_of b
line_of_lem a b h =
    let e : length (take line_start a) ≡ 80 = length-take-le line_start a (omega arith) in
    ap (λ (n : ℕ). drop n (take line_start a ++ drop line_start b)) (sym e) ∙ drop-append_seam (take line_start a) (drop line_start b)

-- a field as in another core
abbrev pub like : Field → Core → Core → Core
like f d c = put f (read f d) c

abbrev wanted : Field → Core → Core → Field → List ℕ
wanted f d c g = cond (eqb (number f) (number g)) (read g d) (read g c)

-- for all fields at once
all_read : (d c : Core) → Whole c → Whole d → map (λ (f : Field). map (λ (g : Field). read g (like f d c)) all_fields) all_fields ≡ map (λ (f : Field). map (wanted f d c) all_fields) all_fields
unfolding all_fields
all_read d c h k =
    simp (flag_read, flags_read, rows_of d.text c.text k, line_of_lem d.text c.text k, rows_of c.text d.text h, line_of_lem c.text d.text h)

pub like_read : (f g : Field) (d c : Core) → Whole c → Whole d → read g (like f d c) ≡ wanted f d c g
like_read f g d c h k =
    at_field (λ (x : Field). read x (like f d c)) (wanted f d c) [] g
    (at_field (λ (x : Field). map (λ (y : Field). read y (like x d c)) all_fields) (λ (x : Field). map (wanted x d c) all_fields) [] f (all_read d c h k))

-- The text stays whole: only two of the fields stand in it.
rows_whole : (a b : List ℕ) → length a ≡ 104 → length b ≡ 104 → length (text_of a ++ line_of b) ≡ 104
rows_whole a b h k =
    length-append (take line_start a) (drop line_start b) ∙ omega (arith, length-take-le line_start a (omega arith), length-drop line_start b)

all_whole_like : (d c : Core) → Whole c → Whole d → map (λ (f : Field). length (like f d c).text) all_fields ≡ map (λ (f : Field). 104) all_fields
unfolding all_fields
all_whole_like d c h k = simp (rows_whole d.text c.text k h, rows_whole c.text d.text h k, h)

pub like_whole : (f : Field) (d c : Core) → Whole c → Whole d → Whole (like f d c)
like_whole f d c h k = at_field (λ (x : Field). length (like x d c).text) (λ (x : Field). 104) 104 f (all_whole_like d c h k)

-- several fields as in another core
abbrev pub all_like : List Field → Core → Core → Core
all_like [] d c = c
all_like (f ∷ more) d c = like f d (all_like more d c)

pub all_whole : (fs : List Field) (d c : Core) → Whole c → Whole d → Whole (all_like fs d c)
all_whole [] d c h k = h
all_whole (f ∷ more) d c h k = like_whole f d (all_like more d c) (all_whole more d c h k) k

same_number : (a b : ℕ) → eqb a b ≡ eqb b a
same_number a b =
    by_test (eqb b a) (λ e. rw (eqb-true b a e)) (λ e. by_test (eqb a b) (λ x. absurd (eqb-false b a e (sym (eqb-true a b x)))) (λ x. x ∙ sym e))

-- these have what stands in the other, and all others what stood in them.
pub all_like_read : (fs : List Field) (g : Field) (d c : Core) → Whole c → Whole d → read g (all_like fs d c) ≡ cond (among g fs) (read g d) (read g c)
all_like_read [] g d c h k = refl
all_like_read (f ∷ more) g d c h k =
    like_read f g d (all_like more d c) (all_whole more d c h k) k
    ∙ by_test (eqb (number g) (number f)) (λ e. rw (same_number (number f) (number g), e)) (λ e. rw (same_number (number f) (number g), e) (all_like_read more g d c h k))
