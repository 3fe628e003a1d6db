-- The computed parting is one, and there is no other.
-- What it speaks of is in specs/Cut.antt. Assumes nothing.
use Rattle.std.specs.Prelude.{ℕ, ◌≤◌, ◌<◌, ◌≡◌, eqb, leb}
use Rattle.std.proofs.Common.{arith, ◌∙◌}
use Rattle.std.proofs.Math.Path.{refl, sym, ap}
use mathlib.Core.List.{List, [], ◌∷◌, ◌++◌, append_assoc, append-nil}
use borrow.Author.Tests.{eqb-true, eqb-false, leb-true, leb-false, ne_eqb, le-leb, lt-leb}
use Rattle.lists.specs.Codes.{escape, carriage_return, blank}
use Rattle.lists.specs.Tests.{by_test}
use Rattle.parting.specs.Rules.{Plain, Body, empty, collect, Part, text, skipped, closed, abandoned, Lawful, bytes_of, opens, MayFollow, Parted, then, Parting, ends, waits, goes_on}
use Rattle.parting.specs.Cut.{Side, Fine, front, cut, Outside, Inside, outside, inside, opening, letter, skipping, abandoning, closing, collecting}

pub outside_of : (b : ℕ) → Outside b
outside_of b =
    by_test (eqb b escape) (λ e. opening (eqb-true b escape e))
    (λ n. by_test (leb blank b) (λ l. letter (leb-true blank b l)) (λ l. skipping (leb-false blank b l) (eqb-false b escape n)))

pub inside_of : (b : ℕ) → Inside b
inside_of b =
    by_test (eqb b escape) (λ e. abandoning (eqb-true b escape e))
    (λ n. by_test (eqb b carriage_return) (λ e. closing (eqb-true b carriage_return e))
    (λ m. collecting (record { not_escape = eqb-false b escape n; not_return = eqb-false b carriage_return m })))

-- what the computed parting does with each
module _ (b : ℕ) (rest : List ℕ) where
  pub cut_opening : b ≡ escape → cut outside (b ∷ rest) ≡ cut (inside []) rest
  unfolding cut
  cut_opening e = rw e

  pub cut_letter : blank ≤ b → cut outside (b ∷ rest) ≡ then (text b) (cut outside rest)
  unfolding cut
  cut_letter l = rw (ne_eqb b escape (λ e. omega arith), le-leb blank b l)

  pub cut_skipping : b < blank → (b ≡ escape → ⊥) → cut outside (b ∷ rest) ≡ then (skipped b) (cut outside rest)
  unfolding cut
  cut_skipping l n = rw (ne_eqb b escape n, lt-leb blank b l)

  module _ (body : List ℕ) where
    pub cut_abandoning : b ≡ escape → cut (inside body) (b ∷ rest) ≡ then (abandoned body) (cut (inside []) rest)
    unfolding cut
    cut_abandoning e = rw e

    pub cut_closing : b ≡ carriage_return → cut (inside body) (b ∷ rest) ≡ then (closed body) (cut outside rest)
    unfolding cut
    cut_closing e = rw e

    pub cut_collecting : Plain b → cut (inside body) (b ∷ rest) ≡ cut (inside (body ++ b ∷ [])) rest
    unfolding cut
    cut_collecting p = rw (ne_eqb b escape p.not_escape, ne_eqb b carriage_return p.not_return)

pub body_more : {body : List ℕ} {b : ℕ} → Body body → Plain b → Body (body ++ b ∷ [])
body_more empty q = collect q empty
body_more (collect p ps) q = collect p (body_more ps q)

-- The computed parting is one, the open frame standing first.
pub exists : (stream : List ℕ) (side : Side) → Fine side → Parting (front side ++ stream) (cut side stream)
exists [] outside h = unfold cut in ends
exists (b ∷ rest) outside h = go (outside_of b) (λ s f. exists rest s f)
  where
    go : Outside b → ((s : Side) → Fine s → Parting (front s ++ rest) (cut s rest)) → Parting (b ∷ rest) (cut outside (b ∷ rest))
    go (opening e) next = rw (cut_opening b rest e, e) (next (inside []) empty)
    go (letter l) next = rw (cut_letter b rest l) (goes_on {part = text b} l tt (next outside tt))
    go (skipping l n) next = rw (cut_skipping b rest l n) (goes_on {part = skipped b} (l, n) tt (next outside tt))
exists [] (inside body) h = unfold cut in rw append-nil (waits h)
exists (b ∷ rest) (inside body) h = go (inside_of b) (λ s f. exists rest s f)
  where
    go : Inside b → ((s : Side) → Fine s → Parting (front s ++ rest) (cut s rest)) → Parting (escape ∷ body ++ b ∷ rest) (cut (inside body) (b ∷ rest))
    go (abandoning e) next = rw (cut_abandoning b rest body e, e) (goes_on {part = abandoned body} h opens (next (inside []) empty))
    go (closing e) next = rw (cut_closing b rest body e, e) (rw append_assoc at (goes_on {part = closed body} h tt (next outside tt)))
    go (collecting p) next = rw (cut_collecting b rest body p) (rw append_assoc at (next (inside (body ++ b ∷ [])) (body_more h p)))

-- plain bytes are collected
cut_body : (body : List ℕ) {more : List ℕ} (rest : List ℕ) → Body more → cut (inside body) (more ++ rest) ≡ cut (inside (body ++ more)) rest
cut_body body rest empty = rw append-nil
cut_body body rest (collect {b} {body = more} p ps) = cut_collecting b (more ++ rest) body p ∙ cut_body (body ++ b ∷ []) rest ps ∙ rw append_assoc

-- what is lawful is computed
cut_part : (part : Part) (rest : List ℕ) → Lawful part → MayFollow part rest → cut outside (bytes_of part ++ rest) ≡ then part (cut outside rest)
cut_part (text b) rest l f = cut_letter b rest l
cut_part (skipped b) rest l f = cut_skipping b rest l.0 l.1
cut_part (closed body) rest l f =
    cut_opening escape _ refl ∙ ap (cut (inside [])) (append_assoc body (carriage_return ∷ []) rest) ∙ cut_body [] (carriage_return ∷ rest) l ∙ cut_closing carriage_return rest body refl
cut_part (abandoned body) _ l opens = cut_opening escape _ refl ∙ cut_body [] _ l ∙ cut_abandoning escape _ body refl ∙ ap (then (abandoned body)) (sym (cut_opening escape _ refl))

-- There is no other parting than the computed one.
pub only_cut : {stream : List ℕ} {parted : Parted} → Parting stream parted → parted ≡ cut outside stream
only_cut ends = unfold cut in refl
only_cut (waits {body} h) = unfold cut in sym (cut_opening escape body refl ∙ ap (cut (inside [])) (sym (append-nil body)) ∙ cut_body [] [] h)
only_cut (goes_on {part} {rest} l f p) = ap (then part) (only_cut p) ∙ sym (cut_part part rest l f)
