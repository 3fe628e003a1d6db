-- The first bytes of a frame that fits: what holds of all that the marks allow holds of the frame's. Assumes nothing.
use Rattle.std.specs.Prelude.{ℕ, zero, suc, ◌+◌, ◌≤◌, ◌<◌, true, false, List, [], ◌∷◌, ◌++◌, map, ◌≡◌, refl, eqb, leb, get_or}
use Prim.Native.Char.{code}
use Rattle.std.proofs.Common.{arith, true≢false, append-nil, append_assoc, sym, ◌∙◌, subst, eqb-true, leb-true}
use Rattle.std.proofs.lemmas.Bool.{eqb-false}
use Rattle.lists.specs.Both.{both}
use Rattle.lists.specs.Tests.{by_test}
use Rattle.numeral.specs.Numeral.{is_digit}
use Rattle.frame_table.specs.Rest.{Mark, sign, number, if, after_marks, fits, fits_append, fits_none}
use Rattle.frame_table.specs.Spelling.{fits_one, either, if_fits}

-- the first k bytes of a frame, with zeros past its end
abbrev pub heads : ℕ → List ℕ → List ℕ
heads zero f = []
heads (suc k) [] = 0 ∷ heads k []
heads (suc k) (b ∷ f) = b ∷ heads k f

abbrev Words : Type 0
Words = List (List ℕ)

abbrev before : ℕ → Words → Words
before b ws = map (λ (w : List ℕ). b ∷ w) ws

-- each of n bytes from b on, before each word
abbrev each_from : ℕ → ℕ → Words → Words
each_from zero b ws = []
each_from (suc n) b ws = before b ws ++ each_from n (suc b) ws

abbrev opens_marks : (ℕ → List Mark → Words) → ℕ → List Mark → Words
opens_marks words k [] = heads (suc k) [] ∷ []
opens_marks words k (sign a ∷ ms) = before a (words 0 ms)
opens_marks words k (number ∷ ms) = before (code "0") (words 0 ms) ++ each_from 9 (code "1") (words 2 ms)

abbrev opens_digits : (ℕ → List Mark → Words) → ℕ → List Mark → Words
opens_digits words zero ms = []
opens_digits words (suc more) ms = each_from 10 (code "0") (words more ms)

-- the first k bytes that may come
abbrev pub opens : ℕ → ℕ → List Mark → Words
opens zero more ms = [] ∷ []
opens (suc k) more ms = opens_digits (opens k) more ms ++ opens_marks (opens k) k ms

abbrev pub Every : (List ℕ → Type 0) → Words → Type 0
Every P [] = Unit {0}
Every P (w ∷ ws) = P w × Every P ws

every_left : (P : List ℕ → Type 0) (ws vs : Words) → Every P (ws ++ vs) → Every P ws
every_left P [] vs h = tt
every_left P (w ∷ ws) vs h = (h.0, every_left P ws vs h.1)

every_right : (P : List ℕ → Type 0) (ws vs : Words) → Every P (ws ++ vs) → Every P vs
every_right P [] vs h = h
every_right P (w ∷ ws) vs h = every_right P ws vs h.1

every_before : (P : List ℕ → Type 0) (b : ℕ) (ws : Words) → Every P (before b ws) → Every (λ (w : List ℕ). P (b ∷ w)) ws
every_before P b [] h = tt
every_before P b (w ∷ ws) h = (h.0, every_before P b ws h.1)

every_from_lem : (P : List ℕ → Type 0) (n a b : ℕ) (ws : Words) → a ≤ b → b < a + n → Every P (each_from n a ws) → Every P (before b ws)
every_from_lem P zero a b ws l m h = absurd (omega arith)
every_from_lem P (suc n) a b ws l m h =
    by_test (eqb a b)
    (λ e. subst (λ (x : ℕ). Every P (before x ws)) (eqb-true a b e) (every_left P (before a ws) (each_from n (suc a) ws) h))
    (λ e. every_from_lem P n (suc a) b ws (omega (arith, eqb-false a b e)) (omega arith) (every_right P (before a ws) (each_from n (suc a) ws) h))

-- digits are the ten bytes from "0" on
digit_from : (P : List ℕ → Type 0) (b : ℕ) (ws : Words) → is_digit b ≡ true → Every P (each_from 10 (code "0") ws) → Every P (before b ws)
digit_from P b ws d h =
    let w = both {a = leb (code "0") b} d in
    every_from_lem P 10 (code "0") b ws (leb-true (code "0") b w.0) (omega (arith, leb-true b (code "9") w.1)) h

first_from : (P : List ℕ → Type 0) (b : ℕ) (ws : Words) → is_digit b ≡ true → eqb b (code "0") ≡ false → Every P (each_from 9 (code "1") ws) → Every P (before b ws)
first_from P b ws d e h =
    let w = both {a = leb (code "0") b} d in
    every_from_lem P 9 (code "1") b ws (omega (arith, leb-true (code "0") b w.0, eqb-false b (code "0") e)) (omega (arith, leb-true b (code "9") w.1)) h

-- after a first byte, with what is known of the bytes after it
module _ (k : ℕ) (P : List ℕ → Type 0) (b : ℕ) (f : List ℕ) (ahead : (more : ℕ) (ms : List Mark) → Every P (before b (opens k more ms)) → fits_one more ms f ≡ true → P (b ∷ heads k f)) where
  by_mark : (ms : List Mark) → Every P (opens_marks (opens k) k ms) → fits (after_marks b ms ++ []) f ≡ true → P (b ∷ heads k f)
  by_mark [] g d = absurd (true≢false (sym d ∙ fits_none f))
  by_mark (sign a ∷ ms) g d =
      let t = if_fits (eqb b a) (0, ms) f (rw append-nil at d) in
      ahead 0 ms (subst (λ (x : ℕ). Every P (before x (opens k 0 ms))) (sym (eqb-true b a t.0)) g) t.1
  by_mark (number ∷ ms) g d =
      by_test (eqb b (code "0"))
      (λ e. ahead 0 ms
      (subst (λ (x : ℕ). Every P (before x (opens k 0 ms))) (sym (eqb-true b (code "0") e)) (every_left P (before (code "0") (opens k 0 ms)) (each_from 9 (code "1") (opens k 2 ms)) g))
      (rw e at d))
      (λ e. let t = if_fits (is_digit b) (2, ms) f (rw (e, append-nil) at d) in
      ahead 2 ms (first_from P b (opens k 2 ms) t.0 e (every_right P (before (code "0") (opens k 0 ms)) (each_from 9 (code "1") (opens k 2 ms)) g)) t.1)

  by_digit : (more : ℕ) (ms : List Mark) → Every P (opens_digits (opens k) more ms ++ opens_marks (opens k) k ms) → fits_one more ms (b ∷ f) ≡ true → P (b ∷ heads k f)
  by_digit zero ms g d = by_mark ms g d
  by_digit (suc more) ms g d =
      either (sym (fits_append (if (is_digit b) (more, ms)) (after_marks b ms ++ []) f) ∙ (rw append_assoc at d))
      (λ e. let t = if_fits (is_digit b) (more, ms) f e in
      ahead more ms (digit_from P b (opens k more ms) t.0 (every_left P (each_from 10 (code "0") (opens k more ms)) (opens_marks (opens k) k ms) g)) t.1)
      (λ e. by_mark ms (every_right P (each_from 10 (code "0") (opens k more ms)) (opens_marks (opens k) k ms) g) e)

pub opened : (k : ℕ) (P : List ℕ → Type 0) (more : ℕ) (ms : List Mark) (f : List ℕ) → Every P (opens k more ms) → fits_one more ms f ≡ true → P (heads k f)
opened zero P more ms f h e = h.0
opened (suc k) P more [] [] h e = (every_right P (opens_digits (opens k) more []) (opens_marks (opens k) k []) h).0
opened (suc k) P more (m ∷ ms) [] h e = absurd (true≢false (sym e))
opened (suc k) P more ms (b ∷ f) h e =
    by_digit k P b f (λ i qs g d. opened k (λ (w : List ℕ). P (b ∷ w)) i qs f (every_before P b (opens k i qs) g) d) more ms h e

pub heads_three : (f : List ℕ) → heads 3 f ≡ get_or f 0 0 ∷ get_or f 1 0 ∷ get_or f 2 0 ∷ []
heads_three [] = refl
heads_three (a ∷ []) = refl
heads_three (a ∷ b ∷ []) = refl
heads_three (a ∷ b ∷ c ∷ f) = refl

pub heads_four : (f : List ℕ) → heads 4 f ≡ get_or f 0 0 ∷ get_or f 1 0 ∷ get_or f 2 0 ∷ get_or f 3 0 ∷ []
heads_four [] = refl
heads_four (a ∷ []) = refl
heads_four (a ∷ b ∷ []) = refl
heads_four (a ∷ b ∷ c ∷ []) = refl
heads_four (a ∷ b ∷ c ∷ d ∷ f) = refl
