-- A frame fits marks exactly where it matches the pieces that have them, with some numbers. Assumes nothing.
use Rattle.std.specs.Prelude.{ℕ, zero, suc, ◌+◌, ◌*◌, ◌-◌, ◌<◌, ◌≤◌, Bool, true, false, ◌||◌, List, [], ◌∷◌, ◌++◌, ◌≡◌, refl, eqb, leb, length}
use Prim.Native.Char.{code}
use Rattle.std.proofs.Common.{arith, true≢false, append-nil, append_assoc, sym, ap, ◌∙◌, subst, eqb-true, eq-eqb, ne_eqb, le-leb, leb-true}
use Rattle.std.proofs.Math.Bool.{or-true}
use Rattle.std.proofs.lemmas.Bool.{eqb-false}
use Rattle.lists.specs.Both.{both}
use Rattle.lists.specs.Tests.{by_test}
use Rattle.lists.specs.Every.{every}
use Rattle.numeral.specs.Spelt.{Spelt, one, two, three, digit_code}
use Rattle.numeral.specs.Numeral.{is_digit}
use Rattle.frame_table.specs.Pieces.{Piece, text, columns, Matches, end, signs, digits, one_digit, codes, data_of}
use Rattle.frame_table.specs.Pieces as piece
use Rattle.frame_table.specs.Rest.{Mark, sign, number, Rest, if, after_marks, fits, fits_append, fits_none}

-- the marks of pieces, and whether they are signs and numbers alone
abbrev pub marks_of : List Piece → List Mark
marks_of [] = []
marks_of (piece.sign [] ∷ ps) = marks_of ps
marks_of (piece.sign (a ∷ s) ∷ ps) = sign a ∷ marks_of (piece.sign s ∷ ps)
marks_of (piece.number r n ∷ ps) = number ∷ marks_of ps
marks_of (piece.digit r n ∷ ps) = marks_of ps
marks_of (text t ∷ ps) = marks_of ps
marks_of (columns cs ∷ ps) = marks_of ps

abbrev pub is_plain : List Piece → Bool
is_plain [] = true
is_plain (piece.sign s ∷ ps) = is_plain ps
is_plain (piece.number r n ∷ ps) = is_plain ps
is_plain (piece.digit r n ∷ ps) = false
is_plain (text t ∷ ps) = false
is_plain (columns cs ∷ ps) = false

-- one of what may come
abbrev pub fits_one : ℕ → List Mark → List ℕ → Bool
fits_one more ms f = fits ((more, ms) ∷ []) f

-- Where one of two tests holds
pub either : {a b : Bool} {P : Type 0} → (a || b) ≡ true → (a ≡ true → P) → (b ≡ true → P) → P
either {a = true} h left right = left refl
either {a = false} h left right = right h

pub or_left : {a : Bool} (b : Bool) → a ≡ true → (a || b) ≡ true
or_left {a = true} b h = refl
or_left {a = false} b h = absurd (true≢false (sym h))

pub or_right : (a : Bool) {b : Bool} → b ≡ true → (a || b) ≡ true
or_right a h = rw h (or-true a)

-- What is spelt fits ------------------------------------------------------------------------------------------------

fits_sign : (a : ℕ) (ms : List Mark) (f : List ℕ) → fits_one 0 ms f ≡ true → fits_one 0 (sign a ∷ ms) (a ∷ f) ≡ true
fits_sign a ms f h = rw (eq-eqb a a refl) h

-- digits that may come may stay away
skip_marks : (more : ℕ) (ms : List Mark) (f : List ℕ) → fits_one 0 ms f ≡ true → fits_one more ms f ≡ true
skip_marks zero ms f h = h
skip_marks (suc more) ms [] h = h
skip_marks (suc more) ms (b ∷ f) h =
    rw (append_assoc (if (is_digit b) (more, ms)) (after_marks b ms) [])
    (fits_append (if (is_digit b) (more, ms)) (after_marks b ms ++ []) f ∙ or_right (fits (if (is_digit b) (more, ms)) f) h)

fits_digit : (more b : ℕ) (ms : List Mark) (f : List ℕ) → is_digit b ≡ true → fits_one more ms f ≡ true → fits_one (suc more) ms (b ∷ f) ≡ true
fits_digit more b ms f d h =
    rw d (fits_append ((more, ms) ∷ []) (after_marks b ms ++ []) f ∙ or_left (fits (after_marks b ms ++ []) f) h)

is_digit_lem : (x : ℕ) → x < 10 → is_digit (digit_code x) ≡ true
is_digit_lem x h = rw (le-leb (code "0") (digit_code x) (omega arith), le-leb (digit_code x) (code "9") (omega arith))

fits_first : (y : ℕ) (ms : List Mark) (f : List ℕ) → 0 < y → y < 10 → fits_one 2 ms f ≡ true → fits_one 0 (number ∷ ms) (digit_code y ∷ f) ≡ true
fits_first y ms f l g h = rw (ne_eqb (digit_code y) (code "0") (λ e. omega arith), is_digit_lem y g) h

fits_one_lem : (z : ℕ) (ms : List Mark) (f : List ℕ) → z < 10 → fits_one 0 ms f ≡ true → fits_one 0 (number ∷ ms) (digit_code z ∷ f) ≡ true
fits_one_lem zero ms f l h = h
fits_one_lem (suc z) ms f l h = fits_first (suc z) ms f (omega arith) l (skip_marks 2 ms f h)

fits_number : {n : ℕ} {d : List ℕ} (ms : List Mark) (f : List ℕ) → Spelt n d → fits_one 0 ms f ≡ true → fits_one 0 (number ∷ ms) (d ++ f) ≡ true
fits_number ms f (one {z} l) h = fits_one_lem z ms f l h
fits_number ms f (two {y} {z} p l k) h =
    fits_first y ms (digit_code z ∷ f) p l (fits_digit 1 (digit_code z) ms f (is_digit_lem z k) (skip_marks 1 ms f h))
fits_number ms f (three {x} {y} {z} p l k j) h =
    fits_first x ms (digit_code y ∷ digit_code z ∷ f) p l
    (fits_digit 1 (digit_code y) ms (digit_code z ∷ f) (is_digit_lem y k) (fits_digit 0 (digit_code z) ms f (is_digit_lem z j) h))

fits_signs : (s : List ℕ) (ps : List Piece) (f : List ℕ) → fits_one 0 (marks_of ps) f ≡ true → fits_one 0 (marks_of (piece.sign s ∷ ps)) (s ++ f) ≡ true
fits_signs [] ps f h = h
fits_signs (a ∷ s) ps f h = fits_sign a (marks_of (piece.sign s ∷ ps)) (s ++ f) (fits_signs s ps f h)

pub matched_fits : {ps : List Piece} {f : List ℕ} → is_plain ps ≡ true → Matches ps f → fits_one 0 (marks_of ps) f ≡ true
matched_fits h end = refl
matched_fits h (signs s {ps} {f} m) = fits_signs s ps f (matched_fits h m)
matched_fits h (digits {ps = ps} {f = f} d m) = fits_number (marks_of ps) f d (matched_fits h m)
matched_fits h (one_digit l m) = absurd (true≢false (sym h))
matched_fits h (codes l e m) = absurd (true≢false (sym h))
matched_fits h (data_of d m) = absurd (true≢false (sym h))

-- What fits is spelt ------------------------------------------------------------------------------------------------

-- the frame is signs and numbers that have these marks and these values
pub data Fills : List Mark → List ℕ → List ℕ → Type 0 where
  none : Fills [] [] []
  a_sign : {a : ℕ} {ms : List Mark} {ns f : List ℕ} → Fills ms ns f → Fills (sign a ∷ ms) ns (a ∷ f)
  a_number : {n : ℕ} {d : List ℕ} {ms : List Mark} {ns f : List ℕ} → Spelt n d → Fills ms ns f → Fills (number ∷ ms) (n ∷ ns) (d ++ f)

abbrev pub how_many : List Mark → ℕ
how_many [] = 0
how_many (sign a ∷ ms) = how_many ms
how_many (number ∷ ms) = suc (how_many ms)

pub record Filled (ms : List Mark) (f : List ℕ) : Type 0 where
  pub numbers : List ℕ
  pub count : length numbers ≡ how_many ms
  pub fills : Fills ms numbers f

-- digits that come, and what comes after them
record Digits (more : ℕ) (ms : List Mark) (f : List ℕ) : Type 0 where
  d : List ℕ
  g : List ℕ
  whole : f ≡ d ++ g
  decimal : every is_digit d ≡ true
  most : length d ≤ more
  rest : fits_one 0 ms g ≡ true

pub if_fits : (test : Bool) (r : Rest) (f : List ℕ) → fits (if test r) f ≡ true → (test ≡ true) × (fits (r ∷ []) f ≡ true)
if_fits true r f h = (refl, h)
if_fits false r f h = absurd (true≢false (sym h ∙ fits_none f))

digits_come : (more : ℕ) (ms : List Mark) (f : List ℕ) → fits_one more ms f ≡ true → Digits more ms f
digits_come zero ms f h = record { d = []; g = f; whole = refl; decimal = refl; most = omega arith; rest = h }
digits_come (suc more) ms [] h = record { d = []; g = []; whole = refl; decimal = refl; most = omega arith; rest = h }
digits_come (suc more) ms (b ∷ f) h =
    either (sym (fits_append (if (is_digit b) (more, ms)) (after_marks b ms ++ []) f) ∙ (rw append_assoc at h))
    (λ e. let t = if_fits (is_digit b) (more, ms) f e in longer t.0 (digits_come more ms f t.1))
    (λ e. record { d = []; g = b ∷ f; whole = refl; decimal = refl; most = omega arith; rest = e })
  where
    longer : is_digit b ≡ true → Digits more ms f → Digits (suc more) ms (b ∷ f)
    longer e r =
        record { d = b ∷ r.d; g = r.g; whole = ap (λ (x : List ℕ). b ∷ x) r.whole; decimal = rw e r.decimal; most = omega (arith, r.most); rest = r.rest }

digit_of_lem : (c : ℕ) → is_digit c ≡ true → (c ≡ digit_code (c - code "0")) × (c - code "0" < 10)
digit_of_lem c e =
    let h = both {a = leb (code "0") c} e in
    (omega (arith, leb-true (code "0") c h.0), omega (arith, leb-true c (code "9") h.1))

record Named (d : List ℕ) : Type 0 where
  value : ℕ
  spelt : Spelt value d

named : (b : ℕ) (d : List ℕ) → (b ≡ code "0" → ⊥) → is_digit b ≡ true → every is_digit d ≡ true → length d ≤ 2 → Named (b ∷ d)
named b d not-zero e h l =
    let w = digit_of_lem b e in
    let low : 0 < b - code "0" = omega (arith, not-zero) in
    subst (λ (x : ℕ). Named (x ∷ d)) (sym w.0) (cases d (b - code "0") low w.1 h l)
  where
    cases : (d : List ℕ) (x : ℕ) → 0 < x → x < 10 → every is_digit d ≡ true → length d ≤ 2 → Named (digit_code x ∷ d)
    cases [] x p q h l = record { value = x; spelt = one q }
    cases (y ∷ []) x p q h l =
        let v = digit_of_lem y (both {a = is_digit y} h).0 in
        rw v.0 (record { value = x * 10 + (y - code "0"); spelt = two p q v.1 })
    cases (y ∷ z ∷ []) x p q h l =
        let u = both {a = is_digit y} h in
        let v = digit_of_lem y u.0 in
        let w = digit_of_lem z (both {a = is_digit z} u.1).0 in
        subst (λ (k : List ℕ). Named (digit_code x ∷ k)) (sym (ap (λ (i : ℕ). i ∷ z ∷ []) v.0 ∙ ap (λ (j : ℕ). digit_code (y - code "0") ∷ j ∷ []) w.0))
        (record { value = x * 100 + (y - code "0") * 10 + (z - code "0"); spelt = three p q v.1 w.1 })
    cases (y ∷ z ∷ w ∷ more) x p q h l = absurd (omega arith)

-- a number that comes, and what comes after it
record Number (ms : List Mark) (f : List ℕ) : Type 0 where
  d : List ℕ
  g : List ℕ
  whole : f ≡ d ++ g
  name : Named d
  rest : fits_one 0 ms g ≡ true

number_comes : (ms : List Mark) (f : List ℕ) → fits_one 0 (number ∷ ms) f ≡ true → Number ms f
number_comes ms [] h = absurd (true≢false (sym h))
number_comes ms (b ∷ f) h =
    by_test (eqb b (code "0"))
    (λ e. record { d = b ∷ []; g = f; whole = refl; name = zeroed (eqb-true b (code "0") e); rest = rw e at h })
    (λ e. let t = if_fits (is_digit b) (2, ms) f (rw (e, append-nil) at h) in longer e t.0 (digits_come 2 ms f t.1))
  where
    zeroed : b ≡ code "0" → Named (b ∷ [])
    zeroed e = rw e (record { value = 0; spelt = one {z = 0} (omega arith) })

    longer : eqb b (code "0") ≡ false → is_digit b ≡ true → Digits 2 ms f → Number ms (b ∷ f)
    longer e t r =
        record { d = b ∷ r.d; g = r.g; whole = ap (λ (x : List ℕ). b ∷ x) r.whole; name = named b r.d (eqb-false b (code "0") e) t r.decimal r.most; rest = r.rest }

pub fits_filled : (ms : List Mark) (f : List ℕ) → fits_one 0 ms f ≡ true → Filled ms f
fits_filled [] [] h = record { numbers = []; count = refl; fills = none }
fits_filled [] (b ∷ f) h = absurd (true≢false (sym h ∙ fits_none f))
fits_filled (sign a ∷ ms) [] h = absurd (true≢false (sym h))
fits_filled (sign a ∷ ms) (b ∷ f) h =
    let t = if_fits (eqb b a) (0, ms) f (rw append-nil at h) in
    let r = fits_filled ms f t.1 in
    rw (eqb-true b a t.0) (record { numbers = r.numbers; count = r.count; fills = a_sign r.fills })
fits_filled (number ∷ ms) f h =
    let n = number_comes ms f h in
    let r = fits_filled ms n.g n.rest in
    rw n.whole (record { numbers = n.name.value ∷ r.numbers; count = ap suc r.count; fills = a_number n.name.spelt r.fills })

-- the numbers of pieces
abbrev pub numbers_in : List Piece → List ℕ
numbers_in [] = []
numbers_in (piece.sign s ∷ ps) = numbers_in ps
numbers_in (piece.number r n ∷ ps) = n ∷ numbers_in ps
numbers_in (piece.digit r n ∷ ps) = n ∷ numbers_in ps
numbers_in (text t ∷ ps) = numbers_in ps
numbers_in (columns cs ∷ ps) = numbers_in ps

-- what fills the marks of a piece of signs is its signs, and what fills the rest
filled_signs : (s : List ℕ) (ps : List Piece) {f : List ℕ} → ((g : List ℕ) → Fills (marks_of ps) (numbers_in ps) g → Matches ps g)
    → Fills (marks_of (piece.sign s ∷ ps)) (numbers_in ps) f → Matches (piece.sign s ∷ ps) f
filled_signs [] ps rest k = signs [] (rest _ k)
filled_signs (a ∷ s) ps rest (a_sign k) = prepend (filled_signs s ps rest k)
  where
    prepend : {g : List ℕ} → Matches (piece.sign s ∷ ps) g → Matches (piece.sign (a ∷ s) ∷ ps) (a ∷ g)
    prepend (signs _ m) = signs (a ∷ s) m

-- what fills the marks of pieces with their numbers is those pieces
pub filled_matches : (ps : List Piece) {f : List ℕ} → is_plain ps ≡ true → Fills (marks_of ps) (numbers_in ps) f → Matches ps f
filled_matches [] h none = end
filled_matches (piece.sign s ∷ ps) h k = filled_signs s ps (λ (g : List ℕ) m. filled_matches ps h m) k
filled_matches (piece.number r n ∷ ps) h (a_number d k) = digits d (filled_matches ps h k)
filled_matches (piece.digit r n ∷ ps) h k = absurd (true≢false (sym h))
filled_matches (text t ∷ ps) h k = absurd (true≢false (sym h))
filled_matches (columns cs ∷ ps) h k = absurd (true≢false (sym h))
