-- What the scan of an array asks of its places, and the law of its loop. Assumes nothing.
use Rattle.std.specs.Prelude.{ℕ, zero, suc, ◌+◌, ◌-◌, ◌<◌, ◌≤◌, ◌≡◌, refl, Bool, not, ◌&&◌, ◌||◌, List, [], ◌∷◌, ltb, length, get_or, take, drop}
use Rattle.std.proofs.Common.{arith, le_refl, add-one, ap, sym, ◌∙◌, length-drop, drop_of_length-le, take_all, drop-cons, ltb-true, ltb-false, lt-ltb, le-ltb}
use Rattle.std.proofs.Math.Nat.{sub-zero}
use Rattle.std.proofs.Math.Bool.{and_assoc, and-true, or-false}
use Rattle.std.proofs.Math.Seq.{slice, take-nil, drop-nil}
use Rattle.lists.specs.Every.{every}
use Rattle.lists.specs.Tests.{by_test}
use Rattle.record.specs.Range.{is_code, is_low_column, is_frame_byte, is_unused}
use Rattle.record_ranges.specs.declared.Place.{Place}
use Rattle.record_ranges.specs.declared.Place.TheVariants.{Code, LowColumn, FrameByte}

-- which test the scan makes at a used place of each kind
abbrev pub test_of : Place → ℕ → Bool
test_of Code b = is_code b
test_of LowColumn b = is_low_column b
test_of FrameByte b = is_frame_byte b

-- a place: the test holds where it is used, zero stands where it is not
abbrev pub right_at : (ℕ → Bool) → Bool → ℕ → Bool
right_at test used b = (used && test b) || (not used && is_unused b)

-- an array whose first `len` places are used
unfoldable pub filled : (ℕ → Bool) → ℕ → List ℕ → Bool
filled test len s = every test (take len s) && every is_unused (drop len s)

-- One place of a list, used or not, and those after it.
used_place : (test : ℕ → Bool) (n : ℕ) (x : ℕ) (xs : List ℕ) → filled test (suc n) (x ∷ xs) ≡ (test x && filled test n xs)
unfolding filled
used_place test n x xs = and_assoc (test x) (every test (take n xs)) (every is_unused (drop n xs))

unused_place : (test : ℕ → Bool) (x : ℕ) (xs : List ℕ) → filled test 0 (x ∷ xs) ≡ (is_unused x && filled test 0 xs)
unfolding filled
unused_place test x xs = refl

-- The place at i, and those after it: where it is used, where it is not, and in general.
at_place : (s : List ℕ) (i : ℕ) → i < length s → drop i s ≡ (get_or s i 0 ∷ drop (i + 1) s)
at_place s i h = drop-cons s i 0 h ∙ ap (λ (n : ℕ). get_or s i 0 ∷ drop n s) (sym (add-one i))

pub used_at : (test : ℕ → Bool) (len : ℕ) (s : List ℕ) (i : ℕ) → i < length s → i < len
    → filled test (len - i) (drop i s) ≡ (test (get_or s i 0) && filled test (len - (i + 1)) (drop (i + 1) s))
used_at test len s i h low =
    let more : len - i ≡ suc (len - (i + 1)) = omega arith in
    rw (at_place s i h, more, used_place)

pub unused_at : (test : ℕ → Bool) (len : ℕ) (s : List ℕ) (i : ℕ) → i < length s → len ≤ i
    → filled test (len - i) (drop i s) ≡ (is_unused (get_or s i 0) && filled test (len - (i + 1)) (drop (i + 1) s))
unused_at test len s i h high =
    let none : len - i ≡ 0 = omega arith in
    let still : len - (i + 1) ≡ 0 = omega arith in
    rw (at_place s i h, none, still, unused_place)

one_place : (test : ℕ → Bool) (len : ℕ) (s : List ℕ) (i : ℕ) → i < length s
    → filled test (len - i) (drop i s) ≡ (right_at test (ltb i len) (get_or s i 0) && filled test (len - (i + 1)) (drop (i + 1) s))
one_place test len s i h =
    by_test (ltb i len)
    (λ used. rw (used, or-false) (used_at test len s i h (ltb-true i len used)))
    (λ unused. rw unused (unused_at test len s i h (ltb-false i len unused)))

-- The scan's start: all is left to find.
pub at_start : (test : ℕ → Bool) (len : ℕ) (s : List ℕ) → filled test len s ≡ filled test (len - 0) s
at_start test len s = ap (λ (n : ℕ). filled test n s) (sym (sub-zero len))

-- The count that goes down says what the index says.
used_yet : (len left i : ℕ) → left + i ≡ 255 → i < 255 → ltb (255 - len) left ≡ ltb i len
used_yet len left i e h =
    by_test (ltb i len)
    (λ used. let low = ltb-true i len used in rw used (lt-ltb (255 - len) left (omega arith)))
    (λ unused. let high = ltb-false i len unused in rw unused (le-ltb (255 - len) left (omega arith)))

-- One turn of the scan: what was found so far and what is left give the same answer before and after the place at i.
pub turn : (test : ℕ → Bool) (len : ℕ) (s : List ℕ) (i left : ℕ) (ok right : Bool) → i < length s → length s ≤ 255 → left + i ≡ 255
    → right ≡ right_at test (ltb (255 - len) left) (get_or s i 0)
    → (ok && filled test (len - i) (drop i s)) ≡ ((ok && right) && filled test (len - (i + 1)) (drop (i + 1) s))
turn test len s i left ok right h most e q =
    let now : right ≡ right_at test (ltb i len) (get_or s i 0) = q ∙ ap (λ (used : Bool). right_at test used (get_or s i 0)) (used_yet len left i e (omega arith)) in
    ap (λ (b : Bool). ok && b) (one_place test len s i h ∙ ap (λ (b : Bool). b && filled test (len - (i + 1)) (drop (i + 1) s)) (sym now))
    ∙ sym (and_assoc ok right (filled test (len - (i + 1)) (drop (i + 1) s)))

-- The scan's end: nothing is left to find.
pub at_end : (test : ℕ → Bool) (len : ℕ) (s : List ℕ) (i : ℕ) (ok : Bool) → length s ≤ i → (ok && filled test (len - i) (drop i s)) ≡ ok
unfolding filled
at_end test len s i ok h = rw (drop_of_length-le s {i = i} h, take-nil (len - i), drop-nil (len - i)) (and-true ok)

-- An array that is used whole.
pub used_whole : (test : ℕ → Bool) (n : ℕ) (s : List ℕ) → length s ≡ n → filled test n s ≡ every test s
unfolding filled
used_whole test n s h = rw (take_all n s (omega arith), drop_of_length-le s {i = n} (omega arith)) (and-true (every test s))

-- An array of n places: the used ones and the others, as the ranges name them.
pub in_two : (test : ℕ → Bool) (len n : ℕ) (s : List ℕ) → length s ≡ n → filled test len s ≡ (every test (slice 0 len s) && every is_unused (slice len n s))
unfolding filled
in_two test len n s h = ap (λ (t : List ℕ). every test (take len s) && every is_unused (drop len t)) (sym (take_all n s (omega arith)))

-- The end of an array, used whole.
pub used_end : (test : ℕ → Bool) (from n : ℕ) (s : List ℕ) → length s ≡ n
    → filled test (n - from) (take (length s - from) (drop from s)) ≡ every test (slice from n s)
used_end test from n s h =
    let rest : length (drop from s) ≡ n - from = length-drop from s ∙ ap (λ (k : ℕ). k - from) h in
    rw (take_all (length s - from) (drop from s) (omega (arith, rest, h)), take_all n s (omega (arith, h))) (used_whole test (n - from) (drop from s) rest)

-- An array of which at most n places are used: behind the first n, zeros are all that is asked.
few_used : (test : ℕ → Bool) (len n : ℕ) (s : List ℕ) → len ≤ n → filled test len s ≡ (filled test len (take n s) && every is_unused (drop n s))
unfolding filled
few_used test zero zero s h = refl
few_used test (suc len) zero s h = absurd (omega arith)
few_used test zero (suc n) [] h = refl
few_used test (suc len) (suc n) [] h = refl
few_used test zero (suc n) (x ∷ xs) h =
    ap (λ (b : Bool). is_unused x && b) (few_used test zero n xs (omega arith))
    ∙ sym (and_assoc (is_unused x) (filled test 0 (take n xs)) (every is_unused (drop n xs)))
few_used test (suc len) (suc n) (x ∷ xs) h =
    used_place test len x xs
    ∙ ap (λ (b : Bool). test x && b) (few_used test len n xs (omega arith))
    ∙ sym (and_assoc (test x) (filled test len (take n xs)) (every is_unused (drop n xs)))
    ∙ ap (λ (b : Bool). b && every is_unused (drop n xs)) (sym (used_place test len x (take n xs)))

-- The same of the two parts that the code takes.
pub in_parts : (test : ℕ → Bool) (len n : ℕ) (s : List ℕ) → len ≤ n
    → filled test len s ≡ (filled test len (take n s) && every is_unused (take (length s - n) (drop n s)))
in_parts test len n s h = rw (take_all (length s - n) (drop n s) (simp length-drop (le_refl _))) (few_used test len n s h)
