-- How long the sister's answers are, and which byte they are counted by. Assumes nothing.
use Rattle.std.specs.Prelude.{ℕ, ◌+◌, ◌≤◌, true, false, cond, List, [], ◌∷◌, ◌++◌, ◌≡◌, refl, length, take}
use Prim.Native.Char.{code}
use Rattle.std.proofs.Common.{arith, true≢false, sym, length-append}
use Rattle.lists.specs.Codes.{ascii, carriage_return, line_feed}
use Rattle.lists.specs.Counted.{counted_most}
use Rattle.lists.specs.Tests.{by_test}
use Rattle.numeral.specs.Numeral.{decimal}
use Rattle.numeral.specs.Laws.{digit_count}
use Rattle.answer.specs.Answers.{is_head, heads}
use Rattle.answer.specs.Laws.{heads_append, answer_head}
use Rattle.answer.specs.declared.Answer.TheVariants as Asked
use Rattle.sister_answer.specs.declared.Told.{Told}
use Rattle.sister_answer.specs.declared.Told.TheVariants.{Silence, Mark, Version, Place, Mode, Light, Contrast, Brightness, Speaker, Times, Hook, Ptt}
use Rattle.sister_answer.specs.Told.{opening, answer, pair, told_bytes, is_silence}

-- Lengths -------------------------------------------------------------------------------------------------------

pub opening_length : (letters : List ℕ) → length (opening letters) ≡ 3 + length letters
opening_length letters = omega (arith, length-append letters (ascii ": "))

pub answer_length : (letters value : List ℕ) → length (answer letters value) ≡ 5 + length letters + length value
answer_length letters value =
    omega (arith, length-append (opening letters ++ value) (carriage_return ∷ line_feed ∷ []), length-append (opening letters) value, opening_length letters)

pub pair_length : (m n : ℕ) → length (pair m n) ≤ 7
pair_length m n = omega (arith, length-append (decimal m) (code ";" ∷ decimal n), digit_count m, digit_count n)

pub version_length : length (told_bytes Version) ≡ 31
version_length = refl

-- an answer to one of the questions, by the length of its value
short : (letters value : List ℕ) → length letters ≤ 3 → length value ≤ 7 → length (answer letters value) ≤ 31
short letters value h k = omega (arith, answer_length letters value)

-- Room for a version is room for any answer,
pub told_at_most : (t : Told) → length (told_bytes t) ≤ 31
told_at_most Silence = omega arith
told_at_most Mark = omega arith
told_at_most Version = omega arith
told_at_most (Place row column) = short (ascii "&H") (pair row column) (omega arith) (pair_length row column)
told_at_most (Mode n) = short (ascii "IDM") (decimal n) (omega arith) (omega (arith, digit_count n))
told_at_most (Light mode duration) = short (ascii "IE") (pair mode duration) (omega arith) (pair_length mode duration)
told_at_most (Contrast n) = short (ascii "IA") (decimal n) (omega arith) (omega (arith, digit_count n))
told_at_most (Brightness n) = short (ascii "IN") (decimal n) (omega arith) (omega (arith, digit_count n))
told_at_most (Speaker n) = short (ascii "IV") (decimal n) (omega arith) (omega (arith, digit_count n))
told_at_most (Times time1 time2) = short (ascii "IT") (pair time1 time2) (omega arith) (pair_length time1 time2)
told_at_most (Hook onHook) = omega arith
told_at_most (Ptt pressed) = omega arith

-- Heads ---------------------------------------------------------------------------------------------------------

-- no digit is one: the answer to IA, of digits and CR behind its letters, has no other than its ESC
digits_no_heads : (n : ℕ) → heads (decimal n) ≡ 0
digits_no_heads n = omega (arith, answer_head n true Asked.Contrast, heads_append (decimal n) (carriage_return ∷ []))

pair_no_heads : (m n : ℕ) → heads (pair m n) ≡ 0
pair_no_heads m n = omega (arith, heads_append (decimal m) (code ";" ∷ decimal n), digits_no_heads m, digits_no_heads n)

one_head : (letters value : List ℕ) → heads letters ≡ 0 → heads value ≡ 0 → heads (answer letters value) ≡ 1
one_head letters value h k =
    omega (arith, h, k, heads_append (opening letters ++ value) (carriage_return ∷ line_feed ∷ []), heads_append (opening letters) value, heads_append letters (ascii ": "))

-- Every answer but silence has one of them: so they count the answers in a buffer.
pub told_head : (t : Told) → heads (told_bytes t) ≡ cond (is_silence t) 0 1
told_head Silence = refl
told_head Mark = refl
told_head Version = refl
told_head (Place row column) = one_head (ascii "&H") (pair row column) refl (pair_no_heads row column)
told_head (Mode n) = one_head (ascii "IDM") (decimal n) refl (digits_no_heads n)
told_head (Light mode duration) = one_head (ascii "IE") (pair mode duration) refl (pair_no_heads mode duration)
told_head (Contrast n) = one_head (ascii "IA") (decimal n) refl (digits_no_heads n)
told_head (Brightness n) = one_head (ascii "IN") (decimal n) refl (digits_no_heads n)
told_head (Speaker n) = one_head (ascii "IV") (decimal n) refl (digits_no_heads n)
told_head (Times time1 time2) = one_head (ascii "IT") (pair time1 time2) refl (pair_no_heads time1 time2)
told_head (Hook onHook) = by_test onHook (λ e. rw e) (λ e. rw e)
told_head (Ptt pressed) = by_test pressed (λ e. rw e) (λ e. rw e)

-- It is the first, so an answer that is no silence has a byte.
pub told_begins : (t : Told) → heads (take 1 (told_bytes t)) ≡ cond (is_silence t) 0 1
told_begins Silence = refl
told_begins Mark = refl
told_begins Version = refl
told_begins (Place row column) = refl
told_begins (Mode n) = refl
told_begins (Light mode duration) = refl
told_begins (Contrast n) = refl
told_begins (Brightness n) = refl
told_begins (Speaker n) = refl
told_begins (Times time1 time2) = refl
told_begins (Hook onHook) = refl
told_begins (Ptt pressed) = refl

pub told_not_empty : (t : Told) → is_silence t ≡ false → 1 ≤ length (told_bytes t)
told_not_empty t h = omega (arith, counted_most is_head (told_bytes t), rw h at (told_head t))

-- Silence says nothing.
pub silence_says : (t : Told) → is_silence t ≡ true → told_bytes t ≡ []
silence_says Silence h = refl
silence_says Mark h = absurd (true≢false (sym h))
silence_says Version h = absurd (true≢false (sym h))
silence_says (Place row column) h = absurd (true≢false (sym h))
silence_says (Mode n) h = absurd (true≢false (sym h))
silence_says (Light mode duration) h = absurd (true≢false (sym h))
silence_says (Contrast n) h = absurd (true≢false (sym h))
silence_says (Brightness n) h = absurd (true≢false (sym h))
silence_says (Speaker n) h = absurd (true≢false (sym h))
silence_says (Times time1 time2) h = absurd (true≢false (sym h))
silence_says (Hook onHook) h = absurd (true≢false (sym h))
silence_says (Ptt pressed) h = absurd (true≢false (sym h))
