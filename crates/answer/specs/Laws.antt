-- How long the answers are, which byte they are counted by, and that one is written whole or not at all. Assumes nothing.
use Rattle.std.specs.Prelude.{ℕ, ◌+◌, ◌≤◌, ◌<◌, Bool, true, false, cond, List, [], ◌∷◌, ◌++◌, ◌≡◌, refl, leb, ltb, length, take, drop}
use Prim.Native.Char.{code}
use Rattle.std.proofs.Common.{arith, true≢false, length-append, leb-true, lt-ltb, ne_eqb}
use Rattle.std.proofs.Math.Seq.{length-sets}
use Rattle.std.proofs.lemmas.List.Edits.{sets-eq}
use Rattle.lists.specs.Both.{both}
use Rattle.lists.specs.Codes.{escape, carriage_return, question_mark}
use Rattle.lists.specs.Counted.{counted_append}
use Rattle.lists.specs.Every.{every}
use Rattle.lists.specs.Tests.{by_test}
use Rattle.numeral.specs.Numeral.{is_digit, decimal}
use Rattle.numeral.specs.Laws.{digit_count, digits_written}
use Rattle.answer.specs.declared.Answer.{Answer}
use Rattle.answer.specs.declared.Answer.TheVariants.{Silence, QuestionMark, Contrast, Hook, Version}
use Rattle.answer.specs.Answers.{answer_bytes, is_silence, fits, count_after, buffer_after, is_head, heads}

-- Lengths -------------------------------------------------------------------------------------------------------

module _ (contrast : ℕ) (hook : Bool) where
  pub silence_length : length (answer_bytes Silence contrast hook) ≡ 0
  silence_length = refl

  pub question_mark_length : length (answer_bytes QuestionMark contrast hook) ≡ 1
  question_mark_length = refl

  pub contrast_length : length (answer_bytes Contrast contrast hook) ≡ 4 + length (decimal contrast)
  contrast_length = rw (length-append (decimal contrast) (carriage_return ∷ [])) (omega arith)

  pub contrast_at_most : length (answer_bytes Contrast contrast hook) ≤ 7
  contrast_at_most = omega (arith, contrast_length, digit_count contrast)

  -- a contrast in range has one digit or two
  pub contrast_of_two_digits : contrast < 100 → length (answer_bytes Contrast contrast hook) ≡ cond (ltb contrast 10) 5 6
  contrast_of_two_digits h = by_test (ltb contrast 10) (λ e. rw e) (λ e. rw (e, lt-ltb contrast 100 h))

  pub hook_length : length (answer_bytes Hook contrast hook) ≡ 5
  hook_length = refl

  pub version_length : length (answer_bytes Version contrast hook) ≡ 29
  version_length = refl

  -- Room for a version is room for any answer,
  pub answer_at_most : (a : Answer) → length (answer_bytes a contrast hook) ≤ 29
  answer_at_most Silence = omega arith
  answer_at_most QuestionMark = omega arith
  answer_at_most Contrast = omega (arith, contrast_at_most)
  answer_at_most Hook = omega arith
  answer_at_most Version = omega arith

  -- and every answer but silence has a byte.
  pub answer_not_empty : (a : Answer) → is_silence a ≡ false → 1 ≤ length (answer_bytes a contrast hook)
  answer_not_empty Silence h = absurd (true≢false h)
  answer_not_empty QuestionMark h = omega arith
  answer_not_empty Contrast h = omega (arith, contrast_length)
  answer_not_empty Hook h = omega arith
  answer_not_empty Version h = omega arith

-- Heads ---------------------------------------------------------------------------------------------------------

pub heads_append : (xs ys : List ℕ) → heads (xs ++ ys) ≡ heads xs + heads ys
heads_append = counted_append is_head

digit_no_head : (b : ℕ) → is_digit b ≡ true → is_head b ≡ false
digit_no_head b h =
    let low : code "0" ≤ b = leb-true (code "0") b (both {a = leb (code "0") b} h).0 in
    let high : b ≤ code "9" = leb-true b (code "9") (both {a = leb (code "0") b} h).1 in
    rw (ne_eqb b question_mark (λ e. omega arith), ne_eqb b escape (λ e. omega arith))

digits_no_heads : (digits : List ℕ) → every is_digit digits ≡ true → heads digits ≡ 0
digits_no_heads [] h = refl
digits_no_heads (d ∷ digits) h = let b = both {a = is_digit d} h in rw (digit_no_head d b.0) (omega (arith, digits_no_heads digits b.1))

module _ (contrast : ℕ) (hook : Bool) where
  -- Every answer but silence has one of them: so they count the answers in a buffer.
  pub answer_head : (a : Answer) → heads (answer_bytes a contrast hook) ≡ cond (is_silence a) 0 1
  answer_head Silence = refl
  answer_head QuestionMark = refl
  answer_head Contrast = rw (heads_append (decimal contrast) (carriage_return ∷ []), digits_no_heads (decimal contrast) (digits_written contrast))
  answer_head Hook = by_test hook (λ e. rw e) (λ e. rw e)
  answer_head Version = refl

  -- It is the first.
  pub answer_begins : (a : Answer) → heads (take 1 (answer_bytes a contrast hook)) ≡ cond (is_silence a) 0 1
  answer_begins Silence = refl
  answer_begins QuestionMark = refl
  answer_begins Contrast = refl
  answer_begins Hook = refl
  answer_begins Version = refl

-- In the room ---------------------------------------------------------------------------------------------------

module _ (buffer : List ℕ) (written : ℕ) (answer : List ℕ) where
  -- An answer that fits stands behind what is written, and every place before and behind it is as it was;
  pub said_whole : fits buffer written answer ≡ true
      → (count_after buffer written answer ≡ written + length answer) × (buffer_after buffer written answer ≡ take written buffer ++ answer ++ drop (written + length answer) buffer)
  said_whole e = (rw e, rw e (sets-eq answer buffer written (leb-true (written + length answer) (length buffer) e)))

  -- of one that does not, nothing is written.
  pub or_not_at_all : fits buffer written answer ≡ false → (count_after buffer written answer ≡ written) × (buffer_after buffer written answer ≡ buffer)
  or_not_at_all e = (rw e, rw e)

  pub room_stays : length (buffer_after buffer written answer) ≡ length buffer
  room_stays = by_test (fits buffer written answer) (λ e. rw e (length-sets buffer written answer)) (λ e. rw e)
