-- What the collector is answered, byte for byte (request T-04; the note, 3.5.6, 3.5.12 to 3.5.15), how an answer is written, whole or
-- not at all, and how answers are counted. Assumes nothing.
use Rattle.std.specs.Prelude.{ℕ, ◌+◌, Bool, true, false, cond, ◌||◌, List, [], ◌∷◌, ◌++◌, eqb, leb, length}
use Prim.Native.Char.{code}
use Rattle.std.proofs.lemmas.List.Edits.{sets}
use Rattle.lists.specs.Codes.{ascii, escape, carriage_return, line_feed, question_mark}
use Rattle.lists.specs.Counted.{counted}
use Rattle.numeral.specs.Numeral.{decimal}
use Rattle.answer.specs.declared.Answer.{Answer}
use Rattle.answer.specs.declared.Answer.TheVariants.{Silence, QuestionMark, Contrast, Hook, Version}

-- "Currently Version is" (the note, 3.5.6)
abbrev pub version : List ℕ
version = ascii "HA209 V.01.01 11.07.2006"

-- nothing; '?' to a bad frame; ESC IA, the contrast without leading zeros, CR; ESC IHH CR on-hook, ESC IHh CR off-hook; ESC &V, the
-- version, CR LF: 29 bytes
abbrev pub answer_bytes : Answer → ℕ → Bool → List ℕ
answer_bytes Silence contrast hook = []
answer_bytes QuestionMark contrast hook = question_mark ∷ []
answer_bytes Contrast contrast hook = (escape ∷ ascii "IA") ++ decimal contrast ++ carriage_return ∷ []
answer_bytes Hook contrast hook = (escape ∷ ascii "IH") ++ cond hook (code "H") (code "h") ∷ carriage_return ∷ []
answer_bytes Version contrast hook = (escape ∷ ascii "&V") ++ version ++ carriage_return ∷ line_feed ∷ []

-- no answer at all
abbrev pub is_silence : Answer → Bool
is_silence Silence = true
is_silence QuestionMark = false
is_silence Contrast = false
is_silence Hook = false
is_silence Version = false

-- whether a whole answer fits behind what is written
abbrev pub fits : List ℕ → ℕ → List ℕ → Bool
fits buffer written answer = leb (written + length answer) (length buffer)

-- how much is written then, and the whole buffer: an answer that does not fit changes nothing
abbrev pub count_after : List ℕ → ℕ → List ℕ → ℕ
count_after buffer written answer = cond (fits buffer written answer) (written + length answer) written

abbrev pub buffer_after : List ℕ → ℕ → List ℕ → List ℕ
buffer_after buffer written answer = cond (fits buffer written answer) (sets buffer written answer) buffer

-- HOW MANY ANSWERS these bytes are: each begins with '?' or ESC, and no other byte of it is one of the two
abbrev pub is_head : ℕ → Bool
is_head b = eqb b question_mark || eqb b escape

abbrev pub heads : List ℕ → ℕ
heads = counted is_head
