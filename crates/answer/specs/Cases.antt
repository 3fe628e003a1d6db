-- Worked cases of the answers, and of how they are written into rooms of every size, computed from the definitions. Assumes nothing.
use Rattle.std.specs.Prelude.{ℕ, zero, suc, true, false, List, [], ◌∷◌, ◌++◌, map, ◌≡◌, refl, replicate}
use Prim.Native.Char.{code}
use Rattle.lists.specs.Codes.{ascii, escape, carriage_return, line_feed}
use Rattle.answer.specs.declared.Answer.{Answer}
use Rattle.answer.specs.declared.Answer.TheVariants.{Silence, QuestionMark, Contrast, Hook, Version}
use Rattle.answer.specs.Answers.{answer_bytes, count_after, buffer_after}

-- 0 up to 30
abbrev up_to : ℕ → List ℕ
up_to zero = 0 ∷ []
up_to (suc n) = up_to n ++ suc n ∷ []

-- how many bytes of an answer are written into a room of each size; the contrast is 10, the handset on-hook
abbrev pub counts_in : Answer → List ℕ
counts_in a = map (λ (room : ℕ). count_after (replicate room 0) 0 (answer_bytes a 10 true)) (up_to 30)

-- an answer behind two bytes in a room of a size
abbrev pub behind_two : Answer → ℕ → List ℕ
behind_two a room = buffer_after (code "?" ∷ code "?" ∷ replicate room 0) 2 (answer_bytes a 10 true)

-- each case: what the definition gives, and what request T-04 asks for
abbrev pub table : List (List ℕ × List ℕ)
table =
    (answer_bytes Silence 10 true, [])
    ∷ (answer_bytes QuestionMark 10 true, 0x3F ∷ [])
    -- the contrast without leading zeros, and no LF
    ∷ (answer_bytes Contrast 10 true, 0x1B ∷ 0x49 ∷ 0x41 ∷ 0x31 ∷ 0x30 ∷ 0x0D ∷ [])
    ∷ (answer_bytes Contrast 1 true, 0x1B ∷ 0x49 ∷ 0x41 ∷ 0x31 ∷ 0x0D ∷ [])
    ∷ (answer_bytes Contrast 9 true, 0x1B ∷ 0x49 ∷ 0x41 ∷ 0x39 ∷ 0x0D ∷ [])
    ∷ (answer_bytes Contrast 20 true, 0x1B ∷ 0x49 ∷ 0x41 ∷ 0x32 ∷ 0x30 ∷ 0x0D ∷ [])
    -- H is on-hook, h off-hook, and no LF
    ∷ (answer_bytes Hook 10 true, 0x1B ∷ 0x49 ∷ 0x48 ∷ 0x48 ∷ 0x0D ∷ [])
    ∷ (answer_bytes Hook 10 false, 0x1B ∷ 0x49 ∷ 0x48 ∷ 0x68 ∷ 0x0D ∷ [])
    -- 29 bytes, with LF
    ∷ (
      answer_bytes Version 10 true,
      0x1B ∷ 0x26 ∷ 0x56 ∷ 0x48 ∷ 0x41 ∷ 0x32 ∷ 0x30 ∷ 0x39 ∷ 0x20 ∷ 0x56 ∷ 0x2E ∷ 0x30 ∷ 0x31 ∷ 0x2E ∷ 0x30 ∷ 0x31 ∷ 0x20 ∷ 0x31 ∷ 0x31 ∷ 0x2E ∷ 0x30 ∷ 0x37 ∷ 0x2E ∷ 0x32 ∷ 0x30 ∷ 0x30 ∷ 0x36 ∷ 0x0D ∷ 0x0A ∷ [],
    )
    -- rooms of 0 to 30: whole or not at all
    ∷ (counts_in Silence, replicate 31 0)
    ∷ (counts_in QuestionMark, replicate 1 0 ++ replicate 30 1)
    ∷ (counts_in Contrast, replicate 6 0 ++ replicate 25 6)
    ∷ (counts_in Hook, replicate 5 0 ++ replicate 26 5)
    ∷ (counts_in Version, replicate 29 0 ++ replicate 2 29)
    -- one byte too few, just enough, and one more, behind what is written
    ∷ (behind_two Hook 4, ascii "??" ++ replicate 4 0)
    ∷ (behind_two Hook 5, ascii "??" ++ (escape ∷ ascii "IHH") ++ carriage_return ∷ [])
    ∷ (behind_two Hook 6, ascii "??" ++ (escape ∷ ascii "IHH") ++ carriage_return ∷ 0 ∷ [])
    ∷ (behind_two Version 28, ascii "??" ++ replicate 28 0)
    ∷ (behind_two Version 29, ascii "??" ++ (escape ∷ ascii "&VHA209 V.01.01 11.07.2006") ++ carriage_return ∷ line_feed ∷ [])
    -- a count beyond the room leaves the room and the count
    ∷ (count_after (replicate 9 0) 10 (answer_bytes QuestionMark 10 true) ∷ [], 10 ∷ [])
    ∷ (buffer_after (replicate 9 0) 10 (answer_bytes QuestionMark 10 true), replicate 9 0)
    ∷ []

pub cases : map (λ (c : List ℕ × List ℕ). c.0) table ≡ map (λ (c : List ℕ × List ℕ). c.1) table
cases = refl
