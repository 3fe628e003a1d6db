-- Worked cases of the sister's answers, and of rooms that are just long enough or too short, computed from the definitions. One table,
-- one statement. Assumes nothing.
use Rattle.std.specs.Prelude.{ℕ, true, false, List, [], ◌∷◌, ◌++◌, map, ◌≡◌, refl, length, replicate}
use Rattle.lists.specs.Codes.{ascii}
use Rattle.answer.specs.Answers.{count_after, buffer_after}
use Rattle.sister_answer.specs.declared.Told.{Told}
use Rattle.sister_answer.specs.declared.Told.TheVariants.{Silence, Mark, Version, Place, Mode, Light, Contrast, Brightness, Speaker, Times, Hook, Ptt}
use Rattle.sister_answer.specs.Told.{told_bytes}

-- an answer into a room of a size
abbrev pub count_in : Told → ℕ → ℕ
count_in t room = count_after (replicate room 0) 0 (told_bytes t)

-- each case: what the definition gives, and what request T-06 asks for
abbrev pub table : List (List ℕ × List ℕ)
table =
    (told_bytes Silence, [])
    -- no blank between '?' and CR
    ∷ (told_bytes Mark, 0x3F ∷ 0x0D ∷ 0x0A ∷ [])
    ∷ (told_bytes Version, (0x1B ∷ ascii "&V: HA400 V.01.00 25.09.2006") ++ 0x0D ∷ 0x0A ∷ [])
    ∷ (length (told_bytes Version) ∷ [], 31 ∷ [])
    ∷ (told_bytes (Place 0 0), (0x1B ∷ ascii "&H: 0;0") ++ 0x0D ∷ 0x0A ∷ [])
    ∷ (told_bytes (Place 4 16), (0x1B ∷ ascii "&H: 4;16") ++ 0x0D ∷ 0x0A ∷ [])
    ∷ (told_bytes (Mode 4), (0x1B ∷ ascii "IDM: 4") ++ 0x0D ∷ 0x0A ∷ [])
    ∷ (told_bytes (Mode 12), (0x1B ∷ ascii "IDM: 12") ++ 0x0D ∷ 0x0A ∷ [])
    ∷ (told_bytes (Light 2 30), (0x1B ∷ ascii "IE: 2;30") ++ 0x0D ∷ 0x0A ∷ [])
    ∷ (told_bytes (Light 4 250), (0x1B ∷ ascii "IE: 4;250") ++ 0x0D ∷ 0x0A ∷ [])
    ∷ (told_bytes (Contrast 10), 0x1B ∷ 0x49 ∷ 0x41 ∷ 0x3A ∷ 0x20 ∷ 0x31 ∷ 0x30 ∷ 0x0D ∷ 0x0A ∷ [])
    ∷ (told_bytes (Brightness 50), (0x1B ∷ ascii "IN: 50") ++ 0x0D ∷ 0x0A ∷ [])
    ∷ (told_bytes (Brightness 100), (0x1B ∷ ascii "IN: 100") ++ 0x0D ∷ 0x0A ∷ [])
    ∷ (told_bytes (Speaker 4), (0x1B ∷ ascii "IV: 4") ++ 0x0D ∷ 0x0A ∷ [])
    ∷ (told_bytes (Times 12 12), (0x1B ∷ ascii "IT: 12;12") ++ 0x0D ∷ 0x0A ∷ [])
    ∷ (told_bytes (Times 0 0), (0x1B ∷ ascii "IT: 0;0") ++ 0x0D ∷ 0x0A ∷ [])
    -- H is on-hook, h off-hook; P pressed, p released
    ∷ (told_bytes (Hook true), 0x1B ∷ 0x4B ∷ 0x48 ∷ 0x3A ∷ 0x20 ∷ 0x48 ∷ 0x0D ∷ 0x0A ∷ [])
    ∷ (told_bytes (Hook false), 0x1B ∷ 0x4B ∷ 0x48 ∷ 0x3A ∷ 0x20 ∷ 0x68 ∷ 0x0D ∷ 0x0A ∷ [])
    ∷ (told_bytes (Ptt true), 0x1B ∷ 0x4B ∷ 0x50 ∷ 0x3A ∷ 0x20 ∷ 0x50 ∷ 0x0D ∷ 0x0A ∷ [])
    ∷ (told_bytes (Ptt false), 0x1B ∷ 0x4B ∷ 0x50 ∷ 0x3A ∷ 0x20 ∷ 0x70 ∷ 0x0D ∷ 0x0A ∷ [])
    -- one byte too few, just enough, one more: whole or not at all
    ∷ (count_in Mark 2 ∷ count_in Mark 3 ∷ count_in Mark 4 ∷ [], 0 ∷ 3 ∷ 3 ∷ [])
    ∷ (count_in Version 30 ∷ count_in Version 31 ∷ count_in Version 32 ∷ [], 0 ∷ 31 ∷ 31 ∷ [])
    -- behind what is written
    ∷ (buffer_after (ascii "abcde") 2 (told_bytes Mark), ascii "ab?" ++ 0x0D ∷ 0x0A ∷ [])
    ∷ (buffer_after (ascii "abcde") 3 (told_bytes Mark), ascii "abcde")
    ∷ []

pub cases : map (λ (c : List ℕ × List ℕ). c.0) table ≡ map (λ (c : List ℕ × List ℕ). c.1) table
cases = refl
