-- Worked cases of lines, computed from the definitions. One table, one statement. Assumes nothing.
use Rattle.std.specs.Prelude.{ℕ, cond, List, [], ◌∷◌, ◌++◌, map, ◌≡◌, refl, replicate}
use Rattle.lists.specs.Codes.{ascii}
use Rattle.numeral.specs.Numeral.{decimal}
use Rattle.line.specs.declared.Line.{Line}
use Rattle.line.specs.Lines.{held, empty_line, added, finds_room, room_with}

abbrev mark : ℕ
mark = 7

-- a line of so many marks
abbrev full : ℕ → Line
full n = added empty_line (replicate n mark)

-- how many codes a line holds, and which
abbrev seen : Line → List ℕ
seen line = line.len ∷ held line

-- whether a line found room, 1 or 0, and then all that stands in the room
abbrev copied : Line → List ℕ → List ℕ
copied line room = cond (finds_room line room) 1 0 ∷ room_with line room

-- each case: what the definitions give, and what is meant
abbrev pub table : List (List ℕ × List ℕ)
table =
    (seen empty_line, 0 ∷ [])
    ∷ (seen (added empty_line []), 0 ∷ [])
    ∷ (seen (added empty_line (ascii "IK1")), 3 ∷ ascii "IK1")
    ∷ (seen (added (added empty_line (ascii "IA")) (decimal 20)), 4 ∷ ascii "IA20")
    ∷ (seen (added (added (added empty_line (ascii "IT")) (decimal 4)) (ascii ";")), 4 ∷ ascii "IT4;")
    -- exact room is enough; one code too many, and none of them is added
    ∷ (seen (added (full 197) (decimal 999)), 200 ∷ (replicate 197 mark ++ ascii "999"))
    ∷ (seen (added (full 198) (decimal 999)), 198 ∷ replicate 198 mark)
    ∷ (seen (added (full 198) (decimal 99)), 200 ∷ (replicate 198 mark ++ ascii "99"))
    ∷ (seen (full 201), 0 ∷ [])
    -- into a room with a place more, with exact room, with one place less
    ∷ (copied (added empty_line (ascii "IA")) (ascii "abc"), 1 ∷ ascii "IAc")
    ∷ (copied (added empty_line (ascii "IA")) (ascii "ab"), 1 ∷ ascii "IA")
    ∷ (copied (added empty_line (ascii "IA")) (ascii "a"), 0 ∷ ascii "a")
    ∷ (copied empty_line [], 1 ∷ [])
    -- a length that no line can have
    ∷ (copied (record { len = 201; bytes = replicate 200 0 }) (replicate 202 mark), 0 ∷ replicate 202 mark)
    ∷ []

pub cases : map (λ (c : List ℕ × List ℕ). c.0) table ≡ map (λ (c : List ℕ × List ℕ). c.1) table
unfolding added finds_room room_with
cases = refl
