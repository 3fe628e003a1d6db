-- Worked cases of reading and writing picture data, computed from the definitions. Assumes nothing.
use Rattle.std.specs.Prelude.{ℕ, List, [], ◌∷◌, ◌++◌, map, ◌≡◌, refl, length, replicate}
use Rattle.lists.specs.Codes.{ascii}
use Rattle.picture.specs.Reading.{hex_of, times_of, items, columns_of}
use Rattle.picture.specs.Writing.{hex_code, item_text, text_of}

-- 001's example: 4 columns 00, 5 FF, 8 33, 1B, 2C, 7 00
abbrev pub example : List ℕ
example =
    replicate 4 0 ++ replicate 5 0xFF ++ replicate 8 0x33 ++ (0x1B ∷ 0x2C ∷ []) ++ replicate 7 0

-- each case: what the definition gives, and what document 01 asks for; no columns where it is no data
abbrev pub table : List (List ℕ × List ℕ)
table =
    -- c00dFFg331B2Cf00: 26 columns
    (columns_of (ascii "c00dFFg331B2Cf00"), example)
    ∷ (length (columns_of (ascii "c00dFFg331B2Cf00")) ∷ [], 26 ∷ [])
    -- a lone y, or ff: bad; fff the same
    ∷ (columns_of (ascii "y"), [])
    ∷ (columns_of (ascii "ff"), [])
    ∷ (columns_of (ascii "fff"), [])
    -- f0F is seven columns 0F
    ∷ (columns_of (ascii "f0F"), replicate 7 0x0F)
    -- two digits 0-9 or A-F give one column
    ∷ (columns_of (ascii "00"), 0 ∷ [])
    ∷ (columns_of (ascii "9AF0"), 0x9A ∷ 0xF0 ∷ [])
    -- a letter a to y gives 2 to 26 columns: a is 2, y is 26
    ∷ (columns_of (ascii "a00"), replicate 2 0)
    ∷ (columns_of (ascii "y00"), replicate 26 0)
    -- z is no such letter, nor is the code before a
    ∷ (columns_of (ascii "z00"), [])
    ∷ (columns_of (ascii "`00"), [])
    -- digits in lower case are bad, and the neighbours of 0, 9, A and F
    ∷ (columns_of (ascii "0f"), [])
    ∷ (columns_of (ascii "1B2c"), [])
    ∷ (columns_of (ascii "/0"), [])
    ∷ (columns_of (ascii "0:"), [])
    ∷ (columns_of (ascii "@0"), [])
    ∷ (columns_of (ascii "0G"), [])
    -- one digit left over is bad, and two letters before digits
    ∷ (columns_of (ascii "000"), [])
    ∷ (columns_of (ascii "a0"), [])
    ∷ (columns_of (ascii "aa00"), [])
    -- one or more items
    ∷ (columns_of (ascii ""), [])
    -- in all 1 to 96 columns: 96 are data, 97 are not
    ∷ (columns_of (ascii "y00y00y00q00"), replicate 96 0)
    ∷ (columns_of (ascii "y00y00y00r00"), [])
    ∷ (columns_of (ascii "y00y00y00q0000"), [])
    -- 27 columns of 0 are written y0000
    ∷ (text_of (replicate 27 0), ascii "y0000")
    -- each longest run is cut into 26s from the left
    ∷ (text_of (replicate 25 0), ascii "x00")
    ∷ (text_of (replicate 26 0), ascii "y00")
    ∷ (text_of (replicate 28 0), ascii "y00a00")
    ∷ (text_of (replicate 52 0), ascii "y00y00")
    ∷ (text_of (replicate 53 0), ascii "y00y0000")
    -- a single column without a letter
    ∷ (text_of (0xAB ∷ []), ascii "AB")
    ∷ (text_of (0x0F ∷ 0xF0 ∷ 0x0F ∷ []), ascii "0FF00F")
    ∷ (text_of (1 ∷ 1 ∷ 2 ∷ []), ascii "a0102")
    ∷ (text_of example, ascii "c00dFFg331B2Cf00")
    -- 96 columns are written, 97 or none are not
    ∷ (text_of (replicate 96 0xFF), ascii "yFFyFFyFFqFF")
    ∷ (text_of (replicate 97 0xFF), [])
    ∷ (text_of [], [])
    ∷ []

pub cases : map (λ (c : List ℕ × List ℕ). c.0) table ≡ map (λ (c : List ℕ × List ℕ). c.1) table
unfolding hex_of times_of items columns_of hex_code item_text
cases = refl
