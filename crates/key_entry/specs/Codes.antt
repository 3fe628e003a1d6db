-- The keys and the codes they send: document 01's order, the codes of the note's section 3.3.1. Assumes nothing.
use Rattle.std.specs.Prelude.{Option, None, Some, ℕ, cond, List, [], ◌∷◌, ◌==◌, slice_index_or}
use Rattle.key_entry.specs.declared.Stage.{Stage}
use Rattle.key_entry.specs.declared.Stage.TheVariants.{Short, Long, Repeat}

-- in the table 0 stands for none: it is no key's code
abbrev pub no_code : ℕ
no_code = 0

-- the three columns of the table
abbrev pub column_of : Stage → ℕ
column_of Short = 0
column_of Long = 1
column_of Repeat = 2

-- keys 0 to 18; short, long and repeat code of each
abbrev pub codes : List (List ℕ)
codes =
    -- left soft
    (0x4C ∷ 0xCC ∷ 0xEC ∷ [])
    -- right soft
    ∷ (0x52 ∷ 0xD2 ∷ 0xE2 ∷ [])
    -- ESC
    ∷ (0x45 ∷ 0xC5 ∷ no_code ∷ [])
    -- ENTER
    ∷ (0x41 ∷ 0xC1 ∷ no_code ∷ [])
    -- up
    ∷ (0x55 ∷ 0xD5 ∷ 0xE5 ∷ [])
    -- down
    ∷ (0x44 ∷ 0xC4 ∷ 0xE4 ∷ [])
    -- "1"
    ∷ (0x31 ∷ 0xB1 ∷ 0xF1 ∷ [])
    -- "2"
    ∷ (0x32 ∷ 0xB2 ∷ 0xF2 ∷ [])
    -- "3"
    ∷ (0x33 ∷ 0xB3 ∷ 0xF3 ∷ [])
    -- "4"
    ∷ (0x34 ∷ 0xB4 ∷ 0xF4 ∷ [])
    -- "5"
    ∷ (0x35 ∷ 0xB5 ∷ 0xF5 ∷ [])
    -- "6"
    ∷ (0x36 ∷ 0xB6 ∷ 0xF6 ∷ [])
    -- "7"
    ∷ (0x37 ∷ 0xB7 ∷ 0xF7 ∷ [])
    -- "8"
    ∷ (0x38 ∷ 0xB8 ∷ 0xF8 ∷ [])
    -- "9"
    ∷ (0x39 ∷ 0xB9 ∷ 0xF9 ∷ [])
    -- "0"
    ∷ (0x30 ∷ 0xB0 ∷ 0xF0 ∷ [])
    -- "*"
    ∷ (0x2A ∷ 0xAA ∷ 0xEA ∷ [])
    -- "#"
    ∷ (0x23 ∷ 0xA3 ∷ 0xEB ∷ [])
    -- ON/OFF
    ∷ (0x4F ∷ 0xCF ∷ 0xEF ∷ [])
    ∷ []

-- the number of the table at a key and a stage: 0 outside it
abbrev pub number_at : ℕ → Stage → ℕ
number_at key stage = slice_index_or (slice_index_or codes key []) (column_of stage) no_code

-- what a number of the table says
abbrev pub code_in : ℕ → Option ℕ
code_in number = cond (number == no_code) None (Some number)

-- the code of any key at a stage: none outside the table
unfoldable pub code_of : ℕ → Stage → Option ℕ
code_of key stage = code_in (number_at key stage)

-- what goes to the host: the code, and for none nothing
abbrev pub sent : Option ℕ → List ℕ
sent None = []
sent (Some code) = code ∷ []
