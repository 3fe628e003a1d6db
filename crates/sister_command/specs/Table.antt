-- The sister's table, as it stands in the code: a letter for each class and each state, @ for none. Assumes nothing.
use Rattle.std.specs.Prelude.{ℕ, List, [], ◌∷◌, replicate}
use Prim.Native.Char.{code}
use Rattle.lists.specs.Codes.{ascii}
use Rattle.frame_table.specs.Table.{Table, joined}

-- bytes 0x00 to 0x7F, thirty-two to a row, and those above, which are in no frame
unfoldable pub classes : List ℕ
classes =
    joined
    (ascii "@@@@@@@@@@@@@@@@@@@@@@@@@@@@@@@@"  -- no sign
    ∷ ascii "@@@@@@E@@@@X@X@@ABBBBBBBBB@C@@@W"  -- signs and digits
    ∷ ascii "@GYHIJY@KDYFYLM@NOPQRYSY@@Y@@@@@"  -- capital letters
    ∷ ascii "@@@T@U@@@@@@@@@@@@@V@@@@@@@@@@@@"  -- small letters
    ∷ replicate 128 (code "@")
    ∷ [])

-- a row for each class, a column for each state from @ on
unfoldable pub next_states : List ℕ
next_states =
    joined
    (ascii "@@@@@@@@@@@@@@@@@@@"  -- @ any other byte
    ∷ ascii "@@@I@@RRRROR@NO@QR@"  -- A 0
    ∷ ascii "@@@@@@PPP@MP@NO@QR@"  -- B 1 to 9
    ∷ ascii "@@@@@@@@@@@@@KKK@@@"  -- C ;
    ∷ ascii "@B@@@@@@@@@@@@@@@@@"  -- D I
    ∷ ascii "@C@@@@@@@@@@@@@@@@@"  -- E &
    ∷ ascii "@DIR@@@@@@@@@@@@@@@"  -- F K
    ∷ ascii "@@H@@@@R@@@@@@@@@@@"  -- G A
    ∷ ascii "@@@K@@@@@@@@@@@@@@@"  -- H C
    ∷ ascii "@@ER@@R@@@@@@@@@@@@"  -- I D
    ∷ ascii "@@G@@@RR@@@@@@@@@@@"  -- J E
    ∷ ascii "@@@JL@@@@@@@@@@@@@@"  -- K H
    ∷ ascii "@@K@@F@@@@@@@@@@@@@"  -- L M
    ∷ ascii "@@H@@@@@@@@@@@@@@@@"  -- M N
    ∷ ascii "@@K@L@@R@@@@@@@@@@@"  -- N P
    ∷ ascii "@@@@@@@R@@@@@@@@@@@"  -- O Q
    ∷ ascii "@@K@@@@R@@@@@@@@@@@"  -- P R
    ∷ ascii "@@K@@@@R@@@@@@@@@@@"  -- Q S
    ∷ ascii "@@J@@@@@@@@@@@@@@@@"  -- R T
    ∷ ascii "@@HL@@@@@@@@@@@@@@@"  -- S V
    ∷ ascii "@@@@@@@R@@@@@@@@@@@"  -- T c
    ∷ ascii "@@@@@@@R@@@@@@@@@@@"  -- U e
    ∷ ascii "@@@@@@@R@@@@@@@@@@@"  -- V s
    ∷ ascii "@@@@@@RRR@R@R@@@@@@"  -- W ?
    ∷ ascii "@@@@@@@@R@@@@@@@@@@"  -- X + or -
    ∷ ascii "@@K@@@@@@@@@@@@@@@@"  -- Y B, F, J, L, U, W or Z
    ∷ [])

abbrev pub table : Table
table = record { class = classes; next = next_states; states = 19; good = 16 }

-- what leads to each state: a frame so far
abbrev pub examples : List (List ℕ)
examples =
    ascii "x"  -- @ no frame
    ∷ ascii ""  -- A start
    ∷ ascii "I"  -- B after I
    ∷ ascii "&"  -- C after &
    ∷ ascii "K"  -- D after K
    ∷ ascii "ID"  -- E after ID: an M
    ∷ ascii "IDM"  -- F after IDM
    ∷ ascii "IE"  -- G after IE
    ∷ ascii "IA"  -- H after IA, IN or IV: a number, a question or a step
    ∷ ascii "IK"  -- I a 0; after IK also 1 or 2, which opens a label
    ∷ ascii "IT"  -- J after IT or &H: two numbers or a question
    ∷ ascii "IS"  -- K a number
    ∷ ascii "&V"  -- L a question
    ∷ ascii "IT1"  -- M first of two numbers, up to two digits more
    ∷ ascii "IT11"  -- N first of two numbers, up to one digit more
    ∷ ascii "IT0"  -- O first of two numbers is whole
    ∷ ascii "IS1"  -- P up to two digits more, or the end
    ∷ ascii "IS11"  -- Q up to one digit more, or the end
    ∷ ascii "IDMD"  -- R the end
    ∷ []
