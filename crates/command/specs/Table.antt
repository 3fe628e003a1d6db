-- The table of the first edition, as it stands in the code: a letter for each class and each state, @ for none. Assumes nothing.
use Rattle.std.specs.Prelude.{ℕ, List, [], ◌∷◌, replicate}
use Prim.Native.Char.{code}
use Rattle.lists.specs.Codes.{ascii}
use Rattle.frame_table.specs.Table.{Table, joined}

-- bytes 0x00 to 0x7F, sixteen to a row, and those above, which are in no frame
unfoldable pub classes : List ℕ
classes =
    joined
    (ascii "@@@@@@@@@@@@@@@@"
    ∷ ascii "@@@@@@@@@@@@@@@@"
    ∷ ascii "@@@N@@E@@@@@@@@@"
    ∷ ascii "ABBBBBBBBB@C@@@@"
    ∷ ascii "@GPNHIP@JDPKPP@@"
    ∷ ascii "P@MMLPNP@@PF@@@@"
    ∷ ascii "@@@@@O@@@@@@@@@@"
    ∷ ascii "@@O@@@@@@@@@@@@@"
    ∷ replicate 128 (code "@")
    ∷ [])

-- a row for each class, a column for each state from @ on
unfoldable pub next_states : List ℕ
next_states =
    joined
    (ascii "@@@@@@@@@@@@@@@@@@@@@@@@"  -- @ any other byte
    ∷ ascii "@@@@OWWWLWKL@NO@SRS@WVW@"  -- A 0
    ∷ ascii "@@@@MUU@JUKL@NO@QRS@UVW@"  -- B 1 to 9
    ∷ ascii "@@@@@@@@@@IIIPPP@@@@@@@@"  -- C ;
    ∷ ascii "@BI@@@@@@@@@@@@@@@@@@@@@"  -- D I
    ∷ ascii "@C@@@@@@@@@@@@@@@@@@@@@@"  -- E &
    ∷ ascii "@D@@@@@@@@@@@@@@@@@@@@@@"  -- F [
    ∷ ascii "@@T@@@W@@@@@@@@@@@@@@@@@"  -- G A
    ∷ ascii "@@EW@W@@@@@@@@@@@@@@@@@@"  -- H D
    ∷ ascii "@@F@@WW@@@@@@@@@@@@@@@@@"  -- I E
    ∷ ascii "@@W@@@@@@@@@@@@@@WWW@@@@"  -- J H
    ∷ ascii "@@G@W@@@@@@@@@@@@@@@@@@@"  -- K K
    ∷ ascii "@@H@@@@@@@@@@@@@@@@@@@@@"  -- L T
    ∷ ascii "@@I@@@W@@@@@@@@@@@@@@@@@"  -- M R or S
    ∷ ascii "@@@W@@@@@@@@@@@@@@@@@@@@"  -- N C, V or #
    ∷ ascii "@@@@@@W@@@@@@@@@@@@@@@@@"  -- O e or r
    ∷ ascii "@@I@@@@@@@@@@@@@@@@@@@@@"  -- P B, F, J, L, M, P, U, W or Z
    ∷ [])

abbrev pub table : Table
table = record { class = classes; next = next_states; states = 24; good = 20 }

-- what leads to each state: a frame so far
abbrev pub examples : List (List ℕ)
examples =
    ascii "x"  -- @ refused
    ∷ ascii ""  -- A start
    ∷ ascii "I"  -- B after I
    ∷ ascii "&"  -- C after &
    ∷ ascii "["  -- D after [
    ∷ ascii "ID"  -- E after ID
    ∷ ascii "IE"  -- F after IE
    ∷ ascii "IK"  -- G after IK: 0, or 1 or 2, which opens a label
    ∷ ascii "IT"  -- H after IT: Time1
    ∷ ascii "IS"  -- I a number
    ∷ ascii "IT1"  -- J Time1, up to two digits more
    ∷ ascii "IT11"  -- K Time1, up to one digit more
    ∷ ascii "IT0"  -- L Time1 is whole
    ∷ ascii "[1"  -- M row, up to two digits more
    ∷ ascii "[11"  -- N row, up to one digit more
    ∷ ascii "[0"  -- O row is whole
    ∷ ascii "[0;"  -- P column
    ∷ ascii "[0;1"  -- Q column, up to two digits more
    ∷ ascii "[0;11"  -- R column, up to one digit more
    ∷ ascii "[0;0"  -- S column is whole
    ∷ ascii "IA"  -- T after IA: a number or the end
    ∷ ascii "IS1"  -- U up to two digits more, or the end
    ∷ ascii "IS11"  -- V up to one digit more, or the end
    ∷ ascii "IDD"  -- W the end
    ∷ []
