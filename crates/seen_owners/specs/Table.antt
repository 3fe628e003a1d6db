-- WHO OWNS EACH DISPLAY ROW, AND EACH COLUMN OF IT: the table of request T-01 ("What is seen"). Hold this page against it.
-- Assumes nothing.
use Rattle.std.specs.Prelude.{ℕ, ◌-◌, Bool, true, false, cond, ◌&&◌, List, [], ◌∷◌, leb, ltb, eqb, get_or}
use Prim.Native.Char.{code}
use Rattle.lists.specs.Codes.{ascii}
use Rattle.record.specs.Range.{large}
use Rattle.record.specs.declared.Record.{Record}
use Rattle.record.specs.declared.Screen.{Screen}
use Rattle.seen_owners.specs.declared.Owner.{Owner}
use Rattle.seen_owners.specs.declared.Owner.TheVariants.{Nothing, IconBar, TextRow, PictureRow, SoftKeys, SmallLine, BigLine, PictureWithRocker}

-- the last display row, and its last column
abbrev pub last_row : ℕ
last_row = 6

abbrev pub last_column : ℕ
last_column = 95

-- A letter for each of the display rows 0 to 6: B the icon bar; 0 to 4 that text row; S the small codes of the large line, U and L the
-- upper and the lower half of its big ones; P the picture row of the display row's number; K the soft keys; R the picture row with the
-- rocker panel in it; T what the text mode shows there with no overlay; - nothing.
abbrev pub table : List (List ℕ)
table =
    -- no overlay: modes 0 and 1, modes 5 and 6, mode 10
    ascii "B0123K-"
    ∷ ascii "01234K-"
    ∷ ascii "BSUL-K-"
    -- overlays 11 to 18
    ∷ ascii "BPPPPK-"
    ∷ ascii "PPPPPK-"
    ∷ ascii "PPPPPPP"
    ∷ ascii "BPPPPRP"
    ∷ ascii "PPPPPRP"
    ∷ ascii "BPPTTK-"
    ∷ ascii "BTTPPK-"
    ∷ ascii "BTTTTRP"
    -- any other
    ∷ ascii "-------"
    ∷ []

unfoldable pub letter_in : ℕ → ℕ → ℕ
letter_in line row = get_or (get_or table line []) row 0

-- the line of a text mode, with no overlay
unfoldable pub mode_line : ℕ → ℕ
mode_line mode = cond (leb mode 1) 0 (cond (eqb mode large) 2 1)

unfoldable pub line_of : ℕ → ℕ → ℕ
line_of overlay mode = cond (eqb overlay 0) (mode_line mode) (cond (leb 11 overlay && leb overlay 18) (overlay - 8) 11)

-- the letter of a display row, the text mode's own where the overlay leaves the row to it
unfoldable pub letter_at : ℕ → ℕ → ℕ → ℕ
letter_at overlay mode row =
    cond (eqb (letter_in (line_of overlay mode) row) (code "T")) (letter_in (mode_line mode) row) (letter_in (line_of overlay mode) row)

-- what a letter stands for in a display row
unfoldable pub by_letter : ℕ → ℕ → Owner
by_letter letter row =
    cond (leb (code "0") letter && leb letter (code "4")) (TextRow (letter - code "0"))
    (cond (eqb letter (code "B")) IconBar
    (cond (eqb letter (code "S")) SmallLine
    (cond (eqb letter (code "U")) (BigLine 0)
    (cond (eqb letter (code "L")) (BigLine 1)
    (cond (eqb letter (code "P")) (PictureRow row)
    (cond (eqb letter (code "K")) SoftKeys
    (cond (eqb letter (code "R")) (PictureWithRocker row) Nothing)))))))

-- the owner of a display row; with the display off there is none
unfoldable pub owner_of_row : Screen → ℕ → Owner
owner_of_row s row = cond (s.display && leb row last_row) (by_letter (letter_at s.overlay s.mode row) row) Nothing

abbrev pub row_owner : Record → ℕ → Owner
row_owner r row = owner_of_row r.settings.screen row

-- the rocker panel: columns 42 to 53, between two labels of seven cells, six columns each
abbrev pub is_rocker : ℕ → Bool
is_rocker column = leb 42 column && ltb column 54

-- a column of a picture row with the rocker panel in it
abbrev pub rocker_or : ℕ → ℕ → Owner
rocker_or n column = cond (is_rocker column) SoftKeys (PictureRow n)

-- whose a column is, by the owner of its row
abbrev pub owner_in : Owner → ℕ → Owner
owner_in Nothing column = Nothing
owner_in IconBar column = IconBar
owner_in (TextRow n) column = TextRow n
owner_in (PictureRow n) column = PictureRow n
owner_in SoftKeys column = SoftKeys
owner_in SmallLine column = SmallLine
owner_in (BigLine half) column = BigLine half
owner_in (PictureWithRocker n) column = rocker_or n column

abbrev pub owner_on : Screen → ℕ → ℕ → Owner
owner_on s row column = owner_in (owner_of_row s row) column

abbrev pub owner_at : Record → ℕ → ℕ → Owner
owner_at r row column = owner_on r.settings.screen row column

-- an owner that is two: the picture and, between its columns, the rocker panel
abbrev pub is_two : Owner → Bool
is_two Nothing = false
is_two IconBar = false
is_two (TextRow n) = false
is_two (PictureRow n) = false
is_two SoftKeys = false
is_two SmallLine = false
is_two (BigLine half) = false
is_two (PictureWithRocker n) = true

abbrev pub two_owners : Screen → ℕ → Bool
two_owners s row = is_two (owner_of_row s row)

-- an owner that shows the large line
abbrev pub is_line : Owner → Bool
is_line Nothing = false
is_line IconBar = false
is_line (TextRow n) = false
is_line (PictureRow n) = false
is_line SoftKeys = false
is_line SmallLine = true
is_line (BigLine half) = true
is_line (PictureWithRocker n) = false

-- an owner names a row that the record has: text 0-4, picture 0-6
abbrev pub placed : Owner → Bool
placed Nothing = true
placed IconBar = true
placed (TextRow n) = ltb n 5
placed (PictureRow n) = ltb n 7
placed SoftKeys = true
placed SmallLine = true
placed (BigLine half) = true
placed (PictureWithRocker n) = ltb n 7
