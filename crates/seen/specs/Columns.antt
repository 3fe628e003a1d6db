-- What the column question tells: who owns a place of the display and what stands there (request T-01). Assumes nothing.
use Rattle.std.specs.Prelude.{ℕ, ◌-◌, ◌/◌, Bool, false, not, cond, ◌||◌, ltb, get_or, Result, Ok, Err}
use Rattle.record.specs.Range.{in_range}
use Rattle.record.specs.declared.Record.{Record}
use Rattle.record.specs.declared.Refusal.{Refusal}
use Rattle.record.specs.declared.Refusal.TheVariants.{FieldOutOfRange, NotListed}
use Rattle.seen_panels.specs.declared.Phase.{Phase}
use Rattle.seen_panels.specs.declared.Phase.TheVariants.{Lit}
use Rattle.seen_owners.specs.Table.{last_row, last_column, is_rocker, owner_in, owner_at}
use Rattle.seen.specs.Line.{small_line, big_line}
use Rattle.seen.specs.Rows.{text_row, picture_row, labels_of, no_bar, contents}
use Rattle.seen_owners.specs.declared.Owner.{Owner}
use Rattle.seen_owners.specs.declared.Owner.TheVariants.{Nothing, IconBar, TextRow, PictureRow, SoftKeys, SmallLine, BigLine, PictureWithRocker}
use Rattle.seen.specs.declared.Shown.{Shown}
use Rattle.seen.specs.declared.Shown.TheVariants as Shows
use Rattle.seen.specs.declared.Bar.{Bar}
use Rattle.seen.specs.declared.Labels.{Labels}
use Rattle.seen.specs.declared.Row.{Row}
use Rattle.seen.specs.declared.ColumnSeen.{ColumnSeen}

-- a character has 6 columns, a big one 12
abbrev pub cell : ℕ → ℕ
cell column = column / 6

abbrev pub big_cell : ℕ → ℕ
big_cell column = column / 12

-- the soft keys: a cell of the left label at columns 0-41, icon W at 42-53, a cell of the right label from 54 on. A label's unused
-- places hold zero, so a cell past its length is told as zero
unfoldable pub soft_key_at : Labels → ℕ → Shown
soft_key_at l column =
    cond (ltb column 42) (Shows.LeftLabel (get_or l.left.codes (cell column) 0))
    (cond (ltb column 54) (Shows.Rocker l.w) (Shows.RightLabel (get_or l.right.codes (cell (column - 54)) 0)))

-- the contents of a place, by its owner; no place has the two owners of a row
unfoldable pub shown_at : Record → ℕ → Owner → Shown
shown_at r column Nothing = Shows.Nothing
shown_at r column IconBar = Shows.Bar
shown_at r column (TextRow n) = Shows.Code (get_or (text_row r n) (cell column) 0)
shown_at r column (PictureRow n) = Shows.Column (get_or (picture_row r n) column 0)
shown_at r column SoftKeys = soft_key_at (labels_of r.settings) column
shown_at r column SmallLine = Shows.Code (get_or (small_line r) (cell column) 0)
shown_at r column (BigLine half) = Shows.Code (get_or (big_line r) (big_cell column) 0)
shown_at r column (PictureWithRocker n) = Shows.Nothing

-- the icon bar is told whole, and the mark is its row's
abbrev pub bar_at : Record → Phase → Owner → Bar
bar_at r phase owner = (contents r phase owner).bar

abbrev pub inverse_at : Record → Owner → Bool
inverse_at r owner = (contents r Lit owner).inverse

abbrev pub no_place : ColumnSeen
no_place = record { owner = Nothing; shown = Shows.Nothing; bar = no_bar; inverse = false }

abbrev pub place_of : Record → Phase → ℕ → Owner → ColumnSeen
place_of r phase column owner = record { owner = owner; shown = shown_at r column owner; bar = bar_at r phase owner; inverse = inverse_at r owner }

-- refused for a field out of range, then for a display row or a column above the last
unfoldable pub column_seen : Record → ℕ → ℕ → Phase → Result ColumnSeen Refusal
column_seen r row column phase =
    cond (not (in_range r)) (Err FieldOutOfRange)
    (cond (ltb last_row row || ltb last_column column) (Err NotListed) (Ok (place_of r phase column (owner_at r row column))))

-- the place that it tells: where it is refused it tells nothing
abbrev pub column_told : Result ColumnSeen Refusal → ColumnSeen
column_told (Ok q) = q
column_told (Err refusal) = no_place

-- The same read off a row -----------------------------------------------------------------------------------------

-- what stands there
abbrev pub shown_in : Row → Owner → ℕ → Shown
shown_in q Nothing column = Shows.Nothing
shown_in q IconBar column = Shows.Bar
shown_in q (TextRow n) column = Shows.Code (get_or q.codes (cell column) 0)
shown_in q (PictureRow n) column = Shows.Column (get_or q.columns column 0)
shown_in q SoftKeys column = soft_key_at q.labels column
shown_in q SmallLine column = Shows.Code (get_or q.codes (cell column) 0)
shown_in q (BigLine half) column = Shows.Code (get_or q.codes (big_cell column) 0)
shown_in q (PictureWithRocker n) column = cond (is_rocker column) (Shows.Rocker q.labels.w) (Shows.Column (get_or q.columns column 0))

abbrev pub column_of : Row → ℕ → ColumnSeen
column_of q column = record { owner = owner_in q.owner column; shown = shown_in q q.owner column; bar = q.bar; inverse = q.inverse }

-- the same where the row may be refused: then so is the column
abbrev pub column_read : Result Row Refusal → ℕ → Result ColumnSeen Refusal
column_read (Ok q) column = Ok (column_of q column)
column_read (Err refusal) column = Err refusal
