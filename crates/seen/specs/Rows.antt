-- What the row question and the questions of the two panels tell. Assumes nothing.
use Rattle.std.specs.Prelude.{ℕ, ◌+◌, ◌*◌, Bool, false, not, cond, List, ◌++◌, ltb, get_or, take, drop, replicate, Result, Ok, Err}
use Rattle.std.proofs.Math.Seq.{slice}
use Rattle.lists.specs.Padded.{padded}
use Rattle.record.specs.Range.{in_range}
use Rattle.record.specs.declared.Record.{Record}
use Rattle.record.specs.declared.Settings.{Settings}
use Rattle.record.specs.declared.Held.{Held}
use Rattle.record.specs.declared.Edition.{Edition}
use Rattle.record.specs.declared.Frame.{Frame}
use Rattle.record.specs.declared.Label.{Label}
use Rattle.record.specs.declared.Refusal.{Refusal}
use Rattle.record.specs.declared.Refusal.TheVariants.{FieldOutOfRange, NotListed}
use Rattle.seen_panels.specs.Panels.{sms_panel, volume_panel}
use Rattle.seen_panels.specs.declared.Phase.{Phase}
use Rattle.seen_owners.specs.Table.{last_row, row_owner}
use Rattle.seen.specs.Line.{small_line, big_line}
use Rattle.seen_owners.specs.declared.Owner.{Owner}
use Rattle.seen_owners.specs.declared.Owner.TheVariants.{Nothing, IconBar, TextRow, PictureRow, SoftKeys, SmallLine, BigLine, PictureWithRocker}
use Rattle.seen_panels.specs.declared.SmsPanel.{SmsPanel}
use Rattle.seen_panels.specs.declared.VolumePanel.{VolumePanel}
use Rattle.seen_panels.specs.declared.SmsPanel.TheVariants as Sms
use Rattle.seen_panels.specs.declared.VolumePanel.TheVariants as Sound
use Rattle.seen.specs.declared.Bar.{Bar}
use Rattle.seen.specs.declared.Labels.{Labels}
use Rattle.seen.specs.declared.Row.{Row}

-- Contents --------------------------------------------------------------------------------------------------------

-- so it is with each record that has these settings, text and picture: nothing else of it is seen
abbrev pub Showing : Settings → List ℕ → List ℕ → (Record → Type 0) → Type 0
Showing settings text picture P =
    (held : Held) (frame : Frame) (edition : Edition) → P (record { settings = settings; text = text; picture = picture; held = held; frame = frame; edition = edition })

-- row n of a field of rows that stand one after another
abbrev pub row_of : ℕ → List ℕ → ℕ → List ℕ
row_of width cells n = slice (width * n) (width * n + width) cells

-- 16 codes
abbrev pub text_row : Record → ℕ → List ℕ
text_row r n = row_of 16 r.text n

-- whether text row n has the inverse mark
abbrev pub mark_of : Record → ℕ → Bool
mark_of r n = get_or r.settings.inverse n false

-- 96 columns
abbrev pub picture_row : Record → ℕ → List ℕ
picture_row r n = row_of 96 r.picture n

-- icons F, P and R and the two panels
abbrev pub bar_of : Settings → Phase → Bar
bar_of p phase = record { f = p.icons.f; p = p.icons.p; r = p.icons.r; sms = sms_panel p.icons phase; volume = volume_panel p.volume }

-- both labels and icon W
abbrev pub labels_of : Settings → Labels
labels_of p = record { left = p.left; right = p.right; w = p.icons.w }

-- a picture row with zero in the columns of the rocker panel
abbrev pub around_rocker : List ℕ → List ℕ
around_rocker columns = take 42 columns ++ replicate 12 0 ++ drop 54 columns

-- Unused places of what is told are zero.
abbrev pub no_codes : List ℕ
no_codes = replicate 16 0

unfoldable pub no_columns : List ℕ
no_columns = replicate 96 0

abbrev pub no_bar : Bar
no_bar = record { f = 0; p = 0; r = 0; sms = Sms.Nothing; volume = Sound.Nothing }

abbrev pub no_label : Label
no_label = record { len = 0; codes = replicate 7 0 }

abbrev pub no_labels : Labels
no_labels = record { left = no_label; right = no_label; w = 0 }

-- no owner and no contents
abbrev pub nothing_seen : Row
nothing_seen = record { owner = Nothing; codes = no_codes; columns = no_columns; bar = no_bar; labels = no_labels; inverse = false }

-- the contents of a row, by its owner; the mark is a text row's alone
unfoldable pub contents : Record → Phase → Owner → Row
contents r phase Nothing = nothing_seen
contents r phase IconBar = record { owner = IconBar; codes = no_codes; columns = no_columns; bar = bar_of r.settings phase; labels = no_labels; inverse = false }
contents r phase (TextRow n) = record { owner = TextRow n; codes = text_row r n; columns = no_columns; bar = no_bar; labels = no_labels; inverse = mark_of r n }
contents r phase (PictureRow n) = record { owner = PictureRow n; codes = no_codes; columns = picture_row r n; bar = no_bar; labels = no_labels; inverse = false }
contents r phase SoftKeys = record { owner = SoftKeys; codes = no_codes; columns = no_columns; bar = no_bar; labels = labels_of r.settings; inverse = false }
contents r phase SmallLine = record { owner = SmallLine; codes = small_line r; columns = no_columns; bar = no_bar; labels = no_labels; inverse = false }
contents r phase (BigLine half) = record { owner = BigLine half; codes = padded 16 (big_line r); columns = no_columns; bar = no_bar; labels = no_labels; inverse = false }
contents r phase (PictureWithRocker n) = record { owner = PictureWithRocker n; codes = no_codes; columns = around_rocker (picture_row r n); bar = no_bar; labels = record { left = no_label; right = no_label; w = r.settings.icons.w }; inverse = false }

-- The questions ---------------------------------------------------------------------------------------------------

-- refused for a field out of range, then for a display row above the last
unfoldable pub row_seen : Record → ℕ → Phase → Result Row Refusal
row_seen r row phase =
    cond (not (in_range r)) (Err FieldOutOfRange)
    (cond (ltb last_row row) (Err NotListed) (Ok (contents r phase (row_owner r row))))

-- the row that it tells: where it is refused it tells nothing
abbrev pub row_told : Result Row Refusal → Row
row_told (Ok q) = q
row_told (Err refusal) = nothing_seen

-- the settings, unless a field is out of range
abbrev pub settings_in_range : Record → Result Settings Refusal
settings_in_range r = cond (in_range r) (Ok r.settings) (Err FieldOutOfRange)

-- the panels' questions are refused for a field out of range alone
unfoldable pub sms_seen : Record → Phase → Result SmsPanel Refusal
sms_seen r phase = cond (not (in_range r)) (Err FieldOutOfRange) (Ok (sms_panel r.settings.icons phase))

unfoldable pub volume_seen : Record → Result VolumePanel Refusal
volume_seen r = cond (not (in_range r)) (Err FieldOutOfRange) (Ok (volume_panel r.settings.volume))
