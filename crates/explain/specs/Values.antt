-- The values of the settings, field by field. Assumes nothing.
use Rattle.std.specs.Prelude.{ℕ, Bool, List, Option, None, Some, nat_lt, position}
use mir.Val.{bool_byte}
use Rattle.record.specs.declared.Label.{Label}
use Rattle.record.specs.declared.Small.{Small}
use Rattle.explain.specs.declared.fields.Field.{Field}
use Rattle.explain.specs.declared.fields.Value.{Value}
use Rattle.explain.specs.declared.fields.Value.TheVariants.{Words, Codes}

-- a value whose words are its number
abbrev pub number_value : ℕ → Option Value
number_value n = Some (Words 0 n)

-- a value whose words have no number
abbrev pub word_value : ℕ → Option Value
word_value which = Some (Words which 0)

-- the second words if something is so, which are number 1, and else the first, number 0
abbrev pub whether : Bool → ℕ
whether is = bool_byte is

-- the second words with the text row that has the mark, and the first if none has
abbrev pub row_value : Option ℕ → Option Value
row_value None = word_value 0
row_value (Some row) = Some (Words 1 row)

abbrev pub mark_value : List Bool → Option Value
mark_value marks = row_value (position (λ mark. mark) marks)

-- a label has its length and its codes
abbrev pub label_value : Label → Option Value
label_value label = Some (Codes label.len label.codes)

-- what is said of a field's value: which of its words, and the number that stands in them. Fields behind the labels have none
abbrev pub value_of : Small → Field → Option Value
value_of s Field.Mode = number_value s.settings.screen.mode
value_of s Field.Overlay = Some (Words (whether (nat_lt 0 s.settings.screen.overlay)) s.settings.screen.overlay)
value_of s Field.Position = Some (Words s.settings.screen.row s.settings.screen.column)
value_of s Field.Volume = Some (Words s.settings.volume.which s.settings.volume.level)
value_of s Field.Hidden = word_value (whether s.settings.volume.hidden)
value_of s Field.Mute = word_value (whether s.settings.volume.mute)
value_of s Field.Time1 = number_value s.settings.times.time1.0
value_of s Field.Time2 = number_value s.settings.times.time2.0
value_of s Field.Pwm = word_value (whether s.edition.pwm)
value_of s Field.Backlight = word_value s.settings.backlight.mode
value_of s Field.SecondsLeft = number_value s.settings.backlight.left.0
value_of s Field.Duration = number_value s.settings.backlight.duration.0
value_of s Field.Keypad = word_value (whether s.settings.backlight.keypad)
value_of s Field.Display = word_value (whether s.settings.screen.display)
value_of s Field.Cursor = word_value (whether s.settings.shown)
value_of s Field.IconS = number_value s.settings.icons.s
value_of s Field.IconU = number_value s.settings.icons.u
value_of s Field.IconF = number_value s.settings.icons.f
value_of s Field.IconR = number_value s.settings.icons.r
value_of s Field.IconP = number_value s.settings.icons.p
value_of s Field.IconW = number_value s.settings.icons.w
value_of s Field.Buzzer = number_value s.settings.buzzer.0
value_of s Field.Contrast = number_value s.settings.contrast
value_of s Field.Inverse = mark_value s.settings.inverse
value_of s Field.Brightness = number_value s.edition.brightness
value_of s Field.Speaker = number_value s.edition.speaker
value_of s Field.LeftLabel = label_value s.settings.left
value_of s Field.RightLabel = label_value s.settings.right
value_of s other = None
