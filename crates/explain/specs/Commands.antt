-- Which fields a command sets, and which of its numbers is out of range. Assumes nothing.
use Rattle.std.specs.Prelude.{ℕ, cond, ◌==◌, List, [], ◌∷◌, Option, None, Some, slice_get}
use Rattle.command.specs.Ranges.{is_overlay}
use Rattle.command.specs.declared.Command.{Command}
use Rattle.command.specs.declared.Command.TheVariants.{DisplayOff, DisplayOn, Mode, CursorShown, CursorHidden, Clear, Position, LabelsEmpty, IconS, IconU, IconF, IconR, IconP, IconW, Private, Handsfree, HandsfreeOfNote, Mute, KeyTimes, Buzzer, Light, LightOn, LightAutoStart, LightAuto, DefaultDuration, KeypadSet, KeypadCleared, Contrast, ContrastAsked, HookAsked, VersionAsked, ClearLine, Inverse}
use Rattle.command.specs.declared.Side.{Side}
use Rattle.command.specs.declared.Side.TheVariants.{Left, Right}
use Rattle.sister_command.specs.declared.SisterCommand.{SisterCommand}
use Rattle.sister_command.specs.declared.SisterCommand.TheVariants as Hers
use Rattle.explain.specs.declared.fields.Field.{Field}

-- one field alone
abbrev pub only : Field → List Field
only field = field ∷ []

-- the fields that a command sets. The last ones set none, and are told by words of their own
abbrev pub fields_of : Command → List Field
fields_of DisplayOff = only Field.Display
fields_of DisplayOn = only Field.Display
fields_of (Mode n) = cond (is_overlay n) (only Field.Overlay) (Field.Mode ∷ Field.Overlay ∷ Field.Position ∷ [])
fields_of CursorShown = only Field.Cursor
fields_of CursorHidden = only Field.Cursor
fields_of LabelsEmpty = Field.LeftLabel ∷ Field.RightLabel ∷ []
fields_of (IconS n) = only Field.IconS
fields_of (IconU n) = only Field.IconU
fields_of (IconF n) = only Field.IconF
fields_of (IconR n) = only Field.IconR
fields_of (IconP n) = only Field.IconP
fields_of (IconW n) = only Field.IconW
fields_of (Private n) = Field.Volume ∷ Field.Hidden ∷ []
fields_of (Handsfree n) = Field.Volume ∷ Field.Hidden ∷ []
fields_of (HandsfreeOfNote n) = Field.Volume ∷ Field.Hidden ∷ []
-- mute on also shows the volume
fields_of (Mute n) = cond (n == 0) (only Field.Mute) (Field.Hidden ∷ Field.Mute ∷ [])
fields_of (KeyTimes time1 time2) = Field.Time1 ∷ Field.Time2 ∷ []
fields_of (Buzzer n) = only Field.Buzzer
fields_of (Light n) = cond (n == 0) (Field.Backlight ∷ Field.SecondsLeft ∷ []) (only Field.Duration)
fields_of LightOn = Field.Backlight ∷ Field.SecondsLeft ∷ []
fields_of LightAutoStart = Field.Backlight ∷ Field.SecondsLeft ∷ []
fields_of LightAuto = only Field.Backlight
fields_of DefaultDuration = only Field.Duration
fields_of KeypadSet = only Field.Keypad
fields_of KeypadCleared = only Field.Keypad
fields_of (Contrast n) = only Field.Contrast
fields_of (Inverse n) = only Field.Inverse
fields_of Clear = only Field.Position
fields_of (Position row column) = only Field.Position
fields_of ClearLine = []
fields_of ContrastAsked = []
fields_of HookAsked = []
fields_of VersionAsked = []

-- the field that a label's frame sets
abbrev pub label_of : Side → Field
label_of Left = Field.LeftLabel
label_of Right = Field.RightLabel

-- whose number is out of range, where the first one of a command that is so is `out`. Of two it is the first, if that is `out`; four
-- commands have words of their own for it, and all others those of the first field that they set
abbrev pub field_out : Command → ℕ → Option Field
field_out (Position row column) out = Some (cond (row == out) Field.Row Field.Column)
field_out (KeyTimes time1 time2) out = Some (cond (time1 == out) Field.Time1 Field.Time2)
field_out (Mute n) out = Some Field.Mute
field_out (Inverse n) out = Some Field.Mark
field_out c out = slice_get (fields_of c) 0

-- the same of a command of the sister's own, by her ranges. Those without a number are never passed over
abbrev pub own_field_out : SisterCommand → ℕ → Option Field
own_field_out (Hers.Cursor n) out = Some Field.SisterCursor
own_field_out Hers.Restart out = None
own_field_out (Hers.Mode n) out = Some Field.SisterMode
own_field_out (Hers.Light n) out = Some Field.SisterDuration
own_field_out (Hers.LightTo change) out = None
own_field_out (Hers.IconU n) out = Some Field.SisterIconU
own_field_out (Hers.Brightness n) out = Some Field.Brightness
own_field_out (Hers.KeyTimes time1 time2) out = Some (cond (time1 == out) Field.SisterTime1 Field.Time2)
own_field_out (Hers.Speaker n) out = Some Field.Speaker
own_field_out (Hers.Asked question) out = None
own_field_out (Hers.Step to) out = None
