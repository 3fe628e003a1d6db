-- ENUMS BY NUMBER: what each number stands for where an enum crosses to C, and nothing else. The numbers of the
-- rules of the choice screen stand with the rules, in `choice`. include/handset.h has the same tables.
-- Assumes nothing.
use Rattle.std.specs.Prelude.{ℕ, cond, eqb}
use Rattle.command.specs.declared.Command.{Command}
use Rattle.command.specs.declared.Command.TheVariants.{DisplayOff, DisplayOn, Mode, CursorShown, CursorHidden, Clear, Position, LabelsEmpty, IconS, IconU, IconF, IconR, IconP, IconW, Private, Handsfree, HandsfreeOfNote, Mute, KeyTimes, Buzzer, Light, LightOn, LightAutoStart, LightAuto, DefaultDuration, KeypadSet, KeypadCleared, Contrast, ContrastAsked, HookAsked, VersionAsked, ClearLine, Inverse}
use Rattle.sister_command.specs.declared.SisterCommand.{SisterCommand}
use Rattle.sister_command.specs.declared.SisterCommand.TheVariants as Hers
use Rattle.sister_command.specs.declared.LightChange.TheVariants as Lights
use Rattle.sister_command.specs.declared.Question.TheVariants as Questions
use Rattle.sister_command.specs.declared.Step.TheVariants as Steps
use Rattle.command.specs.declared.Side.{Side}
use Rattle.command.specs.declared.Side.TheVariants.{Left, Right}
use Rattle.seen_panels.specs.declared.Phase.{Phase}
use Rattle.seen_panels.specs.declared.Phase.TheVariants.{Lit, Pause}
use Rattle.seen_panels.specs.declared.SmsPanel.{SmsPanel}
use Rattle.seen_panels.specs.declared.SmsPanel.TheVariants as Sms
use Rattle.seen_panels.specs.declared.VolumePanel.{VolumePanel}
use Rattle.seen_panels.specs.declared.VolumePanel.TheVariants as Sound
use Rattle.seen_owners.specs.declared.Owner.{Owner}
use Rattle.seen_owners.specs.declared.Owner.TheVariants as Owners
use Rattle.seen.specs.declared.Shown.{Shown}
use Rattle.seen.specs.declared.Shown.TheVariants as Showns
use Rattle.parts.specs.declared.Kind.{Kind}
use Rattle.parts.specs.declared.Kind.TheVariants as Kinds
use Rattle.verdict.specs.declared.Verdict.{Verdict}
use Rattle.verdict.specs.declared.Verdict.TheVariants as Verdicts
use Rattle.handset_numbers.specs.declared.Numbered.{Numbered}
use Rattle.handset_numbers.specs.declared.NumberedVerdict.{NumberedVerdict}

-- 0 lit, any other the pause
abbrev pub phase_of : ℕ → Phase
phase_of n = cond (eqb n 0) Lit Pause

-- 0 left, any other right
abbrev pub side_of : ℕ → Side
side_of n = cond (eqb n 0) Left Right

-- the last kind of command
abbrev pub last_kind : ℕ
last_kind = 32

-- a command by its kind, with its numbers; those that it has not are passed by
unfoldable pub command_of : ℕ → ℕ → ℕ → Command
command_of kind a b =
    cond (eqb kind 0) DisplayOff
    (cond (eqb kind 1) DisplayOn
    (cond (eqb kind 2) (Mode a)
    (cond (eqb kind 3) CursorShown
    (cond (eqb kind 4) CursorHidden
    (cond (eqb kind 5) Clear
    (cond (eqb kind 6) (Position a b)
    (cond (eqb kind 7) LabelsEmpty
    (cond (eqb kind 8) (IconS a)
    (cond (eqb kind 9) (IconU a)
    (cond (eqb kind 10) (IconF a)
    (cond (eqb kind 11) (IconR a)
    (cond (eqb kind 12) (IconP a)
    (cond (eqb kind 13) (IconW a)
    (cond (eqb kind 14) (Private a)
    (cond (eqb kind 15) (Handsfree a)
    (cond (eqb kind 16) (HandsfreeOfNote a)
    (cond (eqb kind 17) (Mute a)
    (cond (eqb kind 18) (KeyTimes a b)
    (cond (eqb kind 19) (Buzzer a)
    (cond (eqb kind 20) (Light a)
    (cond (eqb kind 21) LightOn
    (cond (eqb kind 22) LightAutoStart
    (cond (eqb kind 23) LightAuto
    (cond (eqb kind 24) DefaultDuration
    (cond (eqb kind 25) KeypadSet
    (cond (eqb kind 26) KeypadCleared
    (cond (eqb kind 27) (Contrast a)
    (cond (eqb kind 28) ContrastAsked
    (cond (eqb kind 29) HookAsked
    (cond (eqb kind 30) VersionAsked
    (cond (eqb kind 31) ClearLine
    (Inverse a))))))))))))))))))))))))))))))))

-- the first and the last kind of the sister's own commands
abbrev pub first_own_kind : ℕ
first_own_kind = 64

abbrev pub last_own_kind : ℕ
last_own_kind = 96

unfoldable pub sister_command_of : ℕ → ℕ → ℕ → SisterCommand
sister_command_of kind a b =
    cond (eqb kind 64) (Hers.Cursor a)
    (cond (eqb kind 65) Hers.Restart
    (cond (eqb kind 66) (Hers.Mode a)
    (cond (eqb kind 67) (Hers.Light a)
    (cond (eqb kind 68) (Hers.LightTo Lights.On)
    (cond (eqb kind 69) (Hers.LightTo Lights.AutoStart)
    (cond (eqb kind 70) (Hers.LightTo Lights.Auto)
    (cond (eqb kind 71) (Hers.LightTo Lights.PwmOn)
    (cond (eqb kind 72) (Hers.LightTo Lights.PwmAuto)
    (cond (eqb kind 73) (Hers.LightTo Lights.Restart)
    (cond (eqb kind 74) (Hers.LightTo Lights.KeypadSet)
    (cond (eqb kind 75) (Hers.LightTo Lights.KeypadClearedStart)
    (cond (eqb kind 76) (Hers.LightTo Lights.KeypadCleared)
    (cond (eqb kind 77) (Hers.IconU a)
    (cond (eqb kind 78) (Hers.Brightness a)
    (cond (eqb kind 79) (Hers.KeyTimes a b)
    (cond (eqb kind 80) (Hers.Speaker a)
    (cond (eqb kind 81) (Hers.Asked Questions.Position)
    (cond (eqb kind 82) (Hers.Asked Questions.Version)
    (cond (eqb kind 83) (Hers.Asked Questions.Hook)
    (cond (eqb kind 84) (Hers.Asked Questions.Ptt)
    (cond (eqb kind 85) (Hers.Asked Questions.Contrast)
    (cond (eqb kind 86) (Hers.Asked Questions.Mode)
    (cond (eqb kind 87) (Hers.Asked Questions.Light)
    (cond (eqb kind 88) (Hers.Asked Questions.Brightness)
    (cond (eqb kind 89) (Hers.Asked Questions.Times)
    (cond (eqb kind 90) (Hers.Asked Questions.Speaker)
    (cond (eqb kind 91) (Hers.Step Steps.ContrastUp)
    (cond (eqb kind 92) (Hers.Step Steps.ContrastDown)
    (cond (eqb kind 93) (Hers.Step Steps.BrightnessUp)
    (cond (eqb kind 94) (Hers.Step Steps.BrightnessDown)
    (cond (eqb kind 95) (Hers.Step Steps.SpeakerUp)
    (Hers.Step Steps.SpeakerDown))))))))))))))))))))))))))))))))

abbrev pub sms_number : SmsPanel → ℕ
sms_number Sms.Nothing = 0
sms_number Sms.Read = 1
sms_number Sms.Unread = 2

-- the number of a case, and the number that the case holds, 0 where it holds none
abbrev pub numbered : ℕ → ℕ → Numbered
numbered number value = record { 0 = number; 1 = value }

-- with the level
abbrev pub volume_numbers : VolumePanel → Numbered
volume_numbers Sound.Nothing = numbered 0 0
volume_numbers Sound.Mute = numbered 1 0
volume_numbers (Sound.Private n) = numbered 2 n
volume_numbers (Sound.Handsfree n) = numbered 3 n

-- with the row, or half of the large line, that the owner names
abbrev pub owner_numbers : Owner → Numbered
owner_numbers Owners.Nothing = numbered 0 0
owner_numbers Owners.IconBar = numbered 1 0
owner_numbers (Owners.TextRow n) = numbered 2 n
owner_numbers (Owners.PictureRow n) = numbered 3 n
owner_numbers Owners.SoftKeys = numbered 7 0
owner_numbers Owners.SmallLine = numbered 4 0
owner_numbers (Owners.BigLine n) = numbered 5 n
owner_numbers (Owners.PictureWithRocker n) = numbered 6 n

-- with the code, the column or icon W that stands there
abbrev pub shown_numbers : Shown → Numbered
shown_numbers Showns.Nothing = numbered 0 0
shown_numbers Showns.Bar = numbered 1 0
shown_numbers (Showns.Code n) = numbered 2 n
shown_numbers (Showns.Column n) = numbered 3 n
shown_numbers (Showns.LeftLabel n) = numbered 4 n
shown_numbers (Showns.Rocker n) = numbered 5 n
shown_numbers (Showns.RightLabel n) = numbered 6 n

-- with the first number that is out of range
abbrev pub verdict_numbers : Verdict → NumberedVerdict
verdict_numbers Verdicts.Bad = record { 0 = 0; 1 = 0 }
verdict_numbers (Verdicts.PassedOver n) = record { 0 = 1; 1 = n }
verdict_numbers Verdicts.Obeyed = record { 0 = 2; 1 = 0 }
verdict_numbers Verdicts.Refused = record { 0 = 3; 1 = 0 }

abbrev pub kind_number : Kind → ℕ
kind_number Kinds.Text = 1
kind_number Kinds.Skipped = 2
kind_number Kinds.Closed = 3
kind_number Kinds.Abandoned = 4
kind_number Kinds.Tail = 5
