-- Worked cases of the groups, computed from the tables of what orders touch. Assumes nothing.
use Rattle.std.specs.Prelude.{ℕ, Bool, true, false, List, [], ◌∷◌, map, ◌≡◌, refl}
use Rattle.command.specs.Order.{plain, label, draw}
use Rattle.command.specs.declared.Command.TheVariants as Their
use Rattle.command.specs.declared.Side.TheVariants.{Left, Right}
use Rattle.sister_command.specs.Order.{AnyOrder, first, own}
use Rattle.sister_command.specs.declared.SisterCommand.TheVariants as Her
use Rattle.sister_command.specs.declared.Question.TheVariants as Ask
use Rattle.sister_command.specs.declared.Step.TheVariants as Steps
use Rattle.sister_command.specs.declared.LightChange.TheVariants as To
use Rattle.groups.specs.Groups.{Group, LeftLabel, RightLabel, PictureRow, Backlight, Contrast, Speaker, Hook, Ptt, code, groups_of, none_in_common}

-- a picture frame of a row
abbrev row : ℕ → AnyOrder
row n = first (draw n (0 ∷ []))

-- a command, and the groups that it must have, each of them and no other
abbrev grouped : List (List Group × List Group)
grouped =
    -- IK0 belongs to both labels; IK1 and IK2 to one each
    (groups_of (first (plain Their.LabelsEmpty)), LeftLabel ∷ RightLabel ∷ [])
    ∷ (groups_of (first (label Left [])), LeftLabel ∷ [])
    ∷ (groups_of (first (label Right [])), RightLabel ∷ [])
    -- a picture frame of row 7 to 9 belongs to none
    ∷ (groups_of (row 3), PictureRow 3 ∷ [])
    ∷ (groups_of (row 7), [])
    -- a question belongs to the group that it reads, &V to none
    ∷ (groups_of (first (plain Their.ContrastAsked)), Contrast ∷ [])
    ∷ (groups_of (first (plain Their.HookAsked)), Hook ∷ [])
    ∷ (groups_of (first (plain Their.VersionAsked)), [])
    ∷ (groups_of (own (Her.Asked Ask.Version)), [])
    ∷ (groups_of (own (Her.Asked Ask.Ptt)), Ptt ∷ [])
    -- a step belongs to the number's; brightness to the backlight
    ∷ (groups_of (own (Her.Step Steps.SpeakerUp)), Speaker ∷ [])
    ∷ (groups_of (own (Her.Brightness 5)), Backlight ∷ [])
    ∷ []

-- two commands, and whether they have no group in common
abbrev pairs : List (Bool × Bool)
pairs =
    -- IK1 and IK0; IK1 and IK2
    (none_in_common (first (label Left [])) (first (plain Their.LabelsEmpty)), false)
    ∷ (none_in_common (first (label Left [])) (first (label Right [])), true)
    -- ID5 and a position, a mark, clear line, the display; and cursor shown
    ∷ (none_in_common (first (plain (Their.Mode 5))) (first (plain (Their.Position 4 3))), false)
    ∷ (none_in_common (first (plain (Their.Mode 5))) (first (plain (Their.Inverse 1))), false)
    ∷ (none_in_common (first (plain (Their.Mode 5))) (first (plain Their.ClearLine)), false)
    ∷ (none_in_common (first (plain (Their.Mode 5))) (first (plain Their.DisplayOff)), false)
    ∷ (none_in_common (first (plain (Their.Mode 5))) (first (plain Their.CursorShown)), true)
    -- volume with mute; two icons
    ∷ (none_in_common (first (plain (Their.Private 3))) (first (plain (Their.Mute 1))), false)
    ∷ (none_in_common (first (plain (Their.IconS 1))) (first (plain (Their.IconU 1))), true)
    -- IE20, passed over or not, and IEE; IE20 and IT
    ∷ (none_in_common (first (plain (Their.Light 999))) (first (plain Their.LightOn)), false)
    ∷ (none_in_common (first (plain (Their.Light 20))) (first (plain (Their.KeyTimes 4 4))), true)
    -- IA5 and IA; IA5 and IH
    ∷ (none_in_common (first (plain (Their.Contrast 5))) (first (plain Their.ContrastAsked)), false)
    ∷ (none_in_common (first (plain (Their.Contrast 5))) (first (plain Their.HookAsked)), true)
    -- two pictures, by their rows
    ∷ (none_in_common (row 3) (row 3), false)
    ∷ (none_in_common (row 3) (row 4), true)
    ∷ (none_in_common (row 7) (row 7), true)
    -- of the sister: &H? and IDM0; IN5 and IEP; IV+ and IL3; IE? and IN+
    ∷ (none_in_common (own (Her.Asked Ask.Position)) (own (Her.Mode 0)), false)
    ∷ (none_in_common (own (Her.Brightness 5)) (own (Her.LightTo To.PwmOn)), false)
    ∷ (none_in_common (own (Her.Step Steps.SpeakerUp)) (first (plain (Their.Private 3))), true)
    ∷ (none_in_common (own (Her.Asked Ask.Light)) (own (Her.Step Steps.BrightnessUp)), false)
    -- restart shares a group with whatever has one
    ∷ (none_in_common (own Her.Restart) (row 3), false)
    ∷ (none_in_common (own Her.Restart) (own (Her.Asked Ask.Hook)), false)
    ∷ []

pub cases :
    (map (λ (l : List Group × List Group). map code l.0) grouped ≡ map (λ (l : List Group × List Group). map code l.1) grouped)
    × (map (λ (l : Bool × Bool). l.0) pairs ≡ map (λ (l : Bool × Bool). l.1) pairs)
cases = (refl, refl)
