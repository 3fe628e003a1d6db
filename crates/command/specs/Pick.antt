-- The command of a good frame, by its first three bytes and its numbers; None where they pick none. Assumes nothing.
use Rattle.std.specs.Prelude.{ℕ, cond, List, eqb, get_or, Option, Some, None}
use Prim.Native.Char.{code}
use Rattle.command.specs.declared.Command.TheVariants.{DisplayOff, DisplayOn, Mode, CursorShown, CursorHidden, Clear, Position, LabelsEmpty, IconS, IconU, IconF, IconR, IconP, IconW, Private, Handsfree, HandsfreeOfNote, Mute, KeyTimes, Buzzer, Light, LightOn, LightAutoStart, LightAuto, DefaultDuration, KeypadSet, KeypadCleared, Contrast, ContrastAsked, HookAsked, VersionAsked, ClearLine, Inverse}
use Rattle.command.specs.declared.Command.{Command}

-- a byte of a frame; 0 past its end
abbrev pub byte_at : List ℕ → ℕ → ℕ
byte_at f i = get_or f i 0

unfoldable pub with_number : ℕ → ℕ → Option Command
with_number letter n =
    cond (eqb letter (code "S")) (Some (IconS n))
    (cond (eqb letter (code "U")) (Some (IconU n))
    (cond (eqb letter (code "F")) (Some (IconF n))
    (cond (eqb letter (code "R")) (Some (IconR n))
    (cond (eqb letter (code "P")) (Some (IconP n))
    (cond (eqb letter (code "W")) (Some (IconW n))
    (cond (eqb letter (code "L")) (Some (Private n))
    (cond (eqb letter (code "J")) (Some (Handsfree n))
    (cond (eqb letter (code "I")) (Some (HandsfreeOfNote n))
    (cond (eqb letter (code "M")) (Some (Mute n))
    (cond (eqb letter (code "B")) (Some (Buzzer n))
    (cond (eqb letter (code "Z")) (Some (Inverse n)) None)))))))))))

unfoldable pub display_of : ℕ → ℕ → Command
display_of sign n = cond (eqb sign (code "D")) DisplayOff (cond (eqb sign (code "E")) DisplayOn (Mode n))

unfoldable pub light_of : ℕ → ℕ → Command
light_of sign n =
    cond (eqb sign (code "E")) LightOn
    (cond (eqb sign (code "A")) LightAutoStart
    (cond (eqb sign (code "S")) LightAuto
    (cond (eqb sign (code "R")) DefaultDuration
    (cond (eqb sign (code "e")) KeypadSet
    (cond (eqb sign (code "r")) KeypadCleared (Light n))))))

unfoldable pub contrast_of : ℕ → ℕ → Command
contrast_of sign n = cond (eqb sign 0) ContrastAsked (Contrast n)

unfoldable pub after_i : ℕ → ℕ → ℕ → ℕ → Option Command
after_i letter sign m n =
    cond (eqb letter (code "D")) (Some (display_of sign n))
    (cond (eqb letter (code "E")) (Some (light_of sign n))
    (cond (eqb letter (code "K")) (Some LabelsEmpty)
    (cond (eqb letter (code "A")) (Some (contrast_of sign n))
    (cond (eqb letter (code "H")) (Some HookAsked)
    (cond (eqb letter (code "T")) (Some (KeyTimes m n)) (with_number letter n))))))

unfoldable pub cursor_sign : ℕ → Option Command
cursor_sign sign =
    cond (eqb sign (code "C")) (Some CursorShown)
    (cond (eqb sign (code "D")) (Some CursorHidden)
    (cond (eqb sign (code "#")) (Some Clear)
    (cond (eqb sign (code "V")) (Some VersionAsked) None)))

unfoldable pub after_bracket : ℕ → ℕ → ℕ → Command
after_bracket sign m n = cond (eqb sign (code "K")) ClearLine (Position m n)

unfoldable pub command_of : ℕ → ℕ → ℕ → ℕ → ℕ → Option Command
command_of first second third m n =
    cond (eqb first (code "I")) (after_i second third m n)
    (cond (eqb first (code "&")) (cursor_sign second)
    (cond (eqb first (code "[")) (Some (after_bracket second m n)) None))
