-- The command of a good frame of hers, by its first four bytes and its numbers; None where they pick none. Assumes nothing.
use Rattle.std.specs.Prelude.{ℕ, cond, eqb, Option, Some, None, option_map}
use Prim.Native.Char.{code}
use Rattle.command.specs.Pick.{with_number}
use Rattle.command.specs.declared.Command.TheVariants.{DisplayOff, DisplayOn, Clear, Position, LabelsEmpty, Contrast, ClearLine}
use Rattle.sister_command.specs.declared.SisterCommand.TheVariants as Hers
use Rattle.sister_command.specs.declared.Question.{Question}
use Rattle.sister_command.specs.declared.Question.TheVariants as Ask
use Rattle.sister_command.specs.declared.Step.{Step}
use Rattle.sister_command.specs.declared.Step.TheVariants as Go
use Rattle.sister_command.specs.declared.LightChange.TheVariants as Light
use Rattle.sister_command.specs.declared.SisterReading.{SisterReading}
use Rattle.sister_command.specs.declared.SisterReading.TheVariants.{Shared, Own}

-- a question, or what else the frame says
unfoldable pub asked_or : ℕ → Question → SisterReading → SisterReading
asked_or sign question other = cond (eqb sign (code "?")) (Own (Hers.Asked question)) other

-- a question, a step, or what else the frame says
unfoldable pub stepped_or : ℕ → Question → Step → Step → SisterReading → SisterReading
stepped_or sign question up down other =
    cond (eqb sign (code "?")) (Own (Hers.Asked question))
    (cond (eqb sign (code "+")) (Own (Hers.Step up))
    (cond (eqb sign (code "-")) (Own (Hers.Step down)) other))

unfoldable pub mode_of : ℕ → ℕ → SisterReading
mode_of sign n =
    cond (eqb sign (code "D")) (Shared DisplayOff)
    (cond (eqb sign (code "E")) (Shared DisplayOn)
    (cond (eqb sign (code "?")) (Own (Hers.Asked Ask.Mode)) (Own (Hers.Mode n))))

unfoldable pub light_of : ℕ → ℕ → SisterReading
light_of sign n =
    cond (eqb sign (code "E")) (Own (Hers.LightTo Light.On))
    (cond (eqb sign (code "A")) (Own (Hers.LightTo Light.AutoStart))
    (cond (eqb sign (code "S")) (Own (Hers.LightTo Light.Auto))
    (cond (eqb sign (code "P")) (Own (Hers.LightTo Light.PwmOn))
    (cond (eqb sign (code "Q")) (Own (Hers.LightTo Light.PwmAuto))
    (cond (eqb sign (code "R")) (Own (Hers.LightTo Light.Restart))
    (cond (eqb sign (code "e")) (Own (Hers.LightTo Light.KeypadSet))
    (cond (eqb sign (code "c")) (Own (Hers.LightTo Light.KeypadClearedStart))
    (cond (eqb sign (code "s")) (Own (Hers.LightTo Light.KeypadCleared))
    (cond (eqb sign (code "?")) (Own (Hers.Asked Ask.Light)) (Own (Hers.Light n)))))))))))

-- The byte after I. Her modes have their letter one byte later; letters that only a number follows are the first edition's, save U.
unfoldable pub after_i : ℕ → ℕ → ℕ → ℕ → ℕ → Option SisterReading
after_i letter sign next m n =
    cond (eqb letter (code "K")) (Some (Shared LabelsEmpty))
    (cond (eqb letter (code "U")) (Some (Own (Hers.IconU n)))
    (cond (eqb letter (code "A")) (Some (stepped_or sign Ask.Contrast Go.ContrastUp Go.ContrastDown (Shared (Contrast n))))
    (cond (eqb letter (code "N")) (Some (stepped_or sign Ask.Brightness Go.BrightnessUp Go.BrightnessDown (Own (Hers.Brightness n))))
    (cond (eqb letter (code "V")) (Some (stepped_or sign Ask.Speaker Go.SpeakerUp Go.SpeakerDown (Own (Hers.Speaker n))))
    (cond (eqb letter (code "T")) (Some (asked_or sign Ask.Times (Own (Hers.KeyTimes m n))))
    (cond (eqb letter (code "D")) (Some (mode_of next n))
    (cond (eqb letter (code "E")) (Some (light_of sign n)) (option_map Shared (with_number letter n)))))))))

unfoldable pub after_and : ℕ → ℕ → ℕ → ℕ → Option SisterReading
after_and letter sign m n =
    cond (eqb letter (code "C")) (Some (Own (Hers.Cursor n)))
    (cond (eqb letter (code "D")) (Some (Shared Clear))
    (cond (eqb letter (code "H")) (Some (asked_or sign Ask.Position (Shared (Position m n))))
    (cond (eqb letter (code "K")) (Some (Shared ClearLine))
    (cond (eqb letter (code "0")) (Some (Own Hers.Restart))
    (cond (eqb letter (code "V")) (Some (Own (Hers.Asked Ask.Version))) None)))))

unfoldable pub after_k : ℕ → SisterReading
after_k letter = cond (eqb letter (code "H")) (Own (Hers.Asked Ask.Hook)) (Own (Hers.Asked Ask.Ptt))

unfoldable pub command_of : ℕ → ℕ → ℕ → ℕ → ℕ → ℕ → Option SisterReading
command_of first second third fourth m n =
    cond (eqb first (code "I")) (after_i second third fourth m n) (cond (eqb first (code "&")) (after_and second third m n) (Some (after_k second)))
