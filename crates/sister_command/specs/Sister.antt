-- The sister's reader: her commands, shared and own, their table and how their letters pick them, with the tests. Assumes nothing.
-- The theorems are in proofs/Sister.antt.
use Rattle.std.specs.Prelude.{ℕ, List, [], ◌∷◌, Option, None}
use Rattle.frame_table.specs.declared.Numbers.{Numbers}
use Rattle.frame_table.specs.Reader.{Reader}
use Rattle.command.specs.Order.{plain}
use Rattle.command.specs.First.{is_other_frame}
use Rattle.command.specs.declared.Command.TheVariants.{DisplayOff, DisplayOn, Clear, Position, LabelsEmpty, IconS, IconF, IconR, IconP, IconW, Private, Handsfree, Mute, Buzzer, Contrast, ClearLine, Inverse}
use Rattle.sister_command.specs.Order.{AnyOrder, first, own}
use Rattle.sister_command.specs.Grammar.{sister_form}
use Rattle.sister_command.specs.Pick.{command_of}
use Rattle.sister_command.specs.Table.{table, examples}
use Rattle.sister_command.specs.declared.SisterCommand.TheVariants as Hers
use Rattle.sister_command.specs.declared.Question.{Question}
use Rattle.sister_command.specs.declared.Question.TheVariants as Ask
use Rattle.sister_command.specs.declared.Step.{Step}
use Rattle.sister_command.specs.declared.Step.TheVariants as Go
use Rattle.sister_command.specs.declared.LightChange.{LightChange}
use Rattle.sister_command.specs.declared.LightChange.TheVariants as Light
use Rattle.sister_command.specs.declared.SisterReading.{SisterReading}
use Rattle.sister_command.specs.declared.SisterReading.TheVariants.{Shared, Own}

-- the order that a reading of a frame of hers is
abbrev pub ordered : SisterReading → AnyOrder
ordered (Shared c) = first (plain c)
ordered (Own c) = own c

-- by the first 4 bytes
abbrev pub pick : List ℕ → Numbers → Option SisterReading
pick [] r = None
pick (a ∷ []) r = None
pick (a ∷ b ∷ []) r = None
pick (a ∷ b ∷ c ∷ []) r = None
pick (a ∷ b ∷ c ∷ d ∷ more) r = command_of a b c d r.before r.last

abbrev Maker : Type 0
Maker = ℕ → ℕ → SisterReading

abbrev asked : Question → Maker
asked question m n = Own (Hers.Asked question)

abbrev step : Step → Maker
step to m n = Own (Hers.Step to)

abbrev light_to : LightChange → Maker
light_to change m n = Own (Hers.LightTo change)

-- each kind of command that she spells, by its numbers, in the order of her grammar
abbrev pub kinds : List Maker
kinds =
    (λ m n. Own (Hers.Cursor m))
    ∷ (λ m n. Shared Clear)
    ∷ (λ m n. Shared (Position m n))
    ∷ asked Ask.Position
    ∷ (λ m n. Shared ClearLine)
    ∷ (λ m n. Own Hers.Restart)
    ∷ asked Ask.Version
    ∷ asked Ask.Hook
    ∷ asked Ask.Ptt
    ∷ (λ m n. Shared (Contrast m))
    ∷ asked Ask.Contrast ∷ step Go.ContrastUp ∷ step Go.ContrastDown
    ∷ (λ m n. Shared (Buzzer m))
    ∷ (λ m n. Own (Hers.Mode m))
    ∷ (λ m n. Shared DisplayOff)
    ∷ (λ m n. Shared DisplayOn)
    ∷ asked Ask.Mode
    ∷ (λ m n. Own (Hers.Light m))
    ∷ light_to Light.On
    ∷ light_to Light.AutoStart
    ∷ light_to Light.Auto
    ∷ light_to Light.PwmOn
    ∷ light_to Light.PwmAuto
    ∷ light_to Light.Restart
    ∷ light_to Light.KeypadSet
    ∷ light_to Light.KeypadClearedStart
    ∷ light_to Light.KeypadCleared
    ∷ asked Ask.Light
    ∷ (λ m n. Shared (IconF m))
    ∷ (λ m n. Shared (Handsfree m))
    ∷ (λ m n. Shared LabelsEmpty)
    ∷ (λ m n. Shared (Private m))
    ∷ (λ m n. Shared (Mute m))
    ∷ (λ m n. Own (Hers.Brightness m))
    ∷ asked Ask.Brightness ∷ step Go.BrightnessUp ∷ step Go.BrightnessDown
    ∷ (λ m n. Shared (IconP m))
    ∷ (λ m n. Shared (IconR m))
    ∷ (λ m n. Shared (IconS m))
    ∷ (λ m n. Own (Hers.KeyTimes m n))
    ∷ asked Ask.Times
    ∷ (λ m n. Own (Hers.IconU m))
    ∷ (λ m n. Own (Hers.Speaker m))
    ∷ asked Ask.Speaker ∷ step Go.SpeakerUp ∷ step Go.SpeakerDown
    ∷ (λ m n. Shared (IconW m))
    ∷ (λ m n. Shared (Inverse m))
    ∷ []

abbrev pub sister : Reader
sister =
    record {
      Command = SisterReading;
      form = λ c. sister_form (ordered c);
      depth = 4;
      pick = pick;
      others = is_other_frame;
      kinds = kinds;
      table = table;
      examples = examples;
    }
