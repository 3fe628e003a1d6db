-- The first edition's commands, their table and how their letters pick them, with the tests. Assumes nothing.
-- The theorems are in proofs/First.antt.
use Rattle.std.specs.Prelude.{ℕ, Bool, false, ◌&&◌, ◌||◌, List, [], ◌∷◌, ◌≡◌, refl, eqb, get_or, Option, None}
use Prim.Native.Char.{code}
use Rattle.std.proofs.Math.Option.{some}
use Rattle.frame_table.specs.declared.Numbers.{Numbers}
use Rattle.frame_table.specs.Kinds.{made, Kind}
use Rattle.frame_table.specs.Reader.{Reader}
use Rattle.command.specs.Grammar.{form}
use Rattle.command.specs.Order.{plain}
use Rattle.command.specs.Pick.{command_of}
use Rattle.command.specs.Table.{table, examples}
use Rattle.command.specs.declared.Command.{Command}
use Rattle.command.specs.declared.Command.TheVariants.{DisplayOff, DisplayOn, Mode, CursorShown, CursorHidden, Clear, Position, LabelsEmpty, IconS, IconU, IconF, IconR, IconP, IconW, Private, Handsfree, HandsfreeOfNote, Mute, KeyTimes, Buzzer, Light, LightOn, LightAutoStart, LightAuto, DefaultDuration, KeypadSet, KeypadCleared, Contrast, ContrastAsked, HookAsked, VersionAsked, ClearLine, Inverse}

-- by the first 3 bytes
abbrev pub pick : List ℕ → Numbers → Option Command
pick [] r = None
pick (a ∷ []) r = None
pick (a ∷ b ∷ []) r = None
pick (a ∷ b ∷ c ∷ more) r = command_of a b c r.before r.last

-- a label opens with IK1 or IK2, and no other frame does; a picture opens with G
abbrev pub opens_label : List ℕ → Bool
opens_label [] = false
opens_label (a ∷ []) = false
opens_label (a ∷ b ∷ []) = false
opens_label (a ∷ b ∷ c ∷ more) = eqb a (code "I") && eqb b (code "K") && (eqb c (code "1") || eqb c (code "2"))

abbrev pub is_other_frame : List ℕ → Bool
is_other_frame w = opens_label w || eqb (get_or w 0 0) (code "G")

-- each kind of command, by its numbers
abbrev pub kinds : List (ℕ → ℕ → Command)
kinds =
    (λ m n. DisplayOff)
    ∷ (λ m n. DisplayOn)
    ∷ (λ m n. Mode m)
    ∷ (λ m n. CursorShown)
    ∷ (λ m n. CursorHidden)
    ∷ (λ m n. Clear)
    ∷ Position
    ∷ (λ m n. LabelsEmpty)
    ∷ (λ m n. IconS m)
    ∷ (λ m n. IconU m)
    ∷ (λ m n. IconF m)
    ∷ (λ m n. IconR m)
    ∷ (λ m n. IconP m)
    ∷ (λ m n. IconW m)
    ∷ (λ m n. Private m)
    ∷ (λ m n. Handsfree m)
    ∷ (λ m n. HandsfreeOfNote m)
    ∷ (λ m n. Mute m)
    ∷ KeyTimes
    ∷ (λ m n. Buzzer m)
    ∷ (λ m n. Light m)
    ∷ (λ m n. LightOn)
    ∷ (λ m n. LightAutoStart)
    ∷ (λ m n. LightAuto)
    ∷ (λ m n. DefaultDuration)
    ∷ (λ m n. KeypadSet)
    ∷ (λ m n. KeypadCleared)
    ∷ (λ m n. Contrast m)
    ∷ (λ m n. ContrastAsked)
    ∷ (λ m n. HookAsked)
    ∷ (λ m n. VersionAsked)
    ∷ (λ m n. ClearLine)
    ∷ (λ m n. Inverse m)
    ∷ []

-- the kind at a place makes this command
abbrev of : {c : Command} (place m n : ℕ) → made kinds place m n ≡ some c → Kind kinds c
of place m n same = record { place = place; m = m; n = n; same = same }

-- there is no other command
abbrev pub kind : (c : Command) → Kind kinds c
kind DisplayOff = of 0 0 0 refl
kind DisplayOn = of 1 0 0 refl
kind (Mode m) = of 2 m 0 refl
kind CursorShown = of 3 0 0 refl
kind CursorHidden = of 4 0 0 refl
kind Clear = of 5 0 0 refl
kind (Position m n) = of 6 m n refl
kind LabelsEmpty = of 7 0 0 refl
kind (IconS m) = of 8 m 0 refl
kind (IconU m) = of 9 m 0 refl
kind (IconF m) = of 10 m 0 refl
kind (IconR m) = of 11 m 0 refl
kind (IconP m) = of 12 m 0 refl
kind (IconW m) = of 13 m 0 refl
kind (Private m) = of 14 m 0 refl
kind (Handsfree m) = of 15 m 0 refl
kind (HandsfreeOfNote m) = of 16 m 0 refl
kind (Mute m) = of 17 m 0 refl
kind (KeyTimes m n) = of 18 m n refl
kind (Buzzer m) = of 19 m 0 refl
kind (Light m) = of 20 m 0 refl
kind LightOn = of 21 0 0 refl
kind LightAutoStart = of 22 0 0 refl
kind LightAuto = of 23 0 0 refl
kind DefaultDuration = of 24 0 0 refl
kind KeypadSet = of 25 0 0 refl
kind KeypadCleared = of 26 0 0 refl
kind (Contrast m) = of 27 m 0 refl
kind ContrastAsked = of 28 0 0 refl
kind HookAsked = of 29 0 0 refl
kind VersionAsked = of 30 0 0 refl
kind ClearLine = of 31 0 0 refl
kind (Inverse m) = of 32 m 0 refl

abbrev pub first : Reader
first =
    record {
      Command = Command;
      form = λ c. form (plain c);
      depth = 3;
      pick = pick;
      others = is_other_frame;
      kinds = kinds;
      table = table;
      examples = examples;
    }
