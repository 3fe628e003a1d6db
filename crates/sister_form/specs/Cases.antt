-- Worked cases: the first number of hers that is out of range, what she shares, and how her commands are written. Assumes nothing.
use Rattle.std.specs.Prelude.{ℕ, Bool, true, false, List, [], ◌∷◌, map, ◌≡◌, refl, Option, Some, None}
use Rattle.lists.specs.Codes.{ascii}
use Rattle.command.specs.Order.{plain}
use Rattle.command.specs.InRange.{first_out}
use Rattle.command.specs.Spell.{spell}
use Rattle.command.specs.declared.Command.TheVariants as First
use Rattle.sister_command.specs.Order.{AnyOrder, first, own}
use Rattle.sister_command.specs.Grammar.{sister_form, is_shared}
use Rattle.sister_command.specs.InRange.{own_numbers}
use Rattle.sister_command.specs.declared.SisterCommand.{SisterCommand}
use Rattle.sister_command.specs.declared.SisterCommand.TheVariants.{Cursor, Restart, Mode, Light, LightTo, IconU, Brightness, KeyTimes, Speaker, Asked, Step}
use Rattle.sister_command.specs.declared.Question.TheVariants as Ask
use Rattle.sister_command.specs.declared.Step.TheVariants as Go
use Rattle.sister_command.specs.declared.LightChange.TheVariants as To

abbrev out_of : SisterCommand → Option ℕ
out_of c = first_out (own_numbers 0 c)

-- each end of a range and the value past it; of two numbers the first that is out
abbrev pub ranges : List (Option ℕ × Option ℕ)
ranges =
    (out_of (Cursor 1), None)
    ∷ (out_of (Cursor 2), Some 2)
    ∷ (out_of (Mode 12), None)
    ∷ (out_of (Mode 13), Some 13)
    ∷ (out_of (Light 250), None)
    ∷ (out_of (Light 251), Some 251)
    ∷ (out_of (IconU 2), None)
    ∷ (out_of (IconU 255), Some 255)
    ∷ (out_of (Brightness 100), None)
    ∷ (out_of (Brightness 101), Some 101)
    ∷ (out_of (Speaker 7), None)
    ∷ (out_of (Speaker 8), Some 8)
    ∷ (out_of (KeyTimes 0 0), None)
    ∷ (out_of (KeyTimes 0 5), Some 0)
    ∷ (out_of (KeyTimes 12 3), Some 3)
    ∷ (out_of (KeyTimes 51 99), Some 51)
    ∷ []

abbrev written : AnyOrder → List ℕ
written o = spell (sister_form o)

-- nothing for what the first edition alone has
abbrev pub bodies : List (List ℕ × List ℕ)
bodies =
    (written (own (Mode 10)), ascii "IDM10")
    ∷ (written (own (KeyTimes 0 0)), ascii "IT0;0")
    ∷ (written (own Restart), ascii "&00")
    ∷ (written (own (LightTo To.KeypadClearedStart)), ascii "IEc")
    ∷ (written (own (Asked Ask.Mode)), ascii "IDM?")
    ∷ (written (own (Step Go.SpeakerDown)), ascii "IV-")
    ∷ (written (first (plain (First.Position 4 15))), ascii "&H4;15")
    ∷ (written (first (plain First.DisplayOff)), ascii "IDMD")
    ∷ (written (first (plain (First.Contrast 20))), ascii "IA20")
    ∷ (written (first (plain (First.Mode 0))), [])
    ∷ []

abbrev pub shares : List (Bool × Bool)
shares =
    (is_shared First.Clear, true)
    ∷ (is_shared (First.Inverse 5), true)
    ∷ (is_shared (First.HandsfreeOfNote 1), false)
    ∷ (is_shared First.HookAsked, false)
    ∷ []

pub cases : (map (λ (c : Option ℕ × Option ℕ). c.0) ranges ≡ map (λ (c : Option ℕ × Option ℕ). c.1) ranges) × (map (λ (c : List ℕ × List ℕ). c.0) bodies ≡ map (λ (c : List ℕ × List ℕ). c.1) bodies) × (map (λ (c : Bool × Bool). c.0) shares ≡ map (λ (c : Bool × Bool). c.1) shares)
cases = (refl, refl, refl)
