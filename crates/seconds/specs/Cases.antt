-- Worked cases of a second on the backlight. Assumes nothing.
use Rattle.std.specs.Prelude.{ℕ, ◌≡◌, refl, true, [], ◌∷◌, map}
use Rattle.record.specs.declared.Number.{Number}
use Rattle.record.specs.Number.{numbered}
use Rattle.record.specs.declared.Backlight.{Backlight}
use Rattle.seconds.specs.Seconds.{light_passed}
use Rattle.seconds.specs.declared.LightPassed.{LightPassed}

abbrev light : ℕ → ℕ → ℕ → Backlight
light mode duration left = record { mode = mode; duration = record { 0 = duration }; left = record { 0 = left }; keypad = true }

abbrev ends : Number → Backlight → LightPassed
ends number backlight = record { number = number; backlight = backlight }

-- In auto 30 is lowered to 29, 1 to 0, 0 stays, and left may be more than the duration; off stays off. Refused, and so left as
-- they were: seconds left while the light is on, a duration of 0, a mode above 2.
pub light_cases :
    map light_passed (light 2 30 30 ∷ light 2 30 1 ∷ light 2 30 0 ∷ light 2 1 255 ∷ light 0 30 0 ∷ light 1 30 5 ∷ light 2 0 5 ∷ light 3 30 0 ∷ [])
    ≡ ends (numbered 0) (light 2 30 29)
    ∷ ends (numbered 0) (light 2 30 0)
    ∷ ends (numbered 0) (light 2 30 0)
    ∷ ends (numbered 0) (light 2 1 254)
    ∷ ends (numbered 0) (light 0 30 0)
    ∷ ends (numbered 1) (light 1 30 5)
    ∷ ends (numbered 1) (light 2 0 5)
    ∷ ends (numbered 1) (light 3 30 0)
    ∷ []
unfolding light_passed
light_cases = refl
