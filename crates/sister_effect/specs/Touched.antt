-- WHAT AN ORDER OF EITHER EDITION TOUCHES: the fields that it may set (request T-06, "Frames"), and those that it reads besides. Assumes
-- nothing.
use Rattle.std.specs.Prelude.{Bool, cond, ◌||◌, List, [], ◌∷◌, eqb}
use Rattle.record.specs.Fields.{Field, display, mode, overlay, row, column, text, large_line, shown, leftLabel, rightLabel, iconS, icon_u, iconF, iconR, icon_p, iconW, which, level, mute, hidden, time1, time2, buzzer, light, duration, secondsLeft, keypad, picture, contrast, hook, inverse, sister, brightness, speaker, pwm, ptt, keys, among}
use Rattle.command.specs.InRange.{is_overlay}
use Rattle.sister_command.specs.Order.{AnyOrder, first, own}
use Rattle.sister_command.specs.declared.SisterCommand.{SisterCommand}
use Rattle.sister_command.specs.declared.SisterCommand.TheVariants.{Cursor, Restart, Mode, Light, LightTo, IconU, Brightness, KeyTimes, Speaker, Asked, Step}
use Rattle.sister_command.specs.declared.Question.TheVariants as Ask
use Rattle.sister_command.specs.declared.Step.TheVariants.{ContrastUp, ContrastDown, BrightnessUp, BrightnessDown, SpeakerUp, SpeakerDown}
use Rattle.sister_command.specs.declared.LightChange.TheVariants as To
use Rattle.effect.specs.Touched.{sets, touches}
use Rattle.sister_effect.specs.Effect.{mode_named}

-- the numbers that she stores
abbrev pub stored_fields : List Field
stored_fields = contrast ∷ brightness ∷ speaker ∷ time1 ∷ time2 ∷ duration ∷ []

-- the fields that a command of her own may set
abbrev pub set_by_own : SisterCommand → List Field
-- &Cn: cursor shown or not
set_by_own (Cursor n) = shown ∷ []
-- &00: all but the numbers that are stored
set_by_own Restart =
    display ∷ mode ∷ overlay ∷ row ∷ column ∷ text ∷ large_line ∷ shown ∷
    leftLabel ∷ rightLabel ∷
    iconS ∷ icon_u ∷ iconF ∷ iconR ∷ icon_p ∷ iconW ∷
    which ∷ level ∷ mute ∷ hidden ∷
    buzzer ∷
    light ∷ secondsLeft ∷ keypad ∷
    picture ∷
    hook ∷ inverse ∷
    sister ∷ pwm ∷ ptt ∷ keys ∷ []
-- IDMn: an overlay leaves the cursor alone; a text mode takes the overlay away, position 0,0
set_by_own (Mode n) = cond (is_overlay (mode_named n)) (overlay ∷ []) (mode ∷ overlay ∷ row ∷ column ∷ [])
-- IE0: off without PWM, left 0. IE1 to IE250: duration
set_by_own (Light n) = cond (eqb n 0) (light ∷ secondsLeft ∷ pwm ∷ []) (duration ∷ [])
-- IEE, IEA, IES, IEP, IEQ: the light and whether it is PWM; left = 0 in on, = duration by IEA
set_by_own (LightTo To.On) = light ∷ secondsLeft ∷ pwm ∷ []
set_by_own (LightTo To.AutoStart) = light ∷ secondsLeft ∷ pwm ∷ []
set_by_own (LightTo To.Auto) = light ∷ pwm ∷ []
set_by_own (LightTo To.PwmOn) = light ∷ secondsLeft ∷ pwm ∷ []
set_by_own (LightTo To.PwmAuto) = light ∷ pwm ∷ []
-- IER: left. IEe, IEc, IEs: keypad flag; IEc left too
set_by_own (LightTo To.Restart) = secondsLeft ∷ []
set_by_own (LightTo To.KeypadSet) = keypad ∷ []
set_by_own (LightTo To.KeypadClearedStart) = secondsLeft ∷ keypad ∷ []
set_by_own (LightTo To.KeypadCleared) = keypad ∷ []
-- IUn: icon U. INn: brightness. ITn;n: Time1, Time2. IVn: speaker volume
set_by_own (IconU n) = icon_u ∷ []
set_by_own (Brightness n) = brightness ∷ []
set_by_own (KeyTimes t u) = time1 ∷ time2 ∷ []
set_by_own (Speaker n) = speaker ∷ []
-- a question sets nothing
set_by_own (Asked question) = []
-- IA+ IA- IN+ IN- IV+ IV-: that number
set_by_own (Step ContrastUp) = contrast ∷ []
set_by_own (Step ContrastDown) = contrast ∷ []
set_by_own (Step BrightnessUp) = brightness ∷ []
set_by_own (Step BrightnessDown) = brightness ∷ []
set_by_own (Step SpeakerUp) = speaker ∷ []
set_by_own (Step SpeakerDown) = speaker ∷ []

-- the fields that it reads besides: what it does, whether it is refused or what it is answered goes by them
abbrev pub read_by_own : SisterCommand → List Field
read_by_own (Cursor n) = []
read_by_own Restart = stored_fields
read_by_own (Mode n) = []
read_by_own (Light n) = []
read_by_own (LightTo To.On) = []
-- left = duration
read_by_own (LightTo To.AutoStart) = duration ∷ []
read_by_own (LightTo To.Auto) = []
read_by_own (LightTo To.PwmOn) = []
read_by_own (LightTo To.PwmAuto) = []
-- in auto, left = duration
read_by_own (LightTo To.Restart) = light ∷ duration ∷ []
-- refused unless the light is auto without PWM
read_by_own (LightTo To.KeypadSet) = light ∷ pwm ∷ []
read_by_own (LightTo To.KeypadClearedStart) = light ∷ pwm ∷ duration ∷ []
read_by_own (LightTo To.KeypadCleared) = light ∷ pwm ∷ []
read_by_own (IconU n) = []
read_by_own (Brightness n) = []
read_by_own (KeyTimes t u) = []
read_by_own (Speaker n) = []
-- what is asked
read_by_own (Asked Ask.Position) = row ∷ column ∷ []
read_by_own (Asked Ask.Version) = []
read_by_own (Asked Ask.Hook) = hook ∷ []
read_by_own (Asked Ask.Ptt) = ptt ∷ []
read_by_own (Asked Ask.Contrast) = contrast ∷ []
read_by_own (Asked Ask.Mode) = mode ∷ overlay ∷ []
read_by_own (Asked Ask.Light) = light ∷ pwm ∷ duration ∷ []
read_by_own (Asked Ask.Brightness) = brightness ∷ []
read_by_own (Asked Ask.Times) = time1 ∷ time2 ∷ []
read_by_own (Asked Ask.Speaker) = speaker ∷ []
-- a step goes by the number that it sets
read_by_own (Step step) = []

-- WHETHER AN ORDER MAY SET A FIELD
abbrev pub sets_any : AnyOrder → Field → Bool
sets_any (first o) f = sets o f
sets_any (own x) f = among f (set_by_own x)

-- whether it sets it or reads it
abbrev pub touches_any : AnyOrder → Field → Bool
touches_any (first o) f = touches o f
touches_any (own x) f = among f (set_by_own x) || among f (read_by_own x)
