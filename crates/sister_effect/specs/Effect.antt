-- WHAT EACH OF THE SISTER'S OWN COMMANDS DOES, when the record's state has it refused, and what is answered (request T-06, "Frames").
-- Each line is a setter of the fields that it names, so nothing else changes. Assumes nothing.
use Rattle.std.specs.Prelude.{ℕ, ◌+◌, ◌-◌, Bool, true, false, cond, not, ◌&&◌, eqb, leb}
use Rattle.record.specs.declared.Screen.{Screen}
use Rattle.record.specs.declared.Backlight.{Backlight}
use Rattle.record.specs.declared.Stored.{Stored}
use Rattle.record.specs.Range.{off, on, auto}
use Rattle.record.specs.With.{with_shown, with_times, with_icon_u, with_light, with_duration, with_seconds_left, with_keypad, with_contrast, with_brightness, with_speaker, with_pwm}
use Rattle.record.specs.Core.{Core, core_of, on_settings, on_screen, on_icons, on_backlight, on_edition}
use Rattle.record.specs.PowerOn.{sister_with}
use Rattle.effect_modes.specs.Modes.{to_mode}
use Rattle.effect.specs.Effect.{no_seconds}
use Rattle.sister_answer.specs.declared.Told.{Told}
use Rattle.sister_answer.specs.declared.Told.TheVariants as Tell
use Rattle.sister_command.specs.declared.SisterCommand.{SisterCommand}
use Rattle.sister_command.specs.declared.SisterCommand.TheVariants.{Cursor, Restart, Mode, Light, LightTo, IconU, Brightness, KeyTimes, Speaker, Asked, Step}
use Rattle.sister_command.specs.declared.Question.{Question}
use Rattle.sister_command.specs.declared.Question.TheVariants as Ask
use Rattle.sister_command.specs.declared.Step.{Step as Stepping}
use Rattle.sister_command.specs.declared.Step.TheVariants.{ContrastUp, ContrastDown, BrightnessUp, BrightnessDown, SpeakerUp, SpeakerDown}
use Rattle.sister_command.specs.declared.LightChange.{LightChange}
use Rattle.sister_command.specs.declared.LightChange.TheVariants as To

-- Her numbers --------------------------------------------------------------------------------------------------------

-- IDMn: 0 to 3 are the text modes 0, 1, 5, 6; 4 is mode 10; 5 to 12 the overlays 11 to 18
abbrev pub mode_named : ℕ → ℕ
mode_named n = cond (leb n 1) n (cond (leb n 3) (n + 3) (n + 6))

-- and back: the overlay's number if there is one, else the text mode's
abbrev pub name_of : ℕ → ℕ
name_of kept = cond (leb kept 1) kept (cond (leb kept 6) (kept - 3) (kept - 6))

abbrev pub mode_told : Screen → ℕ
mode_told s = name_of (cond (eqb s.overlay 0) s.mode s.overlay)

-- IUn: 2 is the flashing letter, kept as 255
abbrev pub icon_u_named : ℕ → ℕ
icon_u_named n = cond (eqb n 2) 255 n

-- IE? tells 0 normal auto, 1 normal on, 2 PWM auto, 3 PWM on, 4 off
abbrev pub light_told : Backlight → Bool → ℕ
light_told b pwm = cond (eqb b.mode off) 4 (cond (eqb b.mode on) (cond pwm 3 1) (cond pwm 2 0))

-- The light ----------------------------------------------------------------------------------------------------------

-- another light, with PWM or without
abbrev pub lit_by : Core → Backlight → Bool → Core
lit_by c light pwm = on_edition (on_backlight c light) (with_pwm c.edition pwm)

-- left = duration
abbrev pub started_anew : Backlight → Backlight
started_anew b = with_seconds_left b b.duration

abbrev pub light_effect : LightChange → Core → Core
light_effect To.On c = lit_by c (no_seconds (with_light c.settings.backlight on)) false
light_effect To.AutoStart c = lit_by c (started_anew (with_light c.settings.backlight auto)) false
light_effect To.Auto c = lit_by c (with_light c.settings.backlight auto) false
light_effect To.PwmOn c = lit_by c (no_seconds (with_light c.settings.backlight on)) true
light_effect To.PwmAuto c = lit_by c (with_light c.settings.backlight auto) true
light_effect To.Restart c = on_backlight c (cond (eqb c.settings.backlight.mode auto) (started_anew c.settings.backlight) c.settings.backlight)
light_effect To.KeypadSet c = on_backlight c (with_keypad c.settings.backlight true)
light_effect To.KeypadClearedStart c = on_backlight c (started_anew (with_keypad c.settings.backlight false))
light_effect To.KeypadCleared c = on_backlight c (with_keypad c.settings.backlight false)

-- one higher, one lower
abbrev pub step_effect : Stepping → Core → Core
step_effect ContrastUp c = on_settings c (with_contrast c.settings (c.settings.contrast + 1))
step_effect ContrastDown c = on_settings c (with_contrast c.settings (c.settings.contrast - 1))
step_effect BrightnessUp c = on_edition c (with_brightness c.edition (c.edition.brightness + 1))
step_effect BrightnessDown c = on_edition c (with_brightness c.edition (c.edition.brightness - 1))
step_effect SpeakerUp c = on_edition c (with_speaker c.edition (c.edition.speaker + 1))
step_effect SpeakerDown c = on_edition c (with_speaker c.edition (c.edition.speaker - 1))

-- Restart ------------------------------------------------------------------------------------------------------------

-- the six numbers that she stores
abbrev pub stored_of : Core → Stored
stored_of c =
    record { times = c.settings.times; contrast = c.settings.contrast; brightness = c.edition.brightness; speaker = c.edition.speaker; duration = c.settings.backlight.duration }

-- The table ----------------------------------------------------------------------------------------------------------

abbrev pub own_effect : SisterCommand → Core → Core
own_effect (Cursor n) c = on_settings c (with_shown c.settings (eqb n 1))
own_effect Restart c = core_of (sister_with (stored_of c))
own_effect (Mode n) c = on_screen c (to_mode c.settings.screen (mode_named n))
own_effect (Light n) c = cond (eqb n 0) (lit_by c (no_seconds (with_light c.settings.backlight off)) false) (on_backlight c (with_duration c.settings.backlight (record { 0 = n })))
own_effect (LightTo change) c = light_effect change c
own_effect (IconU n) c = on_icons c (with_icon_u c.settings.icons (icon_u_named n))
own_effect (Brightness n) c = on_edition c (with_brightness c.edition n)
own_effect (KeyTimes time1 time2) c = on_settings c (with_times c.settings (record { time1 = record { 0 = time1 }; time2 = record { 0 = time2 } }))
own_effect (Speaker n) c = on_edition c (with_speaker c.edition n)
own_effect (Asked question) c = c
own_effect (Step step) c = step_effect step c

-- THE THIRD VERDICT: good by its spelling, and refused by the record's state. A step at its end; the keypad's letters unless the light is
-- auto without PWM
abbrev pub step_refused : Stepping → Core → Bool
step_refused ContrastUp c = leb 20 c.settings.contrast
step_refused ContrastDown c = eqb c.settings.contrast 0
step_refused BrightnessUp c = leb 100 c.edition.brightness
step_refused BrightnessDown c = eqb c.edition.brightness 0
step_refused SpeakerUp c = leb 7 c.edition.speaker
step_refused SpeakerDown c = eqb c.edition.speaker 0

abbrev pub not_normal_auto : Core → Bool
not_normal_auto c = not (eqb c.settings.backlight.mode auto && not c.edition.pwm)

abbrev pub light_refused : LightChange → Core → Bool
light_refused To.On c = false
light_refused To.AutoStart c = false
light_refused To.Auto c = false
light_refused To.PwmOn c = false
light_refused To.PwmAuto c = false
light_refused To.Restart c = false
light_refused To.KeypadSet c = not_normal_auto c
light_refused To.KeypadClearedStart c = not_normal_auto c
light_refused To.KeypadCleared c = not_normal_auto c

abbrev pub refused_now : SisterCommand → Core → Bool
refused_now (Cursor n) c = false
refused_now Restart c = false
refused_now (Mode n) c = false
refused_now (Light n) c = false
refused_now (LightTo change) c = light_refused change c
refused_now (IconU n) c = false
refused_now (Brightness n) c = false
refused_now (KeyTimes time1 time2) c = false
refused_now (Speaker n) c = false
refused_now (Asked question) c = false
refused_now (Step step) c = step_refused step c

-- WHAT IS ANSWERED to a question
abbrev pub tell_of : Question → Core → Told
tell_of Ask.Position c = Tell.Place c.settings.screen.row c.settings.screen.column
tell_of Ask.Version c = Tell.Version
tell_of Ask.Hook c = Tell.Hook c.settings.hook
tell_of Ask.Ptt c = Tell.Ptt c.edition.ptt
tell_of Ask.Contrast c = Tell.Contrast c.settings.contrast
tell_of Ask.Mode c = Tell.Mode (mode_told c.settings.screen)
tell_of Ask.Light c = Tell.Light (light_told c.settings.backlight c.edition.pwm) c.settings.backlight.duration.0
tell_of Ask.Brightness c = Tell.Brightness c.edition.brightness
tell_of Ask.Times c = Tell.Times c.settings.times.time1.0 c.settings.times.time2.0
tell_of Ask.Speaker c = Tell.Speaker c.edition.speaker

-- no other is answered, in range or not
abbrev pub asked_of : SisterCommand → Core → Told
asked_of (Cursor n) c = Tell.Silence
asked_of Restart c = Tell.Silence
asked_of (Mode n) c = Tell.Silence
asked_of (Light n) c = Tell.Silence
asked_of (LightTo change) c = Tell.Silence
asked_of (IconU n) c = Tell.Silence
asked_of (Brightness n) c = Tell.Silence
asked_of (KeyTimes time1 time2) c = Tell.Silence
asked_of (Speaker n) c = Tell.Silence
asked_of (Asked question) c = tell_of question c
asked_of (Step step) c = Tell.Silence

-- a refused one gets the mark of a bad frame
abbrev pub own_told : SisterCommand → Core → Told
own_told command c = cond (refused_now command c) Tell.Mark (asked_of command c)
