-- WHATEVER A FRAME ORDERS IN EITHER EDITION, the core stays within its ranges. Assumes nothing.
use Rattle.std.specs.Prelude.{ℕ, zero, suc, ◌+◌, ◌-◌, ◌≤◌, Bool, true, false, not, ◌&&◌, ◌||◌, List, ◌≡◌, refl, leb, eqb}
use Rattle.std.proofs.Common.{arith, true≢false, sym, ◌∙◌, subst, leb-true, leb-false, le-leb}
use Rattle.std.proofs.Math.Bool.{or-true}
use Rattle.std.proofs.Math.Option.{Option, none, some}
use Rattle.std.proofs.lemmas.Bool.{eqb-false}
use Rattle.lists.specs.Both.{both, and_both}
use Rattle.lists.specs.Tests.{by_test, either_way}
use Rattle.record.specs.declared.Backlight.{Backlight}
use Rattle.record.specs.declared.Edition.{Edition}
use Rattle.record.specs.Laws.{ranges, not_so, shown_set, times_set, backlight_set, contrast_set, sister_with_in_range}
use Rattle.record.specs.Range.{off, on, auto, mode_in_range, icon_u_in_range, duration_in_range, backlight_in_range, sister_times, sister_backlight, sister_contrast, brightness_in_range, speaker_in_range, keys_in_range, time1_in_range, time2_in_range}
use Rattle.record.specs.With.{with_light, with_keypad, with_duration, with_icon_u}
use Rattle.record.specs.Core.{Core, on_backlight, on_edition}
use Rattle.record.specs.PowerOn.{sister_with}
use Rattle.command.specs.Ranges.{is_overlay}
use Rattle.command.specs.Order.{Order, plain, label, draw}
use Rattle.command.specs.Reading.{order_of}
use Rattle.command.specs.declared.Command.{Command}
use Rattle.effect.specs.Effect.{no_seconds}
use Rattle.effect.specs.Keeps.{CoreInRange, Carries, core_of_record, on_settings_lem, mode_keeps, icon_keeps, sets_times_or_light, carry_keeps, obey_keeps}
use Rattle.effect.specs.Obey.{obey_order}
use Rattle.sister_command.specs.declared.SisterCommand.{SisterCommand}
use Rattle.sister_command.specs.declared.SisterCommand.TheVariants.{Cursor, Restart, Mode, Light, LightTo, IconU, Brightness, KeyTimes, Speaker, Asked, Step}
use Rattle.sister_command.specs.declared.Step.{Step as Stepping}
use Rattle.sister_command.specs.declared.Step.TheVariants.{ContrastUp, ContrastDown, BrightnessUp, BrightnessDown, SpeakerUp, SpeakerDown}
use Rattle.sister_command.specs.declared.LightChange.{LightChange}
use Rattle.sister_command.specs.declared.LightChange.TheVariants as To
use Rattle.sister_command.specs.Order.{AnyOrder, first}
use Rattle.sister_command.specs.Order as order
use Rattle.sister_command.specs.Grammar.{SpellsIn}
use Rattle.sister_command.specs.Reading.{order_in, as_first}
use Rattle.sister_command.proofs.Agree.{agree_in, label_in, row_in, shared_test}
use Rattle.sister_command.specs.InRange.{own_in_range}
use Rattle.sister_command.specs.Ranges.{is_time1_before}
use Rattle.sister_effect.specs.Effect.{not_normal_auto, light_refused, mode_named, icon_u_named, lit_by, started_anew, light_effect, step_effect, step_refused, stored_of, own_effect, refused_now}
use Rattle.sister_effect.specs.Obey.{obey_any}
use Rattle.sister_effect.specs.Questions.{own_obeyed, own_refused, own_passed_over}

-- what the ranges say of the sister's core
record Hers (c : Core) : Type 0 where
  times : sister_times c.settings.times ≡ true
  light : sister_backlight c.settings.backlight c.edition.pwm ≡ true
  contrast : sister_contrast c.settings.contrast ≡ true
  brightness : brightness_in_range c.edition.brightness ≡ true
  speaker : speaker_in_range c.edition.speaker ≡ true
  keys : keys_in_range c.edition.keys ≡ true

hers : (c : Core) → c.edition.sister ≡ true → CoreInRange c → Hers c
hers c s k =
    let edition : (brightness_in_range c.edition.brightness && speaker_in_range c.edition.speaker && keys_in_range c.edition.keys) ≡ true = rw s at k.edition in
    let keys = both {a = brightness_in_range c.edition.brightness && speaker_in_range c.edition.speaker} edition in
    let speaker = both {a = brightness_in_range c.edition.brightness} keys.0 in
    record { times = rw s at k.settings.times; light = rw s at k.settings.backlight; contrast = rw s at k.settings.contrast; brightness = speaker.0; speaker = speaker.1; keys = keys.1 }

-- the light's four tests
record Lit (b : Backlight) (pwm : Bool) : Type 0 where
  first : backlight_in_range b ≡ true
  duration : leb b.duration.0 250 ≡ true
  left : leb b.left.0 250 ≡ true
  pwm_with : (not pwm || not (eqb b.mode off)) ≡ true

lit : (b : Backlight) (pwm : Bool) → sister_backlight b pwm ≡ true → Lit b pwm
lit b pwm h =
    let e3 = both {a = backlight_in_range b && leb b.duration.0 250 && leb b.left.0 250} h in
    let e2 = both {a = backlight_in_range b && leb b.duration.0 250} e3.0 in
    let e1 = both {a = backlight_in_range b} e2.0 in
    record { first = e1.0; duration = e1.1; left = e2.1; pwm_with = e3.1 }

duration_in : (b : Backlight) → backlight_in_range b ≡ true → duration_in_range b.duration.0 ≡ true
duration_in b h = (both {a = leb b.mode auto} (both {a = leb b.mode auto && duration_in_range b.duration.0} h).0).1

so : (b : Bool) → not b ≡ false → b ≡ true
so true h = refl
so false h = absurd (true≢false h)

-- her thirteen modes are text modes and overlays
named : (n : ℕ) → n ≤ 12 → (mode_in_range (mode_named n) || is_overlay (mode_named n)) ≡ true
named zero h = refl
named (suc zero) h = refl
named (suc (suc zero)) h = refl
named (suc (suc (suc zero))) h = refl
named (suc (suc (suc (suc zero)))) h = refl
named (suc (suc (suc (suc (suc zero))))) h = refl
named (suc (suc (suc (suc (suc (suc zero)))))) h = refl
named (suc (suc (suc (suc (suc (suc (suc zero))))))) h = refl
named (suc (suc (suc (suc (suc (suc (suc (suc zero)))))))) h = refl
named (suc (suc (suc (suc (suc (suc (suc (suc (suc zero))))))))) h = refl
named (suc (suc (suc (suc (suc (suc (suc (suc (suc (suc zero)))))))))) h = refl
named (suc (suc (suc (suc (suc (suc (suc (suc (suc (suc (suc zero))))))))))) h = refl
named (suc (suc (suc (suc (suc (suc (suc (suc (suc (suc (suc (suc zero)))))))))))) h = refl
named (suc (suc (suc (suc (suc (suc (suc (suc (suc (suc (suc (suc (suc n))))))))))))) h = absurd (omega arith)

letter : (n : ℕ) → n ≤ 2 → icon_u_in_range (icon_u_named n) ≡ true
letter zero h = refl
letter (suc zero) h = refl
letter (suc (suc zero)) h = refl
letter (suc (suc (suc n))) h = absurd (omega arith)

-- 0 and 0, or as in the first edition
both_times : (time1 time2 : ℕ) → (is_time1_before time2 time1 && time2_in_range time2) ≡ true → sister_times (record { time1 = record { 0 = time1 }; time2 = record { 0 = time2 } }) ≡ true
both_times time1 time2 h = cases (time1_in_range time1) (time2_in_range time2) (eqb time1 0 && eqb time2 0) h
  where
    cases : (a b z : Bool) → ((a || z) && b) ≡ true → ((a && b) || z) ≡ true
    cases true true z h = refl
    cases true false z h = absurd (true≢false (sym h))
    cases false b true h = refl
    cases false b false h = absurd (true≢false (sym h))

module _ (c : Core) (s : c.edition.sister ≡ true) (k : CoreInRange c) where
  own : Hers c
  own = hers c s k

  light : Lit c.settings.backlight c.edition.pwm
  light = lit c.settings.backlight c.edition.pwm own.light

  -- another light, with PWM or without
  lit_keeps : (b : Backlight) (pwm : Bool) → sister_backlight b pwm ≡ true → CoreInRange (lit_by c b pwm)
  lit_keeps b pwm h = record { settings = backlight_set k.settings b (rw s h); text = k.text; picture = k.picture; edition = rw s (rw s at k.edition) }

  -- the same light but for its mode and the seconds left
  shines : (b : Backlight) (pwm : Bool) → b.duration.0 ≡ c.settings.backlight.duration.0 → leb b.mode auto ≡ true → (eqb b.left.0 0 || eqb b.mode auto) ≡ true → leb b.left.0 250 ≡ true
      → (not pwm || not (eqb b.mode off)) ≡ true → sister_backlight b pwm ≡ true
  shines b pwm d m l short w =
      let same : duration_in_range b.duration.0 ≡ true = rw d (duration_in c.settings.backlight light.first) in
      and_both (and_both (and_both (and_both (and_both m same) l) (rw d light.duration)) short) w

  shining : (b : Backlight) (pwm : Bool) → b.duration.0 ≡ c.settings.backlight.duration.0 → leb b.mode auto ≡ true → (eqb b.left.0 0 || eqb b.mode auto) ≡ true → leb b.left.0 250 ≡ true
      → (not pwm || not (eqb b.mode off)) ≡ true → CoreInRange (lit_by c b pwm)
  shining b pwm d m l short w = lit_keeps b pwm (shines b pwm d m l short w)

  any_left : (b : Backlight) → eqb b.mode auto ≡ true → (eqb b.left.0 0 || eqb b.mode auto) ≡ true
  any_left b e = rw e (or-true (eqb b.left.0 0))

  edition_keeps : (e : Edition) → e.sister ≡ true → e.pwm ≡ c.edition.pwm → (brightness_in_range e.brightness && speaker_in_range e.speaker && keys_in_range e.keys) ≡ true → CoreInRange (on_edition c e)
  edition_keeps e t p h =
      record { settings = rw (t ∙ sym s, p) k.settings; text = k.text; picture = k.picture; edition = rw t h }

  -- left = duration, in auto
  again : (keypad : Bool) → eqb c.settings.backlight.mode auto ≡ true → CoreInRange (on_backlight c (started_anew (with_keypad c.settings.backlight keypad)))
  again keypad e =
      let modes = both {a = leb c.settings.backlight.mode auto} {b = duration_in_range c.settings.backlight.duration.0} (both {a = leb c.settings.backlight.mode auto && duration_in_range c.settings.backlight.duration.0} light.first).0 in
      let anew = started_anew (with_keypad c.settings.backlight keypad) in
      on_settings_lem c k (backlight_set k.settings anew (rw s (shines anew c.edition.pwm refl modes.0 (any_left anew e) light.duration light.pwm_with)))

  normal_auto : not_normal_auto c ≡ false → eqb c.settings.backlight.mode auto ≡ true
  normal_auto h = (both {a = eqb c.settings.backlight.mode auto} {b = not c.edition.pwm} (so (eqb c.settings.backlight.mode auto && not c.edition.pwm) h)).0

  -- The lines of the table -------------------------------------------------------------------------------------------

  light_keeps : (change : LightChange) → light_refused change c ≡ false → CoreInRange (light_effect change c)
  light_keeps To.On h = shining (no_seconds (with_light c.settings.backlight on)) false refl refl refl refl refl
  light_keeps To.AutoStart h = shining (started_anew (with_light c.settings.backlight auto)) false refl refl (or-true (eqb c.settings.backlight.duration.0 0)) light.duration refl
  light_keeps To.Auto h = shining (with_light c.settings.backlight auto) false refl refl (or-true (eqb c.settings.backlight.left.0 0)) light.left refl
  light_keeps To.PwmOn h = shining (no_seconds (with_light c.settings.backlight on)) true refl refl refl refl refl
  light_keeps To.PwmAuto h = shining (with_light c.settings.backlight auto) true refl refl (or-true (eqb c.settings.backlight.left.0 0)) light.left refl
  light_keeps To.Restart h = either_way (λ (b : Backlight). CoreInRange (on_backlight c b)) (eqb c.settings.backlight.mode auto) (λ e. again c.settings.backlight.keypad e) (λ e. k)
  light_keeps To.KeypadSet h = on_settings_lem c k (backlight_set k.settings _ k.settings.backlight)
  light_keeps To.KeypadClearedStart h = again false (normal_auto h)
  light_keeps To.KeypadCleared h = on_settings_lem c k (backlight_set k.settings _ k.settings.backlight)

  step_keeps : (step : Stepping) → step_refused step c ≡ false → CoreInRange (step_effect step c)
  step_keeps ContrastUp h = on_settings_lem c k (contrast_set k.settings _ (rw s (le-leb (c.settings.contrast + 1) 20 (omega (arith, leb-false 20 c.settings.contrast h)))))
  step_keeps ContrastDown h = on_settings_lem c k (contrast_set k.settings _ (rw s (le-leb (c.settings.contrast - 1) 20 (omega (arith, leb-true c.settings.contrast 20 own.contrast)))))
  step_keeps BrightnessUp h = edition_keeps _ s refl (and_both (and_both (le-leb (c.edition.brightness + 1) 100 (omega (arith, leb-false 100 c.edition.brightness h))) own.speaker) own.keys)
  step_keeps BrightnessDown h = edition_keeps _ s refl (and_both (and_both (le-leb (c.edition.brightness - 1) 100 (omega (arith, leb-true c.edition.brightness 100 own.brightness))) own.speaker) own.keys)
  step_keeps SpeakerUp h = edition_keeps _ s refl (and_both (and_both own.brightness (le-leb (c.edition.speaker + 1) 7 (omega (arith, leb-false 7 c.edition.speaker h)))) own.keys)
  step_keeps SpeakerDown h = edition_keeps _ s refl (and_both (and_both own.brightness (le-leb (c.edition.speaker - 1) 7 (omega (arith, leb-true c.edition.speaker 7 own.speaker)))) own.keys)

  number_keeps : (n : ℕ) → leb n 250 ≡ true → CoreInRange (own_effect (Light n) c)
  number_keeps n h =
      either_way CoreInRange (eqb n 0) (λ e. shining (no_seconds (with_light c.settings.backlight off)) false refl refl refl refl refl)
      (λ e. on_settings_lem c k (backlight_set k.settings _ (rw s (lasts (omega (arith, eqb-false n 0 e))))))
    where
      lasts : 1 ≤ n → sister_backlight (with_duration c.settings.backlight (record { 0 = n })) c.edition.pwm ≡ true
      lasts low =
          let b = c.settings.backlight in
          let first = both {a = leb b.mode auto && duration_in_range b.duration.0} light.first in
          let mode = (both {a = leb b.mode auto} first.0).0 in
          let lasts : duration_in_range n ≡ true = and_both (le-leb 1 n low) (le-leb n 255 (omega (arith, leb-true n 250 h))) in
          and_both (and_both (and_both (and_both (and_both mode lasts) first.1) h) light.left) light.pwm_with

  restart_keeps : CoreInRange (own_effect Restart c)
  restart_keeps =
      let b : Backlight = record { mode = auto; duration = c.settings.backlight.duration; left = record { 0 = 0 }; keypad = false } in
      core_of_record (sister_with (stored_of c))
      (ranges (sister_with (stored_of c)) (sister_with_in_range (stored_of c) own.times (shines b true refl refl refl refl refl) own.contrast own.brightness own.speaker))

  -- EACH OF HER OWN COMMANDS keeps her core in range.
  pub own_keeps : (command : SisterCommand) → own_in_range command ≡ true → refused_now command c ≡ false → CoreInRange (own_effect command c)
  own_keeps (Cursor n) h r = on_settings_lem c k (shown_set k.settings _)
  own_keeps Restart h r = restart_keeps
  own_keeps (Mode n) h r = mode_keeps c (mode_named n) k (named n (leb-true n 12 h))
  own_keeps (Light n) h r = number_keeps n h
  own_keeps (LightTo change) h r = light_keeps change r
  own_keeps (IconU n) h r = icon_keeps c k (with_icon_u c.settings.icons (icon_u_named n)) (λ e. rw (letter n (leb-true n 2 h) ∙ sym e.u))
  own_keeps (Brightness n) h r = edition_keeps _ s refl (and_both (and_both h own.speaker) own.keys)
  own_keeps (KeyTimes time1 time2) h r = on_settings_lem c k (times_set k.settings _ (rw s (both_times time1 time2 h)))
  own_keeps (Speaker n) h r = edition_keeps _ s refl (and_both (and_both own.brightness h) own.keys)
  own_keeps (Asked question) h r = k
  own_keeps (Step step) h r = step_keeps step r

-- No command that the sister shares has the first edition's times or light.
carried : (o : Order) (f : List ℕ) → SpellsIn true (first o) f → Carries true o
carried (plain command) f s = λ h. absurd (true≢false (sym h ∙ not_so (sets_times_or_light command) (shared_test (λ (x : Command). not (sets_times_or_light x)) (λ m n. refl) command s)))
carried (label side t) f s = label_in true side t s
carried (draw row columns) f s = row_in true s

-- WHATEVER A FRAME IS, the core stays in range.
pub frame_keeps : (c : Core) (frame : List ℕ) → CoreInRange c → CoreInRange (obey_any c (order_in c.edition.sister frame))
frame_keeps c frame k = by_test c.edition.sister sister first_edition
  where
    first_found : (found : Option Order) → CoreInRange (obey_order c found) → CoreInRange (obey_any c (as_first found))
    first_found none h = h
    first_found (some o) h = h

    first_edition : c.edition.sister ≡ false → CoreInRange (obey_any c (order_in c.edition.sister frame))
    first_edition e = subst (λ (b : Bool). CoreInRange (obey_any c (order_in b frame))) (sym e) (first_found (order_of frame) (obey_keeps c frame e k))

    found_keeps : c.edition.sister ≡ true → (found : Option AnyOrder) → order_in true frame ≡ found → CoreInRange (obey_any c found)
    found_keeps e none h = k
    found_keeps e (some (first o)) h = carry_keeps o c (subst (λ (b : Bool). Carries b o) (sym e) (carried o frame ((agree_in true (first o) frame).0 h))) k
    found_keeps e (some (order.own command)) h =
        by_test (own_in_range command)
        (λ inside. by_test (refused_now command c) (λ r. rw (own_refused command c r) k) (λ r. rw (own_obeyed command c inside r) (own_keeps c e k command inside r)))
        (λ outside. rw (own_passed_over command c outside) k)

    sister : c.edition.sister ≡ true → CoreInRange (obey_any c (order_in c.edition.sister frame))
    sister e = subst (λ (b : Bool). CoreInRange (obey_any c (order_in b frame))) (sym e) (found_keeps e (order_in true frame) refl)
