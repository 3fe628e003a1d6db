-- The fields of the record that a stream can change, what stands in each, and a core with something else in one. Assumes nothing.
use Rattle.std.specs.Prelude.{ℕ, Bool, true, false, cond, ◌||◌, List, [], ◌∷◌, ◌++◌, map, ◌≡◌, refl, eqb, get_or, drop}
use Rattle.std.proofs.Common.{ap, sym, ◌∙◌, take-append-drop}
use Rattle.record.specs.declared.Label.{Label}
use Rattle.record.specs.declared.Keys.{Keys}
use Rattle.record.specs.Range.{text_of, line_of}
use Rattle.record.specs.With.{with_shown, with_left, with_right, with_times, with_time1, with_time2, with_buzzer, with_display, with_mode, with_overlay, with_row, with_column, with_icon_s, with_icon_u, with_icon_f, with_icon_r, with_icon_p, with_icon_w, with_which, with_level, with_mute, with_hidden, with_light, with_duration, with_seconds_left, with_keypad, with_contrast, with_hook, with_inverse, with_sister, with_brightness, with_speaker, with_pwm, with_ptt, with_keys}
use Rattle.record.specs.Core.{Core, on_settings, on_text, on_picture, on_screen, on_icons, on_volume, on_backlight, on_edition}

pub data Field : Type 0 where
  -- display, text mode, overlay, cursor position, text, large line, cursor shown or not
  display mode overlay row column text large_line shown : Field
  -- labels
  leftLabel rightLabel : Field
  -- icons
  iconS icon_u iconF iconR icon_p iconW : Field
  -- volume
  which level mute hidden : Field
  -- Time1, Time2, buzzer
  time1 time2 buzzer : Field
  -- backlight: off, on or auto; duration; seconds left; keypad flag
  light duration secondsLeft keypad : Field
  picture : Field
  -- contrast, hook, inverse marks
  contrast hook inverse : Field
  -- which edition it is; the sister's brightness, speaker volume, PWM, PTT and keys
  sister brightness speaker pwm ptt keys : Field

-- each field has a number of its own
abbrev pub number : Field → ℕ
number =
    elim [ display ↦ 0 | mode ↦ 1 | overlay ↦ 2 | row ↦ 3 | column ↦ 4 | text ↦ 5 | large_line ↦ 6 | shown ↦ 7 | leftLabel ↦ 8 | rightLabel ↦ 9 | iconS ↦ 10 | icon_u ↦ 11 | iconF ↦ 12 | iconR ↦ 13 | icon_p ↦ 14 | iconW ↦ 15 | which ↦ 16 | level ↦ 17 | mute ↦ 18 | hidden ↦ 19 | time1 ↦ 20 | time2 ↦ 21 | buzzer ↦ 22 | light ↦ 23 | duration ↦ 24 | secondsLeft ↦ 25 | keypad ↦ 26 | picture ↦ 27 | contrast ↦ 28 | hook ↦ 29 | inverse ↦ 30 | sister ↦ 31 | brightness ↦ 32 | speaker ↦ 33 | pwm ↦ 34 | ptt ↦ 35 | keys ↦ 36 ]

-- What stands in a field ------------------------------------------------------------------------------------------

-- a flag is 0 or 1
abbrev pub bit : Bool → ℕ
bit b = cond b 1 0

-- a label is its length and its seven places
abbrev pub places : Label → List ℕ
places l = l.len ∷ l.codes

abbrev pub read : Field → Core → List ℕ
read display c = bit c.settings.screen.display ∷ []
read mode c = c.settings.screen.mode ∷ []
read overlay c = c.settings.screen.overlay ∷ []
read row c = c.settings.screen.row ∷ []
read column c = c.settings.screen.column ∷ []
read text c = text_of c.text
read large_line c = line_of c.text
read shown c = bit c.settings.shown ∷ []
read leftLabel c = places c.settings.left
read rightLabel c = places c.settings.right
read iconS c = c.settings.icons.s ∷ []
read icon_u c = c.settings.icons.u ∷ []
read iconF c = c.settings.icons.f ∷ []
read iconR c = c.settings.icons.r ∷ []
read icon_p c = c.settings.icons.p ∷ []
read iconW c = c.settings.icons.w ∷ []
read which c = c.settings.volume.which ∷ []
read level c = c.settings.volume.level ∷ []
read mute c = bit c.settings.volume.mute ∷ []
read hidden c = bit c.settings.volume.hidden ∷ []
read time1 c = c.settings.times.time1.0 ∷ []
read time2 c = c.settings.times.time2.0 ∷ []
read buzzer c = c.settings.buzzer.0 ∷ []
read light c = c.settings.backlight.mode ∷ []
read duration c = c.settings.backlight.duration.0 ∷ []
read secondsLeft c = c.settings.backlight.left.0 ∷ []
read keypad c = bit c.settings.backlight.keypad ∷ []
read picture c = c.picture
read contrast c = c.settings.contrast ∷ []
read hook c = bit c.settings.hook ∷ []
read inverse c = map bit c.settings.inverse
read sister c = bit c.edition.sister ∷ []
read brightness c = c.edition.brightness ∷ []
read speaker c = c.edition.speaker ∷ []
read pwm c = bit c.edition.pwm ∷ []
read ptt c = bit c.edition.ptt ∷ []
read keys c = c.edition.keys.stage ∷ c.edition.keys.key ∷ c.edition.keys.tick.0 ∷ c.edition.keys.down ∷ []

-- Another content ---------------------------------------------------------------------------------------------------

-- what stands in a field, as it is kept: a number, a flag, flags, a label, keys
abbrev pub first : List ℕ → ℕ
first v = get_or v 0 0

abbrev pub flag : List ℕ → Bool
flag v = eqb (first v) 1

abbrev pub flags : List ℕ → List Bool
flags v = map (λ (n : ℕ). eqb n 1) v

abbrev pub label_in : List ℕ → Label
label_in v = record { len = first v; codes = drop 1 v }

abbrev pub keys_in : List ℕ → Keys
keys_in v = record { stage = first v; key = get_or v 1 0; tick = record { 0 = get_or v 2 0 }; down = get_or v 3 0 }

-- a core with this in a field
abbrev pub put : Field → List ℕ → Core → Core
put display v c = on_screen c (with_display c.settings.screen (flag v))
put mode v c = on_screen c (with_mode c.settings.screen (first v))
put overlay v c = on_screen c (with_overlay c.settings.screen (first v))
put row v c = on_screen c (with_row c.settings.screen (first v))
put column v c = on_screen c (with_column c.settings.screen (first v))
put text v c = on_text c (v ++ line_of c.text)
put large_line v c = on_text c (text_of c.text ++ v)
put shown v c = on_settings c (with_shown c.settings (flag v))
put leftLabel v c = on_settings c (with_left c.settings (label_in v))
put rightLabel v c = on_settings c (with_right c.settings (label_in v))
put iconS v c = on_icons c (with_icon_s c.settings.icons (first v))
put icon_u v c = on_icons c (with_icon_u c.settings.icons (first v))
put iconF v c = on_icons c (with_icon_f c.settings.icons (first v))
put iconR v c = on_icons c (with_icon_r c.settings.icons (first v))
put icon_p v c = on_icons c (with_icon_p c.settings.icons (first v))
put iconW v c = on_icons c (with_icon_w c.settings.icons (first v))
put which v c = on_volume c (with_which c.settings.volume (first v))
put level v c = on_volume c (with_level c.settings.volume (first v))
put mute v c = on_volume c (with_mute c.settings.volume (flag v))
put hidden v c = on_volume c (with_hidden c.settings.volume (flag v))
put time1 v c = on_settings c (with_times c.settings (with_time1 c.settings.times (first v)))
put time2 v c = on_settings c (with_times c.settings (with_time2 c.settings.times (first v)))
put buzzer v c = on_settings c (with_buzzer c.settings (record { 0 = first v }))
put light v c = on_backlight c (with_light c.settings.backlight (first v))
put duration v c = on_backlight c (with_duration c.settings.backlight (record { 0 = first v }))
put secondsLeft v c = on_backlight c (with_seconds_left c.settings.backlight (record { 0 = first v }))
put keypad v c = on_backlight c (with_keypad c.settings.backlight (flag v))
put picture v c = on_picture c v
put contrast v c = on_settings c (with_contrast c.settings (first v))
put hook v c = on_settings c (with_hook c.settings (flag v))
put inverse v c = on_settings c (with_inverse c.settings (flags v))
put sister v c = on_edition c (with_sister c.edition (flag v))
put brightness v c = on_edition c (with_brightness c.edition (first v))
put speaker v c = on_edition c (with_speaker c.edition (first v))
put pwm v c = on_edition c (with_pwm c.edition (flag v))
put ptt v c = on_edition c (with_ptt c.edition (flag v))
put keys v c = on_edition c (with_keys c.edition (keys_in v))

-- Lists of fields ---------------------------------------------------------------------------------------------------

-- a field is in a list of fields
abbrev pub among : Field → List Field → Bool
among f [] = false
among f (g ∷ more) = eqb (number f) (number g) || among f more

unfoldable pub all_fields : List Field
all_fields =
    display ∷ mode ∷ overlay ∷ row ∷ column ∷ text ∷ large_line ∷ shown ∷
    leftLabel ∷ rightLabel ∷
    iconS ∷ icon_u ∷ iconF ∷ iconR ∷ icon_p ∷ iconW ∷
    which ∷ level ∷ mute ∷ hidden ∷
    time1 ∷ time2 ∷ buzzer ∷
    light ∷ duration ∷ secondsLeft ∷ keypad ∷
    picture ∷
    contrast ∷ hook ∷ inverse ∷
    sister ∷ brightness ∷ speaker ∷ pwm ∷ ptt ∷ keys ∷ []

-- What a list made from all fields has for a field stands at the place of its number.
pub at_place : {A : Type 0} (g : Field → A) (d : A) (f : Field) → get_or (map g all_fields) (number f) d ≡ g f
unfolding all_fields
at_place g d =
    elim [ display ↦ refl | mode ↦ refl | overlay ↦ refl | row ↦ refl | column ↦ refl | text ↦ refl | large_line ↦ refl | shown ↦ refl | leftLabel ↦ refl | rightLabel ↦ refl | iconS ↦ refl | icon_u ↦ refl | iconF ↦ refl | iconR ↦ refl | icon_p ↦ refl | iconW ↦ refl | which ↦ refl | level ↦ refl | mute ↦ refl | hidden ↦ refl | time1 ↦ refl | time2 ↦ refl | buzzer ↦ refl | light ↦ refl | duration ↦ refl | secondsLeft ↦ refl | keypad ↦ refl | picture ↦ refl | contrast ↦ refl | hook ↦ refl | inverse ↦ refl | sister ↦ refl | brightness ↦ refl | speaker ↦ refl | pwm ↦ refl | ptt ↦ refl | keys ↦ refl ]

-- No two fields have one number.
pub one_field : (f g : Field) → number f ≡ number g → f ≡ g
one_field f g e =
    let at = at_place (λ (x : Field). x) display in
    sym (at f) ∙ ap (λ (n : ℕ). get_or (map (λ (x : Field). x) all_fields) n display) e ∙ at g

-- a core made of what stands in its fields
made : (Field → List ℕ) → Core
made found =
    let one : Field → ℕ = λ f. first (found f) in
    let yes : Field → Bool = λ f. flag (found f) in
    let codes : Field → Label = λ f. label_in (found f) in
    record {
      settings = record {
        screen = record { display = yes display; mode = one mode; overlay = one overlay; row = one row; column = one column };
        shown = yes shown;
        left = codes leftLabel;
        right = codes rightLabel;
        icons = record { s = one iconS; u = one icon_u; f = one iconF; r = one iconR; p = one icon_p; w = one iconW };
        volume = record { which = one which; level = one level; mute = yes mute; hidden = yes hidden };
        times = record { time1 = record { 0 = one time1 }; time2 = record { 0 = one time2 } };
        buzzer = record { 0 = one buzzer };
        backlight = record { mode = one light; duration = record { 0 = one duration }; left = record { 0 = one secondsLeft }; keypad = yes keypad };
        contrast = one contrast;
        hook = yes hook;
        inverse = flags (found inverse);
      };
      text = found text ++ found large_line;
      picture = found picture;
      edition = record { sister = yes sister; brightness = one brightness; speaker = one speaker; pwm = yes pwm; ptt = yes ptt; keys = keys_in (found keys) };
    }

pub flag_read : (b : Bool) → eqb (bit b) 1 ≡ b
flag_read true = refl
flag_read false = refl

pub flags_read : (marks : List Bool) → flags (map bit marks) ≡ marks
flags_read [] = refl
flags_read (mark ∷ more) = λ j. flag_read mark j ∷ flags_read more j

made_again : (c : Core) → made (λ f. read f c) ≡ c
unfolding made
made_again c = simp (flag_read, flags_read, take-append-drop)

-- The fields are all that a core has: two cores with the same in every field are one.
pub fields_are_all : (c d : Core) → ((f : Field) → read f c ≡ read f d) → c ≡ d
fields_are_all c d same = sym (made_again c) ∙ (λ j. made (λ f. same f j)) ∙ made_again d
