-- What the range test says of a record, struct by struct; that with one part changed the others stay in range; and that the power-on
-- record is within its ranges. Assumes nothing.
use Rattle.std.specs.Prelude.{ℕ, ◌≡◌, refl, Bool, true, false, not, ◌&&◌, List, leb}
use Rattle.std.proofs.Common.{sym, ◌∙◌}
use Rattle.lists.specs.Both.{both, and_both}
use Rattle.record.specs.declared.Record.{Record}
use Rattle.record.specs.declared.Settings.{Settings}
use Rattle.record.specs.declared.Screen.{Screen}
use Rattle.record.specs.declared.Label.{Label}
use Rattle.record.specs.declared.Icons.{Icons}
use Rattle.record.specs.declared.Volume.{Volume}
use Rattle.record.specs.declared.Times.{Times}
use Rattle.record.specs.declared.Hundredths.{Hundredths}
use Rattle.record.specs.declared.Backlight.{Backlight}
use Rattle.record.specs.declared.Stored.{Stored}
use Rattle.record.specs.PowerOn.{power_on, former_power_on, sister_with, sister_power_on}
use Rattle.record.specs.Range.{mode_in_range, overlay_in_range, cursor_in_range, screen_in_range, text_in_range, label_in_range, picture_in_range, icons_in_range, volume_in_range, auto, sister_times, sister_backlight, sister_contrast, brightness_in_range, speaker_in_range, times_kept, buzzer_in_range, backlight_in_range, backlight_kept, contrast_kept, inverse_in_range, held_kept, frame_in_range, plain_in_range, settings_in_range, edition_kept, in_range}
use Rattle.record.specs.With.{with_screen, with_shown, with_left, with_right, with_icons, with_volume, with_times, with_buzzer, with_backlight, with_contrast, with_inverse}

-- The power-on record is within its ranges, and so is the one of the former defaults.
pub power_on_in_range : (in_range power_on ≡ true) × (in_range former_power_on ≡ true)
unfolding in_range text_in_range label_in_range picture_in_range inverse_in_range frame_in_range
power_on_in_range = (refl, refl)

-- The sister's is within hers.
pub sister_power_on_in_range : in_range sister_power_on ≡ true
unfolding in_range text_in_range label_in_range picture_in_range inverse_in_range frame_in_range
sister_power_on_in_range = refl

-- The table as facts: a line for each row, at the place in the record of what it speaks of.
pub record ScreenRanges (s : Screen) : Type 0 where
  pub mode : mode_in_range s.mode ≡ true
  pub overlay : overlay_in_range s.overlay ≡ true
  pub cursor : cursor_in_range s ≡ true

pub record SettingsRanges (sister pwm : Bool) (p : Settings) : Type 0 where
  pub screen : ScreenRanges p.screen
  pub left : label_in_range p.left ≡ true
  pub right : label_in_range p.right ≡ true
  pub icons : icons_in_range p.icons ≡ true
  pub volume : volume_in_range p.volume ≡ true
  pub times : times_kept sister p.times ≡ true
  pub buzzer : buzzer_in_range p.buzzer.0 ≡ true
  pub backlight : backlight_kept sister pwm p.backlight ≡ true
  pub contrast : contrast_kept sister p.contrast ≡ true
  pub inverse : inverse_in_range p.inverse ≡ true

pub record Ranges (r : Record) : Type 0 where
  pub settings : SettingsRanges r.edition.sister r.edition.pwm r.settings
  pub text : text_in_range r.text ≡ true
  pub picture : picture_in_range r.picture ≡ true
  pub held : held_kept r.edition.sister r.held ≡ true
  pub frame : frame_in_range r.frame ≡ true
  pub edition : edition_kept r.edition ≡ true

-- A record in range has each field in range, and the other way round.
screen_ranges : (s : Screen) → screen_in_range s ≡ true → ScreenRanges s
screen_ranges s h =
    let e2 = both h in
    let e1 = both e2.0 in
    record { mode = e1.0; overlay = e1.1; cursor = e2.1 }

settings_ranges : (sister pwm : Bool) (p : Settings) → settings_in_range sister pwm p ≡ true → SettingsRanges sister pwm p
settings_ranges sister pwm p h =
    let right = both h in
    let left = both right.0 in
    let inverse = both left.0 in
    let contrast = both inverse.0 in
    let backlight = both contrast.0 in
    let buzzer = both backlight.0 in
    let times = both buzzer.0 in
    let volume = both times.0 in
    let icons = both volume.0 in
    record {
      screen = screen_ranges p.screen icons.0;
      left = left.1;
      right = right.1;
      icons = icons.1;
      volume = volume.1;
      times = times.1;
      buzzer = buzzer.1;
      backlight = backlight.1;
      contrast = contrast.1;
      inverse = inverse.1;
    }

pub not_so : (b : Bool) → not b ≡ true → b ≡ false
not_so true h = sym h
not_so false h = refl

pub ranges : (r : Record) → in_range r ≡ true → Ranges r
unfolding in_range
ranges r h =
    let kept = both h in
    let frame = both kept.0 in
    let held = both frame.0 in
    let picture = both held.0 in
    let text = both picture.0 in
    record {
      settings = settings_ranges r.edition.sister r.edition.pwm r.settings text.0;
      text = text.1;
      picture = picture.1;
      held = held.1;
      frame = frame.1;
      edition = kept.1;
    }

-- The sister's power-on record is within her ranges whatever she has stored that is.
pub sister_with_in_range : (s : Stored) → sister_times s.times ≡ true → sister_backlight (record { mode = auto; duration = s.duration; left = record { 0 = 0 }; keypad = false }) true ≡ true
    → sister_contrast s.contrast ≡ true → brightness_in_range s.brightness ≡ true → speaker_in_range s.speaker ≡ true → in_range (sister_with s) ≡ true
unfolding in_range text_in_range label_in_range picture_in_range inverse_in_range frame_in_range
sister_with_in_range s times light contrast brightness speaker = rw (times, light, contrast, brightness, speaker)

-- A backlight of either edition is within the first's.
pub of_first : (sister pwm : Bool) (b : Backlight) → backlight_kept sister pwm b ≡ true → backlight_in_range b ≡ true
of_first true pwm b h =
    let short = both {a = backlight_in_range b && leb b.duration.0 250} (both {a = backlight_in_range b && leb b.duration.0 250 && leb b.left.0 250} h).0 in
    (both {a = backlight_in_range b} short.0).0
of_first false pwm b h = h

screen_in_range_lem : (s : Screen) → ScreenRanges s → screen_in_range s ≡ true
screen_in_range_lem s k = and_both (and_both k.mode k.overlay) k.cursor

settings_in_range_lem : (sister pwm : Bool) (p : Settings) → SettingsRanges sister pwm p → settings_in_range sister pwm p ≡ true
settings_in_range_lem sister pwm p k =
    and_both (and_both (plain k) k.left) k.right
  where
    plain : SettingsRanges sister pwm p → plain_in_range sister pwm p ≡ true
    plain k =
        and_both (and_both (and_both (and_both (and_both (and_both (and_both (screen_in_range_lem p.screen k.screen) k.icons) k.volume) k.times) k.buzzer) k.backlight) k.contrast) k.inverse

pub in_range_lem : (r : Record) → Ranges r → in_range r ≡ true
unfolding in_range
in_range_lem r k =
    and_both (and_both (and_both (and_both (and_both (settings_in_range_lem r.edition.sister r.edition.pwm r.settings k.settings) k.text) k.picture) k.held) k.frame) k.edition

-- Where one part is changed for one in range all else stays in range: the new part's test says what that of the former said.
module _ {sister pwm : Bool} {p : Settings} (k : SettingsRanges sister pwm p) where
  whole : settings_in_range sister pwm p ≡ true
  whole = settings_in_range_lem sister pwm p k

  pub screen_set : (s : Screen) → ScreenRanges s → SettingsRanges sister pwm (with_screen p s)
  screen_set s h = settings_ranges sister pwm _ (rw (screen_in_range_lem s h ∙ sym (screen_in_range_lem p.screen k.screen)) whole)

  pub shown_set : (b : Bool) → SettingsRanges sister pwm (with_shown p b)
  shown_set b = settings_ranges sister pwm _ whole

  pub labels_set : (l r : Label) → label_in_range l ≡ true → label_in_range r ≡ true → SettingsRanges sister pwm (with_right (with_left p l) r)
  labels_set l r h g = settings_ranges sister pwm _ (rw (h ∙ sym k.left, g ∙ sym k.right) whole)

  pub icons_set : (i : Icons) → icons_in_range i ≡ true → SettingsRanges sister pwm (with_icons p i)
  icons_set i h = settings_ranges sister pwm _ (rw (h ∙ sym k.icons) whole)

  pub volume_set : (v : Volume) → volume_in_range v ≡ true → SettingsRanges sister pwm (with_volume p v)
  volume_set v h = settings_ranges sister pwm _ (rw (h ∙ sym k.volume) whole)

  pub times_set : (t : Times) → times_kept sister t ≡ true → SettingsRanges sister pwm (with_times p t)
  times_set t h = settings_ranges sister pwm _ (rw (h ∙ sym k.times) whole)

  pub buzzer_set : (n : Hundredths) → buzzer_in_range n.0 ≡ true → SettingsRanges sister pwm (with_buzzer p n)
  buzzer_set n h = settings_ranges sister pwm _ (rw (h ∙ sym k.buzzer) whole)

  -- a light with PWM or without
  pub backlight_set : {pwm' : Bool} (b : Backlight) → backlight_kept sister pwm' b ≡ true → SettingsRanges sister pwm' (with_backlight p b)
  backlight_set {pwm'} b h = settings_ranges sister pwm' _ (rw (h ∙ sym k.backlight) whole)

  pub contrast_set : (n : ℕ) → contrast_kept sister n ≡ true → SettingsRanges sister pwm (with_contrast p n)
  contrast_set n h = settings_ranges sister pwm _ (rw (h ∙ sym k.contrast) whole)

  pub inverse_set : (marks : List Bool) → inverse_in_range marks ≡ true → SettingsRanges sister pwm (with_inverse p marks)
  inverse_set marks h = settings_ranges sister pwm _ (rw (h ∙ sym k.inverse) whole)
