-- The record's ranges but those of its arrays, and how the range of the whole record is made of them. Assumes nothing.
use Rattle.std.specs.Prelude.{◌≡◌, refl, Bool, true, false, ◌&&◌}
use Rattle.std.proofs.Common.{sym, ap}
use Rattle.std.proofs.Math.Bool.{and-true}
use Rattle.record.specs.declared.Record.{Record}
use Rattle.record.specs.declared.Settings.{Settings}
use Rattle.record.specs.declared.Held.{Held}
use Rattle.record.specs.Range.{text_in_range, label_in_range, picture_in_range, plain_in_range, held_kept, settings_in_range, frame_in_range}

-- in either edition, and in the first
abbrev pub small_kept : Bool → Bool → Settings → Held → Bool
small_kept sister pwm p held = plain_in_range sister pwm p && held_kept sister held

abbrev pub small_in_range : Settings → Held → Bool
small_in_range p held = small_kept false false p held

-- The record has the labels, the text and the picture before the held key; it does not matter where they stand.
and_none : (a : Bool) → (a && false) ≡ false
and_none true = refl
and_none false = refl

later : (a h l m t g : Bool) → (a && h && l && m && t && g) ≡ (a && l && m && t && g && h)
later false h l m t g = refl
later true true l m t g = sym (and-true (l && m && t && g))
later true false l m t g = sym (and_none (l && m && t && g))

pub small_and_arrays : (sister pwm : Bool) (r : Record) → (small_kept sister pwm r.settings r.held && label_in_range r.settings.left && label_in_range r.settings.right && text_in_range r.text && picture_in_range r.picture && frame_in_range r.frame)
    ≡ (settings_in_range sister pwm r.settings && text_in_range r.text && picture_in_range r.picture && held_kept sister r.held && frame_in_range r.frame)
small_and_arrays sister pwm r =
    ap (λ (z : Bool). z && frame_in_range r.frame)
    (later (plain_in_range sister pwm r.settings) (held_kept sister r.held) (label_in_range r.settings.left) (label_in_range r.settings.right) (text_in_range r.text) (picture_in_range r.picture))
