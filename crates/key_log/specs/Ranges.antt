-- From a record in range every log hands back a record in range. Assumes nothing.
use Rattle.std.specs.Prelude.{ℕ, ◌≡◌, refl, Bool, true, false, ◌&&◌, ◌||◌, List, eqb, leb}
use Rattle.std.proofs.Common.{sym, ap, ◌∙◌}
use Rattle.std.proofs.Math.Bool.{or-true, or-false}
use Rattle.lists.specs.Both.{both, and_both}
use Rattle.lists.specs.Tests.{either_way}
use Rattle.record.specs.declared.Record.{Record}
use Rattle.record.specs.declared.Settings.{Settings}
use Rattle.record.specs.declared.Edition.{Edition}
use Rattle.record.specs.declared.Held.{Held}
use Rattle.record.specs.declared.Times.{Times}
use Rattle.record.specs.declared.Backlight.{Backlight}
use Rattle.record.specs.Range.{auto, key_in_range, held_in_range, duration_in_range, backlight_in_range, brightness_in_range, speaker_in_range, keys_in_range, in_range}
use Rattle.record.specs.Laws.{Ranges, ranges, in_range_lem, backlight_set}
use Rattle.key_entry.specs.declared.Keyed.{Keyed}
use Rattle.key_entry.specs.Rules.{Entry, lit, long_since, keyed, step}
use Rattle.sister_entry.specs.declared.SisterKeyed.{SisterKeyed}
use Rattle.sister_entry.specs.Rules.{before, keyed as herKeyed}
use Rattle.sister_entry.specs.Ranges.{keys_in_range_lem, light_in_range}
use Rattle.turns.specs.Taking.{Taken}
use Rattle.key_log.specs.Steps.{with_sister_keys, sister_step, step_in}
use Rattle.key_log.specs.Log.{outcome}
use Rattle.key_log.specs.Laws.{log_keeps}
use Rattle.key_entry.specs.Laws.{one_of_four}

-- the held key and the backlight are within their ranges
abbrev Fine : Keyed → Type 0
Fine k = (held_in_range k.held ≡ true) × (backlight_in_range k.backlight ≡ true)

-- A key that is held is one of the table's, and then any tick and any stage is in range.
held_key : (held : Held) → held_in_range held ≡ true → held.down ≡ true → key_in_range held.key ≡ true
held_key held fine down = sym (or-false _) ∙ (rw down at fine)

holds : (held : Held) → held.down ≡ true → key_in_range held.key ≡ true → held_in_range held ≡ true
holds held down key = rw (down, key)

lit_in_range : (light : Backlight) → backlight_in_range light ≡ true → backlight_in_range (lit light) ≡ true
lit_in_range light fine =
    either_way (λ (b : Backlight). backlight_in_range b ≡ true) (eqb light.mode auto)
    (λ lights.
    and_both {a = front} (both {a = front} {b = eqb light.left.0 0 || eqb light.mode auto} fine).0
    (ap (λ (t : Bool). eqb light.duration.0 0 || t) lights ∙ or-true (eqb light.duration.0 0)))
    (λ other. fine)
  where
    front : Bool
    front = leb light.mode auto && duration_in_range light.duration.0

keyed_fine : (held : Held) (times : Times) (light : Backlight) (now edge : ℕ) → held_in_range held ≡ true → backlight_in_range light ≡ true
    → Fine (keyed held times light now edge)
keyed_fine held times light now edge fine bright =
    one_of_four Fine held times light now (fine, bright)
    (λ key low. (rw low, lit_in_range light bright))
    (refl, bright)
    (λ code down. (holds (long_since held now) down (held_key held fine down), bright))
    edge

-- An entry of the sister's keeps her keys and her light in range. No range speaks of the hook or PTT of hers.
her_step_in_range : (r : Record) (e : Entry) → r.edition.sister ≡ true → in_range r ≡ true → in_range (sister_step r e).state ≡ true
unfolding sister_step in_range
her_step_in_range r e hers good =
    let k : Ranges r = ranges r good in
    let p : Settings = r.settings in
    let d : Edition = r.edition in
    let after : SisterKeyed = herKeyed d.keys p.times p.backlight p.hook d.ptt e.tick e.edge in
    let kept = both {a = brightness_in_range d.brightness && speaker_in_range d.speaker} {b = keys_in_range d.keys} (rw hers at k.edition) in
    let keys = keys_in_range_lem d.keys p.times p.backlight p.hook d.ptt e.tick e.edge kept.1 in
    let light = light_in_range d.keys p.times p.backlight p.hook d.ptt e.tick e.edge d.pwm (rw hers at k.settings.backlight) in
    in_range_lem (with_sister_keys r (before after.keys after.backlight p.hook after.ptt))
    record { settings = backlight_set k.settings _ (rw hers light); text = k.text; picture = k.picture; held = k.held; frame = k.frame; edition = rw hers (and_both kept.0 keys) }

-- So does one of the first edition.
first_step_in_range : (r : Record) (e : Entry) → r.edition.sister ≡ false → in_range r ≡ true → in_range (step r e).state ≡ true
unfolding step
first_step_in_range r e first good =
    let k : Ranges r = ranges r good in
    let fine = keyed_fine r.held r.settings.times r.settings.backlight e.tick e.edge (rw first at k.held) (rw first at k.settings.backlight) in
    in_range_lem _ record { settings = backlight_set k.settings _ (rw first fine.1); text = k.text; picture = k.picture; held = rw first fine.0; frame = k.frame; edition = k.edition }

-- Every entry keeps the record in range, also one whose edge is not listed.
pub step_in_range : (r : Record) (e : Entry) → in_range r ≡ true → in_range (step_in r e).state ≡ true
unfolding step_in
step_in_range r e good =
    either_way (λ (t : Taken Record). in_range t.state ≡ true) r.edition.sister
    (λ hers. her_step_in_range r e hers good) (λ first. first_step_in_range r e first good)

-- So every log does.
pub log_in_range : (r : Record) (ticks edges : List ℕ) (room : ℕ) → in_range r ≡ true → in_range (outcome r ticks edges room).ran.state ≡ true
log_in_range = log_keeps (λ (s : Record). in_range s ≡ true) step_in_range
