-- What a second keeps: the ranges, and all fields but the seconds left. Assumes nothing.
use Rattle.std.specs.Prelude.{ℕ, ◌-◌, ◌≡◌, Bool, true, false, ◌&&◌, ◌||◌, leb, eqb}
use Rattle.std.proofs.Common.{arith, ◌∙◌, eqb-true, eq-eqb, leb-true, le-leb}
use Rattle.std.proofs.Math.Bool.{or-true, or-false}
use Rattle.lists.specs.Both.{both, and_both}
use Rattle.lists.specs.Tests.{by_test}
use Rattle.record.specs.Number.{paper_number}
use Rattle.record.specs.Laws.{ranges, in_range_lem, backlight_set, of_first}
use Rattle.record.specs.Range.{duration_in_range, backlight_in_range, backlight_kept, in_range}
use Rattle.record.specs.declared.Backlight.{Backlight}
use Rattle.record.specs.declared.Record.{Record}
use Rattle.record.specs.With.{with_settings}
use Rattle.seconds.specs.Seconds.{lowered, dimmed, light_passed, passed, lent_of}

-- What is 0 stays 0, so seconds are left only in auto.
less_in_range : (n : ℕ) (auto : Bool) → (eqb n 0 || auto) ≡ true → (eqb (n - 1) 0 || auto) ≡ true
less_in_range n true h = or-true (eqb (n - 1) 0)
less_in_range n false h =
    let none : eqb n 0 ≡ true = rw or-false at h in
    or-false (eqb (n - 1) 0) ∙ eq-eqb (n - 1) 0 (omega (arith, eqb-true n 0 none))

-- A backlight in range is in range a second later.
pub lowered_in_range : (b : Backlight) → backlight_in_range b ≡ true → backlight_in_range (lowered b) ≡ true
lowered_in_range b h =
    let parts : ((leb b.mode 2 && duration_in_range b.duration.0) ≡ true) × ((eqb b.left.0 0 || eqb b.mode 2) ≡ true) = both h in
    and_both parts.0 (less_in_range b.left.0 (eqb b.mode 2) parts.1)

-- .. in either edition
lowered_kept : (sister pwm : Bool) (b : Backlight) → backlight_kept sister pwm b ≡ true → backlight_kept sister pwm (lowered b) ≡ true
lowered_kept true pwm b h =
    let all = both {a = backlight_in_range b && leb b.duration.0 250 && leb b.left.0 250} h in
    let short = both {a = backlight_in_range b && leb b.duration.0 250} all.0 in
    let long = both {a = backlight_in_range b} short.0 in
    and_both
    (and_both (and_both (lowered_in_range b long.0) long.1) (le-leb (b.left.0 - 1) 250 (omega (arith, leb-true b.left.0 250 short.1))))
    all.1
lowered_kept false pwm b h = lowered_in_range b h

-- A record in range is in range a second later.
pub dimmed_in_range : (r : Record) → in_range r ≡ true → in_range (dimmed r) ≡ true
dimmed_in_range r h =
    let k = ranges r h in
    in_range_lem (dimmed r)
    (record { settings = backlight_set k.settings _ (lowered_kept r.edition.sister r.edition.pwm r.settings.backlight k.settings.backlight); text = k.text; picture = k.picture; held = k.held; frame = k.frame; edition = k.edition })

-- A record in range is a second further, with number 0, and comes back in range.
pub second_done : (r : Record) → in_range r ≡ true
    → (paper_number (passed r).number ≡ 0) × ((passed r).after ≡ dimmed r) × (in_range (passed r).after ≡ true)
unfolding passed
second_done r h = (rw h, rw h, rw h (dimmed_in_range r h))

-- A backlight within its own ranges is lowered, with number 0, and comes back within them.
pub light_done : (b : Backlight) → backlight_in_range b ≡ true
    → (paper_number (light_passed b).number ≡ 0) × ((light_passed b).backlight ≡ lowered b) × (backlight_in_range (light_passed b).backlight ≡ true)
unfolding light_passed
light_done b h = (rw h, rw h, rw h (lowered_in_range b h))

-- A refused backlight, and a refused record, comes back as it was, with number 1.
pub light_refused : (b : Backlight) → backlight_in_range b ≡ false → (paper_number (light_passed b).number ≡ 1) × ((light_passed b).backlight ≡ b)
unfolding light_passed
light_refused b h = (rw h, rw h)

pub second_refused : (r : Record) → in_range r ≡ false → (paper_number (passed r).number ≡ 1) × ((passed r).after ≡ r)
unfolding passed
second_refused r h = (rw h, rw h)

-- On the backlight of a record in range the entry in place does what the call on the record does.
pub in_place_agrees : (r : Record) → in_range r ≡ true
    → light_passed r.settings.backlight ≡ record { number = (passed r).number; backlight = (passed r).after.settings.backlight }
unfolding light_passed passed
in_place_agrees r h = rw (h, of_first r.edition.sister r.edition.pwm r.settings.backlight (ranges r h).settings.backlight)

-- Put together again with the arrays, what a call hands back where they were lent is what it hands back of a record.
pub lent_back : (r : Record) → record { number = (lent_of (passed r)).number; after = with_settings r (lent_of (passed r)).after.settings } ≡ passed r
unfolding passed
lent_back r = by_test (in_range r) (λ e. rw e) (λ e. rw e)
