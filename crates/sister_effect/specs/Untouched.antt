-- WHAT AN ORDER OF EITHER EDITION DOES NOT TOUCH: it sets no field but those that the tables of Touched.antt name; what stands in a field
-- that it neither sets nor reads makes no difference to it, nor to what it is answered. Assumes nothing.
use Rattle.std.specs.Prelude.{ℕ, Bool, true, false, cond, not, ◌&&◌, List, map, ◌≡◌, refl, eqb}
use Rattle.std.proofs.Math.Option.{Option, none, some}
use Rattle.std.proofs.Common.{ap, sym, ◌∙◌}
use Rattle.lists.specs.Tests.{by_test, either_way}
use Rattle.record.specs.Core.{Core, core_of}
use Rattle.record.specs.Fields.{Field, read, put, all_fields}
use Rattle.record.specs.PowerOn.{sister_with}
use Rattle.record.specs.Range.{auto}
use Rattle.command.specs.InRange.{is_overlay}
use Rattle.effect.specs.Beside.{Deed, carried, put_before, put_after, at_field, field_stays, field_apart}
use Rattle.effect.proofs.Untouched.{stays, apart, edition_stays}
use Rattle.sister_answer.specs.declared.Told.{Told}
use Rattle.sister_answer.specs.declared.Told.TheVariants.{Silence}
use Rattle.sister_command.specs.Order.{AnyOrder, first, own}
use Rattle.sister_command.specs.InRange.{own_in_range}
use Rattle.sister_command.specs.declared.SisterCommand.{SisterCommand}
use Rattle.sister_command.specs.declared.SisterCommand.TheVariants.{Cursor, Restart, Mode, Light, LightTo, IconU, Brightness, KeyTimes, Speaker, Asked, Step}
use Rattle.sister_command.specs.Grammar.{never_spelt}
use Rattle.sister_command.specs.Reading.{order_in}
use Rattle.sister_command.proofs.Agree.{agree_in}
use Rattle.sister_command.specs.declared.Question.TheVariants as Ask
use Rattle.sister_command.specs.declared.Step.{Step as Stepping}
use Rattle.sister_command.specs.declared.LightChange.{LightChange}
use Rattle.sister_command.specs.declared.Step.TheVariants.{ContrastUp, ContrastDown, BrightnessUp, BrightnessDown, SpeakerUp, SpeakerDown}
use Rattle.sister_command.specs.declared.LightChange.TheVariants as To
use Rattle.sister_effect.specs.Effect.{mode_named, light_effect, step_effect, stored_of, own_effect, refused_now, own_told}
use Rattle.sister_effect.specs.Obey.{carry_out_own, carry_out_any, obey_any}
use Rattle.sister_effect.specs.Touched.{sets_any, touches_any}

-- her command is obeyed in range and unless it is refused
abbrev deed : SisterCommand → Deed
deed x =
    record { sets = sets_any (own x); touches = touches_any (own x); inside = λ c. own_in_range x && not (refused_now x c); does = own_effect x }

is_carried : (x : SisterCommand) (c : Core) → carry_out_own x c ≡ carried (deed x) c
unfolding carry_out_own
is_carried x c = by_test (own_in_range x) (λ e. by_test (refused_now x c) (λ r. rw (e, r)) (λ r. rw (e, r))) (λ e. rw e)

-- what it is answered, with other content put into a field that it does not touch, and as it was
abbrev told_after : SisterCommand → List ℕ → Core → Field → Told
told_after x v c f = cond (touches_any (own x) f) Silence (own_told x c)

abbrev told_before : SisterCommand → List ℕ → Core → Field → Told
told_before x v c f = cond (touches_any (own x) f) Silence (own_told x (put f v c))

-- THE TABLE, for all fields at once: it makes no difference.
beside_own : (x : SisterCommand) (v : List ℕ) (c : Core)
    → (map (put_before (deed x) v c) all_fields ≡ map (put_after (deed x) v c) all_fields) × (map (told_before x v c) all_fields ≡ map (told_after x v c) all_fields)
unfolding all_fields
beside_own (Cursor n) v c = (refl, refl)
beside_own Restart v c = (refl, refl)
beside_own (Mode n) v c = (by_test (is_overlay (mode_named n)) (λ e. rw e) (λ e. rw e), by_test (is_overlay (mode_named n)) (λ e. rw e) (λ e. rw e))
beside_own (Light n) v c = (by_test (eqb n 0) (λ e. rw e) (λ e. rw e), by_test (eqb n 0) (λ e. rw e) (λ e. rw e))
beside_own (LightTo To.On) v c = (refl, refl)
beside_own (LightTo To.AutoStart) v c = (refl, refl)
beside_own (LightTo To.Auto) v c = (refl, refl)
beside_own (LightTo To.PwmOn) v c = (refl, refl)
beside_own (LightTo To.PwmAuto) v c = (refl, refl)
beside_own (LightTo To.Restart) v c = (by_test (eqb c.settings.backlight.mode auto) (λ e. rw e) (λ e. rw e), refl)
beside_own (LightTo To.KeypadSet) v c = (refl, refl)
beside_own (LightTo To.KeypadClearedStart) v c = (refl, refl)
beside_own (LightTo To.KeypadCleared) v c = (refl, refl)
beside_own (IconU n) v c = (refl, refl)
beside_own (Brightness n) v c = (refl, refl)
beside_own (KeyTimes t u) v c = (refl, refl)
beside_own (Speaker n) v c = (refl, refl)
beside_own (Asked Ask.Position) v c = (refl, refl)
beside_own (Asked Ask.Version) v c = (refl, refl)
beside_own (Asked Ask.Hook) v c = (refl, refl)
beside_own (Asked Ask.Ptt) v c = (refl, refl)
beside_own (Asked Ask.Contrast) v c = (refl, refl)
beside_own (Asked Ask.Mode) v c = (refl, refl)
beside_own (Asked Ask.Light) v c = (refl, refl)
beside_own (Asked Ask.Brightness) v c = (refl, refl)
beside_own (Asked Ask.Times) v c = (refl, refl)
beside_own (Asked Ask.Speaker) v c = (refl, refl)
beside_own (Step ContrastUp) v c = (refl, refl)
beside_own (Step ContrastDown) v c = (refl, refl)
beside_own (Step BrightnessUp) v c = (refl, refl)
beside_own (Step BrightnessDown) v c = (refl, refl)
beside_own (Step SpeakerUp) v c = (refl, refl)
beside_own (Step SpeakerDown) v c = (refl, refl)

-- A field that an order may not set is as it was.
pub stays_any : (o : AnyOrder) (f : Field) (c : Core) → sets_any o f ≡ false → read f (carry_out_any o c) ≡ read f c
stays_any (first o) f c h = stays o f c h
stays_any (own x) f c h = ap (read f) (is_carried x c) ∙ field_stays (deed x) (λ v d. (beside_own x v d).0) f c h

-- An order goes the same way whatever stands in a field that it does not touch,
pub apart_any : (o : AnyOrder) (f : Field) (v : List ℕ) (c : Core) → touches_any o f ≡ false → carry_out_any o (put f v c) ≡ put f v (carry_out_any o c)
apart_any (first o) f v c h = apart o f v c h
apart_any (own x) f v c h =
    is_carried x (put f v c) ∙ field_apart (deed x) (λ w d. (beside_own x w d).0) f v c h ∙ sym (ap (put f v) (is_carried x c))

-- and so is her command answered.
pub told_apart : (x : SisterCommand) (f : Field) (v : List ℕ) (c : Core) → touches_any (own x) f ≡ false → own_told x (put f v c) ≡ own_told x c
told_apart x f v c h = rw h at (at_field (told_before x v c) (told_after x v c) Silence f (beside_own x v c).1)

-- THE RESTART: the sister's power-on record, with the numbers that she stores.
pub restarted : (c : Core) → carry_out_own Restart c ≡ core_of (sister_with (stored_of c))
unfolding carry_out_own
restarted c = refl

-- THE EDITION. A letter and a step leave all but their fields of it,
light_edition : (c : Core) (change : LightChange) → (light_effect change c).edition.sister ≡ c.edition.sister
light_edition c = elim [ To.On ↦ refl | To.AutoStart ↦ refl | To.Auto ↦ refl | To.PwmOn ↦ refl | To.PwmAuto ↦ refl | To.Restart ↦ refl | To.KeypadSet ↦ refl | To.KeypadClearedStart ↦ refl | To.KeypadCleared ↦ refl ]

step_edition : (c : Core) (step : Stepping) → (step_effect step c).edition.sister ≡ c.edition.sister
step_edition c = elim [ ContrastUp ↦ refl | ContrastDown ↦ refl | BrightnessUp ↦ refl | BrightnessDown ↦ refl | SpeakerUp ↦ refl | SpeakerDown ↦ refl ]

-- a restart makes a sister, as she was one before,
own_edition : (x : SisterCommand) (c : Core) → c.edition.sister ≡ true → (own_effect x c).edition.sister ≡ c.edition.sister
own_edition (Cursor n) c h = refl
own_edition Restart c h = sym h
own_edition (Mode n) c h = refl
own_edition (Light n) c h = by_test (eqb n 0) (λ e. rw e) (λ e. rw e)
own_edition (LightTo change) c h = light_edition c change
own_edition (IconU n) c h = refl
own_edition (Brightness n) c h = refl
own_edition (KeyTimes t u) c h = refl
own_edition (Speaker n) c h = refl
own_edition (Asked question) c h = refl
own_edition (Step step) c h = step_edition c step

-- an order that a handset of this edition can be given: her own commands are the sister's alone
abbrev pub of_edition : Bool → AnyOrder → Bool
of_edition sister (first o) = true
of_edition sister (own x) = sister

-- so no order changes the edition,
pub edition_stays_any : (o : AnyOrder) (c : Core) → of_edition c.edition.sister o ≡ true → (carry_out_any o c).edition.sister ≡ c.edition.sister
edition_stays_any (first o) c h = edition_stays o c
edition_stays_any (own x) c h =
    ap (λ (d : Core). d.edition.sister) (is_carried x c)
    ∙ either_way (λ (d : Core). d.edition.sister ≡ c.edition.sister) ((deed x).inside c) (λ e. own_edition x c h) (λ e. refl)

-- and every order that is read in an edition is one of it: NO FRAME CHANGES THE EDITION.
pub read_of_edition : (sister : Bool) (o : AnyOrder) (f : List ℕ) → order_in sister f ≡ some o → of_edition sister o ≡ true
read_of_edition sister (first o) f e = refl
read_of_edition true (own x) f e = refl
read_of_edition false (own x) f e = absurd (never_spelt ((agree_in false (own x) f).0 e))

pub frame_keeps_edition : (c : Core) (f : List ℕ) → (obey_any c (order_in c.edition.sister f)).edition.sister ≡ c.edition.sister
frame_keeps_edition c f = cases (order_in c.edition.sister f) refl
  where
    cases : (found : Option AnyOrder) → order_in c.edition.sister f ≡ found → (obey_any c found).edition.sister ≡ c.edition.sister
    cases none e = refl
    cases (some o) e = edition_stays_any o c (read_of_edition c.edition.sister o f e)
