-- The promise of obeying what was found. Assumes nothing.
use mathlib.Core.List.{List}
use Prim.Native.Nat.{ℕ}
use mathlib.Core.Bool.{Bool, false, ◌||◌}
use mathlib.Core.Option.{Option, none}
use Rattle.std.specs.Prelude as std
use mathlib.Core.Path.{◌≡◌, sym, ap, ◌∙◌}
use Rattle.record.specs.declared.Settings.{Settings}
use Rattle.record.specs.declared.Edition.{Edition}
use Rattle.record.specs.Core.{Core}
use Rattle.effect.specs.Obey.{core}
use Rattle.sister_answer.specs.declared.Told.TheVariants.{Mark}
use Rattle.command.specs.First.{opens_label}
use Rattle.command.specs.Reading.{opens_picture}
use Rattle.sister_command.specs.Order.{AnyOrder}
use Rattle.sister_command.specs.Reading.{sister_read, order_said, sister_order_of}
use Rattle.sister_command.specs.declared.SisterReading.{SisterReading}
use Rattle.sister_effect.specs.declared.SisterObeyed.{SisterObeyed}
use Rattle.sister_effect.specs.Obey.{obey_any, told_to, SisterObeys}

pub sister_obeys : {order found : Option AnyOrder} {before after : Core} {obeyed : SisterObeyed}
    → order ≡ found → obeyed.told ≡ told_to before found → after ≡ obey_any before found → SisterObeys order before obeyed after
sister_obeys {before = before} e t s = record { told = t ∙ ap (told_to before) (sym e); same = s ∙ ap (obey_any before) (sym e) }

-- how the frame opens, as a caller was told it
module _ (f : List ℕ) {picture label : Bool} (p : picture ≡ opens_picture f) (l : label ≡ opens_label f) where
  pub opens : {b : Bool} → (picture || label) ≡ b → (opens_picture f || opens_label f) ≡ b
  opens h = sym (λ j. p j || l j) ∙ h

  -- a frame that opens as neither says what was read
  pub said_found : {read r : std.Option SisterReading} → (picture || label) ≡ false → read ≡ sister_read f → read ≡ r → sister_order_of f ≡ order_said r
  unfolding sister_order_of
  said_found h q e = rw (opens h) (ap order_said (sym q ∙ e))

-- what is bad gets the mark and stays as it is
pub bad_obeys : {order : Option AnyOrder} {p : Settings} {ed : Edition} {text picture : List ℕ} {o : SisterObeyed} → order ≡ none → o ≡ record { settings = p; edition = ed; told = Mark }
    → SisterObeys order (core p text picture ed) o (core o.settings text picture o.edition)
bad_obeys {text = text} {picture = picture} e same = sister_obeys {found = none} e (ap (λ (x : SisterObeyed). x.told) same) (ap (λ (x : SisterObeyed). core x.settings text picture x.edition) same)
