-- What the hook call does and what it leaves. Assumes nothing.
use Rattle.std.specs.Prelude.{◌≡◌, refl, Bool, true, false}
use Rattle.std.proofs.Common.{◌∙◌}
use Rattle.lists.specs.Tests.{by_test}
use Rattle.record.specs.Number.{paper_number}
use Rattle.record.specs.Range.{in_range}
use Rattle.record.specs.declared.Record.{Record}
use Rattle.record.specs.With.{with_settings}
use Rattle.hook.specs.Hook.{hung, hooked, lent_of}

-- No range rests on the hook.
pub hung_in_range : (r : Record) (on : Bool) → in_range (hung r on) ≡ in_range r
unfolding in_range
hung_in_range r on = refl

-- A record in range is hung up or lifted, with number 0, and comes back in range.
pub hook_done : (r : Record) (on : Bool) → in_range r ≡ true
    → (paper_number (hooked r on).number ≡ 0) × ((hooked r on).after ≡ hung r on) × (in_range (hooked r on).after ≡ true)
unfolding hooked
hook_done r on h = (rw h, rw h, rw h (hung_in_range r on ∙ h))

-- A refused record comes back as it was, with number 1.
pub hook_refused : (r : Record) (on : Bool) → in_range r ≡ false → (paper_number (hooked r on).number ≡ 1) × ((hooked r on).after ≡ r)
unfolding hooked
hook_refused r on h = (rw h, rw h)

-- Nothing but the hook changes: with the hook as it was it is the record of before.
pub hook_alone : (r : Record) (on : Bool) → hung (hooked r on).after r.settings.hook ≡ r
unfolding hooked
hook_alone r on = by_test (in_range r) (λ e. rw e) (λ e. rw e)

-- Put together again with the arrays, what a call hands back where they were lent is what it hands back of a record.
pub lent_back : (r : Record) (on : Bool) → record { number = (lent_of (hooked r on)).number; after = with_settings r (lent_of (hooked r on)).after.settings } ≡ hooked r on
unfolding hooked
lent_back r on = by_test (in_range r) (λ e. rw e) (λ e. rw e)
