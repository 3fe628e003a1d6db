-- WHICH HANDSET IT IS (request T-06): the edition stands in the record, and no stream, key log, second or hook call changes it, whatever the
-- record. Assumes nothing.
use Rattle.std.specs.Prelude.{ℕ, Bool, not, List, ◌≡◌, refl, length}
use Rattle.lists.specs.Tests.{either_way}
use Rattle.record.specs.declared.Record.{Record}
use Rattle.record.specs.Range.{in_range}
use Rattle.stream.specs.Stream.{fed_of}
use Rattle.stream.specs.declared.Fed.{Fed}
use Rattle.stream.specs.Demand.{fed_back}
use Rattle.stream.proofs.Demand.{run_stays}
use Rattle.key_log.specs.Log.{outcome, handed_back}
use Rattle.key_log.specs.Laws.{log_stays}
use Rattle.seconds.specs.Seconds.{passed}
use Rattle.seconds.specs.declared.Passed.{Passed}
use Rattle.hook.specs.Hook.{hooked}
use Rattle.hook.specs.declared.Hooked.{Hooked}

pub record EditionStays : Type 0 where
  pub stream : (r : Record) (bytes lent : List ℕ) → (fed_back r bytes lent).after.edition.sister ≡ r.edition.sister
  pub log : (r : Record) (ticks edges : List ℕ) (room : ℕ) → (handed_back (outcome r ticks edges room)).record.edition.sister ≡ r.edition.sister
  pub second : (r : Record) → (passed r).after.edition.sister ≡ r.edition.sister
  pub hook : (r : Record) (on : Bool) → (hooked r on).after.edition.sister ≡ r.edition.sister

-- The proof ---------------------------------------------------------------------------------------------------------

fed_stays : (r : Record) (bytes : List ℕ) (room : ℕ) → (fed_of r bytes room).record.edition.sister ≡ r.edition.sister
unfolding fed_of
fed_stays r bytes room =
    either_way (λ (f : Fed). f.record.edition.sister ≡ r.edition.sister) (in_range r)
    (λ good. run_stays r bytes room good)
    (λ bad. refl)

second_stays : (r : Record) → (passed r).after.edition.sister ≡ r.edition.sister
unfolding passed
second_stays r = either_way (λ (q : Passed Record). q.after.edition.sister ≡ r.edition.sister) (not (in_range r)) (λ e. refl) (λ e. refl)

hook_stays : (r : Record) (on : Bool) → (hooked r on).after.edition.sister ≡ r.edition.sister
unfolding hooked
hook_stays r on = either_way (λ (q : Hooked Record). q.after.edition.sister ≡ r.edition.sister) (not (in_range r)) (λ e. refl) (λ e. refl)

pub edition_never_changes : EditionStays
edition_never_changes = record { stream = λ r bytes lent. fed_stays r bytes (length lent); log = log_stays; second = second_stays; hook = hook_stays }
