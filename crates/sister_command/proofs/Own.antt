-- WHAT IS HER OWN AND WHAT IS SHARED: a frame of the sister's spells a command of her own, or it is read as the first edition's. Assumes nothing.
use Rattle.std.specs.Prelude.{ℕ, Bool, true, false, List, ◌≡◌, refl, drop, Some, None}
use Rattle.std.specs.Prelude as std
use Rattle.std.proofs.Common.{arith, true≢false, sym}
use Rattle.lists.specs.Tests.{by_test}
use Rattle.frame_table.specs.Reader as commands
use Rattle.command.specs.First.{opens_label}
use Rattle.command.proofs.Complete.{opens_neither}
use Rattle.command.proofs.Found.{label_by}
use Rattle.command.specs.Reading.{read_of, opens_picture, order_read, order_found, order_of}
use Rattle.command.specs.declared.Side.{Side}
use Rattle.command.specs.declared.Reading.TheVariants.{Label}
use Rattle.sister_command.specs.Sister.{sister}
use Rattle.sister_command.proofs.Sister.{tested}
use Rattle.sister_command.specs.Reading.{sister_read, order_said, as_first, sister_order_of, as_reading, shared_read, read_in, own_found, is_own_reading, is_own}
use Rattle.sister_command.specs.declared.SisterCommand.{SisterCommand}
use Rattle.sister_command.specs.declared.SisterReading.{SisterReading}
use Rattle.sister_command.specs.declared.SisterReading.TheVariants.{Shared, Own}

-- A command of her own opens as no label and no picture.
own_opens : (c : SisterCommand) (f : List ℕ) → sister_read f ≡ Some (Own c) → (opens_label f ≡ false) × (opens_picture f ≡ false)
unfolding sister_read
own_opens c f e = opens_neither 1 f (commands.no_other sister tested (Own c) f ((commands.agree sister tested (Own c) f).0 e))

-- SO IT IS WHAT IS FOUND,
pub own_found_lem : (f : List ℕ) → is_own f ≡ true → sister_order_of f ≡ own_found f
unfolding sister_order_of
own_found_lem f h = cases (sister_read f) refl h
  where
    cases : (read : std.Option SisterReading) → sister_read f ≡ read → is_own_reading read ≡ true → sister_order_of f ≡ own_found f
    cases None e k = absurd (true≢false (sym k))
    cases (Some (Shared c)) e k = absurd (true≢false (sym k))
    cases (Some (Own c)) e k = let w = own_opens c f e in rw (w.0, w.1, e)

-- and any other frame is found as the first edition's.
pub shared_found : (f : List ℕ) → is_own f ≡ false → sister_order_of f ≡ as_first (order_found (shared_read f) f)
unfolding sister_order_of shared_read order_of
shared_found f h =
    by_test (opens_picture f) (λ p. rw p)
    (λ p. by_test (opens_label f) (λ l. rw (p, l)) (λ l. rw (p, l) (cases (sister_read f) h)))
  where
    cases : (read : std.Option SisterReading) → is_own_reading read ≡ false → order_said read ≡ as_first (order_read (as_reading read) (drop 3 f))
    cases None k = refl
    cases (Some (Shared c)) k = refl
    cases (Some (Own c)) k = absurd (true≢false k)

-- A label that is read in either edition is one of the first's.
pub label_in_edition : (sister : Bool) (class next f : List ℕ) {side : Side} → read_in sister class next f ≡ Some (Label side) → read_of f ≡ Some (Label side)
unfolding shared_read
label_in_edition false class next f e = label_by class next f e
label_in_edition true class next f {side} e = by_test (opens_label f) (λ l. rw l at e) (λ l. absurd (no_label (sister_read f) (rw l at e)))
  where
    no_label : (read : std.Option SisterReading) → as_reading read ≡ Some (Label side) → ⊥
    no_label None k = let z : ◌≡◌ {A = ℕ} 0 1 = cc in omega arith
    no_label (Some (Shared c)) k = let z : ◌≡◌ {A = ℕ} 0 1 = cc in omega arith
    no_label (Some (Own c)) k = let z : ◌≡◌ {A = ℕ} 0 1 = cc in omega arith
