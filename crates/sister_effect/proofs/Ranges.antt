-- What the tests of the code come to, and that the numbers of a command in range are bytes. Assumes nothing.
use Prim.Native.Nat.{ℕ, ◌<◌}
use native.Mathlib.Omega.{arith}
use mathlib.Core.Bool.{Bool, true, false, not, ◌&&◌, ◌||◌}
use mathlib.Core.Path.{◌≡◌, refl}
use lib.Dec.{eqb, leb}
use borrow.Author.Tests.{eqb-true}
use Rattle.lists.specs.Both.{both}
use Rattle.lists.specs.Tests.{by_test}
use Rattle.record.specs.Range.{time1_in_range, time2_in_range}
use Rattle.sister_command.specs.Ranges.{is_time1_before}
use Rattle.effect.proofs.Small.{at_most, small_from}

-- not in auto, or with PWM
pub not_both : (auto pwm : Bool) → (not auto || pwm) ≡ not (auto && not pwm)
not_both true true = refl
not_both true false = refl
not_both false pwm = refl

pub small_times : (time1 time2 : ℕ) → (is_time1_before time2 time1 && time2_in_range time2) ≡ true → (time1 < 256) × (time2 < 256)
small_times time1 time2 h =
    let b = both {a = is_time1_before time2 time1} h in
    (by_test (time1_in_range time1) (λ e. at_most 50 time1 (omega arith) (both {a = leb 4 time1} e).1) (λ e. omega (arith, eqb-true time1 0 (both {a = eqb time1 0} (rw e at b.0)).0)), small_from 4 50 time2 (omega arith) b.1)
