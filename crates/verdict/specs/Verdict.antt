-- The verdict of a frame in a text mode of the first edition: bad; good and passed over, with the first number that is out of range;
-- obeyed. In either edition the record's state may refuse one that is good by its spelling. Assumes nothing.
use Rattle.std.specs.Prelude.{ℕ, Bool, false, cond, List, Option as Maybe, Some, None}
use Rattle.std.proofs.Math.Option.{Option, none, some}
use Rattle.command.specs.Order.{Order}
use Rattle.command.specs.InRange.{Judged, rows_named, first_out, order_numbers}
use Rattle.command.specs.Reading.{order_of}
use Rattle.record.specs.Core.{Core}
use Rattle.sister_command.specs.Order.{AnyOrder, first, own}
use Rattle.sister_command.specs.InRange.{own_numbers}
use Rattle.sister_command.specs.Reading.{order_in}
use Rattle.sister_effect.specs.Effect.{refused_now}
use Rattle.verdict.specs.declared.Verdict.{Verdict}
use Rattle.verdict.specs.declared.Verdict.TheVariants.{Bad, PassedOver, Obeyed, Refused}

abbrev pub by_number : Maybe ℕ → Verdict
by_number None = Obeyed
by_number (Some n) = PassedOver n

abbrev pub by_order : ℕ → Option Order → Verdict
by_order mode none = Bad
by_order mode (some order) = by_number (first_out (order_numbers (rows_named mode) order))

unfoldable pub verdict_of : ℕ → List ℕ → Verdict
verdict_of mode frame = by_order mode (order_of frame)

-- EITHER EDITION: the numbers of an order, each with its range in a text mode; whether the record's state refuses it; and the verdict
abbrev pub any_numbers : ℕ → AnyOrder → List Judged
any_numbers mode (first o) = order_numbers (rows_named mode) o
any_numbers mode (own x) = own_numbers 0 x

abbrev pub refused_in : Core → AnyOrder → Bool
refused_in c (first o) = false
refused_in c (own x) = refused_now x c

abbrev pub by_any : Core → Option AnyOrder → Verdict
by_any c none = Bad
by_any c (some o) = cond (refused_in c o) Refused (by_number (first_out (any_numbers c.settings.screen.mode o)))

unfoldable pub verdict_in : Core → List ℕ → Verdict
verdict_in c frame = by_any c (order_in c.edition.sister frame)
