-- The hook call (request T-04): record, on or off. Assumes nothing.
use Rattle.std.specs.Prelude.{Bool, not, cond}
use Rattle.record.specs.Range.{in_range}
use Rattle.record.specs.With.{with_settings, with_hook}
use Rattle.record.specs.Number.{numbered}
use Rattle.record.specs.declared.Record.{Record}
use Rattle.record.specs.declared.Small.{Small}
use Rattle.record.specs.Parts.{small_of}
use Rattle.hook.specs.declared.Hooked.{Hooked}

-- the record with the hook on or off
abbrev pub hung : Record → Bool → Record
hung r on = with_settings r (with_hook r.settings on)

-- number 1 for any field out of range, and then it is handed back as it was; else 0. It sends nothing
unfoldable pub hooked : Record → Bool → Hooked Record
hooked r on =
    cond (not (in_range r)) (record { number = numbered 1; after = r })
    (record { number = numbered 0; after = hung r on })

-- with the arrays apart, which stay as they were
abbrev pub lent_of : Hooked Record → Hooked Small
lent_of q = record { number = q.number; after = small_of q.after }
