-- The second call ("Keys and seconds", last sentence), on the backlight and on the record. Assumes nothing.
use Rattle.std.specs.Prelude.{◌-◌, not, cond}
use Rattle.record.specs.Range.{backlight_in_range, in_range}
use Rattle.record.specs.With.{with_settings, with_backlight, with_seconds_left}
use Rattle.record.specs.Number.{numbered}
use Rattle.record.specs.declared.Backlight.{Backlight}
use Rattle.record.specs.declared.Record.{Record}
use Rattle.record.specs.declared.Small.{Small}
use Rattle.record.specs.Parts.{small_of}
use Rattle.seconds.specs.declared.Passed.{Passed}
use Rattle.seconds.specs.declared.LightPassed.{LightPassed}

-- a second call lowers left by one, not below 0 (0 less one is 0)
abbrev pub lowered : Backlight → Backlight
lowered b = with_seconds_left b (record { 0 = b.left.0 - 1 })

-- on the backlight alone: number 1 for its own ranges, and then it is handed back as it was
unfoldable pub light_passed : Backlight → LightPassed
light_passed b =
    cond (not (backlight_in_range b)) (record { number = numbered 1; backlight = b })
    (record { number = numbered 0; backlight = lowered b })

-- the record with one second less
abbrev pub dimmed : Record → Record
dimmed r = with_settings r (with_backlight r.settings (lowered r.settings.backlight))

-- on the record: number 1 for any field out of range, and then it is handed back as it was
unfoldable pub passed : Record → Passed Record
passed r =
    cond (not (in_range r)) (record { number = numbered 1; after = r })
    (record { number = numbered 0; after = dimmed r })

-- with the arrays apart, which stay as they were
abbrev pub lent_of : Passed Record → Passed Small
lent_of q = record { number = q.number; after = small_of q.after }
