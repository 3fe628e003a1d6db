-- The power-on record, in the order of document 01's table. Assumes nothing.
use Rattle.std.specs.Prelude.{true, false, replicate}
use Rattle.lists.specs.Codes.{blank}
use Rattle.record.specs.declared.Record.{Record}
use Rattle.record.specs.declared.Times.{Times}
use Rattle.record.specs.declared.Keys.{Keys}
use Rattle.record.specs.declared.Edition.{Edition}
use Rattle.record.specs.declared.Stored.{Stored}
use Rattle.record.specs.Range.{off, auto, stage_none}
use Rattle.record.specs.With.{with_settings, with_edition, with_times, with_backlight, with_contrast}

-- Time1 12, Time2 0: a held key does not repeat (request T-05; the note's default of 12 no longer holds)
abbrev pub times_at_power_on : Times
times_at_power_on = record { time1 = record { 0 = 12 }; time2 = record { 0 = 0 } }

-- the former defaults, which are the note's: Time1 12, Time2 12
abbrev pub former_times : Times
former_times = record { time1 = record { 0 = 12 }; time2 = record { 0 = 12 } }

-- nothing of the sister's is used
abbrev pub none_down : Keys
none_down = record { stage = stage_none; key = 0; tick = record { 0 = 0 }; down = 0 }

abbrev pub first_edition : Edition
first_edition = record { sister = false; brightness = 0; speaker = 0; pwm = false; ptt = false; keys = none_down }

-- display on; mode 0; overlay none; cursor not shown, 0, 0; text and large line all 0x20; labels empty; picture 0; icons 0; volume none, 0, no,
-- no; the times given; buzzer 0; backlight off, 30, 0, clear; contrast 10; on-hook; no inverse mark; held key none;
-- frame none
abbrev pub starting_with : Times → Record
starting_with times =
    record {
      settings = record {
        screen = record { display = true; mode = 0; overlay = 0; row = 0; column = 0 };
        shown = false;
        left = record { len = 0; codes = replicate 7 0 };
        right = record { len = 0; codes = replicate 7 0 };
        icons = record { s = 0; u = 0; f = 0; r = 0; p = 0; w = 0 };
        volume = record { which = 0; level = 0; mute = false; hidden = false };
        times = times;
        buzzer = record { 0 = 0 };
        backlight = record { mode = off; duration = record { 0 = 30 }; left = record { 0 = 0 }; keypad = false };
        contrast = 10;
        hook = true;
        inverse = replicate 5 false;
      };
      text = replicate 104 blank;
      picture = replicate 672 0;
      held = record { down = false; key = 0; tick = record { 0 = 0 }; long = false };
      frame = record { state = 0; len = 0; bytes = replicate 250 0 };
      edition = first_edition;
    }

abbrev pub power_on : Record
power_on = starting_with times_at_power_on

-- the power-on record of the former defaults: it differs in Time2 alone
abbrev pub former_power_on : Record
former_power_on = starting_with former_times

-- The sister ----------------------------------------------------------------------------------------------------------

-- the numbers that she stores, as she is delivered: Time1 and Time2 12, contrast 10, brightness 50, speaker volume 3, duration 30
abbrev pub stored_at_delivery : Stored
stored_at_delivery = record { times = former_times; contrast = 10; brightness = 50; speaker = 3; duration = record { 0 = 30 } }

-- as the first edition's power-on record, but for the stored numbers and the light, which is auto with PWM; PTT released
abbrev pub sister_with : Stored → Record
sister_with stored =
    with_edition
    (with_settings power_on (with_contrast (with_backlight (with_times power_on.settings stored.times) (record { mode = auto; duration = stored.duration; left = record { 0 = 0 }; keypad = false })) stored.contrast))
    (record { sister = true; brightness = stored.brightness; speaker = stored.speaker; pwm = true; ptt = false; keys = none_down })

abbrev pub sister_power_on : Record
sister_power_on = sister_with stored_at_delivery
