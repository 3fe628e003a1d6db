-- What an entry of a key log does, in document 01's words ("Keys and seconds"). Assumes nothing.
use Rattle.std.specs.Prelude.{Option, None, ℕ, ◌+◌, ◌-◌, ◌*◌, ◌%◌, Bool, true, false, cond, not, ◌&&◌, ◌||◌, ◌==◌, nat_le, is_some}
use Rattle.record.specs.declared.Record.{Record}
use Rattle.record.specs.declared.Held.{Held}
use Rattle.record.specs.declared.Times.{Times}
use Rattle.record.specs.declared.Tenths.{Tenths}
use Rattle.record.specs.declared.Backlight.{Backlight}
use Rattle.record.specs.Range.{auto, key_in_range}
use Rattle.record.specs.With.{with_held, with_settings, with_backlight, with_seconds_left}
use Rattle.turns.specs.Taking.{Taken}
use Rattle.key_entry.specs.declared.Keyed.{Keyed}
use Rattle.key_entry.specs.Codes.{code_of, sent}
use Rattle.key_entry.specs.declared.Stage.TheVariants.{Short, Long, Repeat}

-- an entry: a tick reading of 10 ms, 0 to 65,535, and an edge byte
pub record Entry : Type 0 where
  pub tick : ℕ
  pub edge : ℕ

abbrev pub entry : ℕ → ℕ → Entry
entry tick edge = record { tick = tick; edge = edge }

-- EDGE BYTES: k press, 128+k release, 255 poll
abbrev pub releases : ℕ
releases = 128

abbrev pub polls : ℕ
polls = 255

abbrev pub is_press : ℕ → Bool
is_press edge = key_in_range edge

-- the release of a number up to the last
abbrev pub release_up_to : ℕ → ℕ → Bool
release_up_to last edge = nat_le releases edge && nat_le (edge - releases) last

-- keys end with 18
abbrev pub last_key : ℕ
last_key = 18

abbrev pub is_release : ℕ → Bool
is_release edge = release_up_to last_key edge

abbrev pub is_poll : ℕ → Bool
is_poll edge = edge == polls

-- WHICH EDGES ARE LISTED goes by the last number: the press and the release of each up to it, and the poll
abbrev pub listed_up_to : ℕ → ℕ → Bool
listed_up_to last edge = nat_le edge last || release_up_to last edge || is_poll edge

abbrev pub listed : ℕ → Bool
listed edge = listed_up_to last_key edge

-- TIME. Elapsed is this reading less the held one, modulo 65,536
unfoldable pub elapsed : ℕ → ℕ → ℕ
elapsed now held = (now + 65536 - held) % 65536

-- a count of 100 ms in ticks of 10 ms
abbrev pub in_ticks : Tenths → ℕ
in_ticks tenths = 10 * tenths.0

-- elapsed at least 10 times the time
abbrev pub over : Tenths → ℕ → ℕ → Bool
over time now held = nat_le (in_ticks time) (elapsed now held)

-- HELD KEYS
abbrev pub none_held : Held
none_held = record { down = false; key = 0; tick = record { 0 = 0 }; long = false }

abbrev pub held_since : ℕ → ℕ → Held
held_since key now = record { down = true; key = key; tick = record { 0 = now }; long = false }

-- stage long, held tick becomes now
abbrev pub long_since : Held → ℕ → Held
long_since held now = record { down = held.down; key = held.key; tick = record { 0 = now }; long = true }

-- THE RULES. Each gives the held key and the backlight, and the code that is sent or none
abbrev pub nothing : Held → Backlight → Keyed
nothing held light = record { held = held; backlight = light; code = None }

-- in auto, left becomes the duration
abbrev pub lit : Backlight → Backlight
lit light = cond (light.mode == auto) (with_seconds_left light light.duration) light

-- press with no key held: held, tick now, stage short; in auto, left becomes the duration; while one is held: nothing
abbrev pub pressed : Held → Backlight → ℕ → ℕ → Keyed
pressed held light now key =
    cond held.down
    (nothing held light)
    (record { held = held_since key now; backlight = lit light; code = None })

-- poll, stage short, elapsed at least 10 times Time1: long code, stage long, held tick becomes now
abbrev pub polled_short : Held → Times → Backlight → ℕ → Keyed
polled_short held times light now =
    cond (over times.time1 now held.tick.0)
    (record { held = long_since held now; backlight = light; code = code_of held.key Long })
    (nothing held light)

-- poll, stage long: Time2 not 0, the key has a repeat code, elapsed at least 10 times Time2 ..
abbrev pub repeats : Held → Times → ℕ → Bool
repeats held times now =
    not (times.time2.0 == 0) && is_some (code_of held.key Repeat) && over times.time2 now held.tick.0

-- .. repeat code, held tick becomes now
abbrev pub polled_long : Held → Times → Backlight → ℕ → Keyed
polled_long held times light now =
    cond (repeats held times now)
    (record { held = long_since held now; backlight = light; code = code_of held.key Repeat })
    (nothing held light)

-- poll with none held: nothing; else by the stage
abbrev pub polled : Held → Times → Backlight → ℕ → Keyed
polled held times light now =
    cond held.down
    (cond held.long (polled_long held times light now) (polled_short held times light now))
    (nothing held light)

-- release: stage short gives the short code below 10 times Time1, else the long; stage long gives nothing
abbrev pub release_code : Held → Times → ℕ → Option ℕ
release_code held times now =
    cond held.long None (cond (over times.time1 now held.tick.0) (code_of held.key Long) (code_of held.key Short))

-- held becomes none; release of a key not held: nothing
abbrev pub released : Held → Times → Backlight → ℕ → ℕ → Keyed
released held times light now key =
    cond (held.down && held.key == key)
    (record { held = none_held; backlight = light; code = release_code held times now })
    (nothing held light)

-- an entry, by its edge
unfoldable pub keyed : Held → Times → Backlight → ℕ → ℕ → Keyed
keyed held times light now edge =
    cond (is_press edge) (pressed held light now edge)
    (cond (is_release edge) (released held times light now (edge - releases))
    (cond (is_poll edge) (polled held times light now)
    (nothing held light)))

-- the record with another held key and another backlight, and all else as it was
abbrev pub with_keys : Record → Held → Backlight → Record
with_keys r held light = with_held (with_settings r (with_backlight r.settings light)) held

-- what an entry does to the record, and the codes it sends: none or one
abbrev pub taken : Record → Keyed → Taken Record
taken r k = record { state = with_keys r k.held k.backlight; answers = sent k.code }

unfoldable pub step : Record → Entry → Taken Record
step r e = taken r (keyed r.held r.settings.times r.settings.backlight e.tick e.edge)
