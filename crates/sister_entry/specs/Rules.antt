-- What an entry of the sister handset's key log does, in the words of request T-06 ("Key log"). Assumes nothing.
use Rattle.std.specs.Prelude.{ℕ, ◌-◌, Bool, true, false, cond, ◌&&◌, ◌||◌, not, List, eqb, leb, get_or, Option, None, Some}
use Prim.Native.Char.{code}
use Rattle.lists.specs.Codes.{ascii}
use Rattle.record.specs.declared.Keys.{Keys}
use Rattle.record.specs.declared.Times.{Times}
use Rattle.record.specs.declared.Tenths.{Tenths}
use Rattle.record.specs.declared.Backlight.{Backlight}
use Rattle.record.specs.Range.{stage_none, stage_short, stage_long, stage_false}
use Rattle.record.specs.PowerOn.{none_down}
use Rattle.key_entry.specs.Rules.{releases, release_up_to, is_poll, listed_up_to, over, lit}
use Rattle.sister_entry.specs.declared.SisterKeyed.{SisterKeyed}
use Rattle.sister_entry.specs.declared.Message.{Message}
use Rattle.sister_entry.specs.declared.Message.TheVariants.{False, Event}
use Rattle.sister_entry.specs.Keys.{is_key, no_keys, with_key, without_key}

-- EDGE BYTES: k press, 128+k release, 255 poll. Keys 0 to 18 as in the first edition, 19 MUTE, 20 REC/SOS; then HOOK and PTT
abbrev pub hook_number : ℕ
hook_number = 21

abbrev pub ptt_number : ℕ
ptt_number = 22

abbrev pub is_number : ℕ → Bool
is_number n = leb n ptt_number

abbrev pub is_press : ℕ → Bool
is_press edge = is_number edge

abbrev pub is_release : ℕ → Bool
is_release edge = release_up_to ptt_number edge

abbrev pub listed : ℕ → Bool
listed edge = listed_up_to ptt_number edge

-- SIGNS of the numbers 0 to 22, in their order; 0 for what is none of them
abbrev pub signs : List ℕ
signs = ascii "LREAUD1234567890*#OMNHP"

unfoldable pub sign_of : ℕ → ℕ
sign_of number = get_or signs number 0

-- EVENTS
abbrev pub start : ℕ
start = code "s"

abbrev pub long : ℕ
long = code "l"

abbrev pub again : ℕ
again = code "r"

abbrev pub end : ℕ
end = code "e"

-- one key, held since a tick
abbrev pub held_since : ℕ → ℕ → ℕ → Keys
held_since stage key now = record { stage = stage; key = key; tick = record { 0 = now }; down = no_keys }

-- false: key and tick are not used
abbrev pub false_with : ℕ → Keys
false_with down = record { stage = stage_false; key = 0; tick = record { 0 = 0 }; down = down }

-- a key is held: short or long
abbrev pub is_held : Keys → Bool
is_held keys = eqb keys.stage stage_short || eqb keys.stage stage_long

-- THE RULES. Each takes what was before the entry, with no message, and gives what is after it; where it says nothing, that is the same
abbrev pub before : Keys → Backlight → Bool → Bool → SisterKeyed
before keys light hook ptt = record { keys = keys; backlight = light; hook = hook; ptt = ptt; message = None }

-- other keys, another hook or another PTT, and a message
abbrev pub with_keys : SisterKeyed → Keys → Option Message → SisterKeyed
with_keys was keys message = record { keys = keys; backlight = was.backlight; hook = was.hook; ptt = was.ptt; message = message }

abbrev pub with_hook : SisterKeyed → Bool → Option Message → SisterKeyed
with_hook was hook message = record { keys = was.keys; backlight = was.backlight; hook = hook; ptt = was.ptt; message = message }

abbrev pub with_ptt : SisterKeyed → Bool → Option Message → SisterKeyed
with_ptt was ptt message = record { keys = was.keys; backlight = was.backlight; hook = was.hook; ptt = ptt; message = message }

-- press with none down: s; that key, tick now, short; in auto left becomes the duration
unfoldable pub started : SisterKeyed → ℕ → ℕ → SisterKeyed
started was now key = record {
  keys = held_since stage_short key now;
  backlight = lit was.backlight;
  hook = was.hook;
  ptt = was.ptt;
  message = Some (Event (sign_of key) start);
}

-- a second key pressed while one is held: KFx, state false with both keys down. The same key pressed again: nothing
unfoldable pub pressed_beside : SisterKeyed → ℕ → SisterKeyed
pressed_beside was key =
    cond (eqb was.keys.key key) was (with_keys was (false_with (with_key (with_key no_keys was.keys.key) key)) (Some False))

-- a press, by the stage; in false it adds a key to the set
unfoldable pub key_pressed : SisterKeyed → ℕ → ℕ → SisterKeyed
key_pressed was now key =
    cond (eqb was.keys.stage stage_none) (started was now key)
    (cond (is_held was.keys) (pressed_beside was key)
    (cond (eqb was.keys.stage stage_false) (with_keys was (false_with (with_key was.keys.down key)) None)
    was))

-- in false: when none is down any more the stage is none
unfoldable pub left_down : ℕ → Keys
left_down down = cond (eqb down no_keys) none_down (false_with down)

-- release of the held key, short or long: e; none held. In false it takes the key out of the set. A key that is not down: nothing
unfoldable pub key_released : SisterKeyed → ℕ → SisterKeyed
key_released was key =
    cond (is_held was.keys && eqb was.keys.key key) (with_keys was none_down (Some (Event (sign_of key) end)))
    (cond (eqb was.keys.stage stage_false) (with_keys was (left_down (without_key was.keys.down key)) None)
    was)

-- the time is not 0, and elapsed at least 10 times the time
unfoldable pub due : Tenths → ℕ → ℕ → Bool
due time now held = not (eqb time.0 0) && over time now held

-- the held key is long, tick now, and this is sent of it
unfoldable pub long_since : SisterKeyed → ℕ → ℕ → SisterKeyed
long_since was now event = with_keys was (held_since stage_long was.keys.key now) (Some (Event (sign_of was.keys.key) event))

-- poll: short, and Time1 is due: l, long, tick now; long, and Time2 is due: r, tick now; else nothing
unfoldable pub polled : SisterKeyed → Times → ℕ → SisterKeyed
polled was times now =
    cond (eqb was.keys.stage stage_short && due times.time1 now was.keys.tick.0) (long_since was now long)
    (cond (eqb was.keys.stage stage_long && due times.time2 now was.keys.tick.0) (long_since was now again)
    was)

-- HOOK, on a change alone: its press lifts it, s; its release puts it back on-hook, e. No seconds
unfoldable pub lifted : SisterKeyed → SisterKeyed
lifted was = cond was.hook (with_hook was false (Some (Event (sign_of hook_number) start))) was

unfoldable pub put_back : SisterKeyed → SisterKeyed
put_back was = cond was.hook was (with_hook was true (Some (Event (sign_of hook_number) end)))

-- PTT, on a change alone: s and e. No seconds
unfoldable pub ptt_pressed : SisterKeyed → SisterKeyed
ptt_pressed was = cond was.ptt was (with_ptt was true (Some (Event (sign_of ptt_number) start)))

unfoldable pub ptt_released : SisterKeyed → SisterKeyed
ptt_released was = cond was.ptt (with_ptt was false (Some (Event (sign_of ptt_number) end))) was

-- a press and a release, by the number
unfoldable pub pressed : SisterKeyed → ℕ → ℕ → SisterKeyed
pressed was now number =
    cond (is_key number) (key_pressed was now number) (cond (eqb number hook_number) (lifted was) (ptt_pressed was))

unfoldable pub released : SisterKeyed → ℕ → SisterKeyed
released was number =
    cond (is_key number) (key_released was number) (cond (eqb number hook_number) (put_back was) (ptt_released was))

-- an entry, by its edge
unfoldable pub entered : SisterKeyed → Times → ℕ → ℕ → SisterKeyed
entered was times now edge =
    cond (is_press edge) (pressed was now edge)
    (cond (is_release edge) (released was (edge - releases))
    (cond (is_poll edge) (polled was times now)
    was))

abbrev pub keyed : Keys → Times → Backlight → Bool → Bool → ℕ → ℕ → SisterKeyed
keyed keys times light hook ptt now edge = entered (before keys light hook ptt) times now edge
