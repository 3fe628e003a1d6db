-- An entry keeps the held keys and the light in range. Assumes nothing.
use Rattle.std.specs.Prelude.{ℕ, ◌-◌, ◌^◌, ◌≤◌, Bool, true, false, ◌&&◌, ◌||◌, not, ◌≡◌, refl, eqb, leb, ltb, Option}
use Rattle.std.proofs.Common.{arith, subst, pow_pos, eqb-true, leb-true, ltb-true, lt-ltb, le-leb}
use Rattle.std.specs.Int.Bits.{bit_or, or_add_and}
use Rattle.std.proofs.lemmas.Nat.{or_lt, and_le_l}
use Rattle.std.proofs.lemmas.Bool.{eqb-false}
use Rattle.lists.specs.Both.{both, and_both}
use Rattle.lists.specs.Tests.{either_way}
use Rattle.record.specs.declared.Keys.{Keys}
use Rattle.record.specs.declared.Times.{Times}
use Rattle.record.specs.declared.Backlight.{Backlight}
use Rattle.record.specs.Range.{stage_none, stage_short, stage_long, stage_false, auto, off, duration_in_range, backlight_in_range, keys_in_range, sister_backlight}
use Rattle.record.specs.With.{with_seconds_left}
use Rattle.key_entry.specs.Rules.{releases, is_poll, lit}
use Rattle.key_entry.specs.Laws.{lit_alike}
use Rattle.sister_entry.specs.declared.SisterKeyed.{SisterKeyed}
use Rattle.sister_entry.specs.declared.Message.{Message}
use Rattle.sister_entry.specs.Keys.{is_key, no_keys, bit_of, is_down, with_key, without_key, low_bit}
use Rattle.sister_entry.specs.Rules.{hook_number, is_press, is_release, before, held_since, false_with, is_held, with_keys, with_hook, with_ptt, started, pressed_beside, key_pressed, left_down, key_released, due, long_since, polled, lifted, put_back, ptt_pressed, ptt_released, pressed, released, entered, keyed}

-- Sets of keys ----------------------------------------------------------------------------------------------------

-- a set of keys 0 to 20
abbrev is_set : ℕ → Bool
is_set down = ltb down (2 ^ 21)

set_with : (down key : ℕ) → is_set down ≡ true → is_key key ≡ true → is_set (with_key down key) ≡ true
unfolding with_key bit_of
set_with down key set low =
    rw low (lt-ltb (bit_or down (2 ^ key)) (2 ^ 21) (or_lt 21 down (2 ^ key) (ltb-true down (2 ^ 21) set) (low_bit key (leb-true key 20 low))))

-- A set with a key added is not empty.
some_with : (down key : ℕ) → is_key key ≡ true → leb 1 (with_key down key) ≡ true
unfolding with_key bit_of
some_with down key low =
    rw low (le-leb 1 (bit_or down (2 ^ key)) (omega (arith, pow_pos key, or_add_and down (2 ^ key), and_le_l down (2 ^ key))))

set_without : (down key : ℕ) → is_set down ≡ true → is_set (without_key down key) ≡ true
unfolding without_key
set_without down key set =
    either_way (λ (n : ℕ). is_set n ≡ true) (is_down down key)
    (λ is. lt-ltb (down - bit_of key) (2 ^ 21) (omega (arith, ltb-true down (2 ^ 21) set))) (λ not. set)

-- The keys ----------------------------------------------------------------------------------------------------------

-- `keys_in_range` with the stage apart
abbrev in_range_at : ℕ → Keys → Bool
in_range_at stage keys = keys_in_range (record { stage = stage; key = keys.key; tick = keys.tick; down = keys.down })

or_false : {a : Bool} → (a || false) ≡ true → a ≡ true
or_false {a = true} h = refl
or_false {a = false} h = h

either : {a b : Bool} {P : Type 0} → (a || b) ≡ true → (a ≡ true → P) → (b ≡ true → P) → P
either {a = true} h one other = one refl
either {a = false} h one other = other h

or_right : (a : Bool) {b : Bool} → b ≡ true → (a || b) ≡ true
or_right true h = refl
or_right false h = h

at_stage : (keys : Keys) (stage : ℕ) → eqb keys.stage stage ≡ true → keys_in_range keys ≡ true → in_range_at stage keys ≡ true
at_stage keys stage is fine = subst (λ (n : ℕ). in_range_at n keys ≡ true) (eqb-true keys.stage stage is) fine

-- A key that is held is one of 0 to 20.
short_key : (keys : Keys) → eqb keys.stage stage_short ≡ true → keys_in_range keys ≡ true → is_key keys.key ≡ true
short_key keys is fine = (both {a = is_key keys.key} {b = eqb keys.down 0} (or_false (at_stage keys stage_short is fine))).0

long_key : (keys : Keys) → eqb keys.stage stage_long ≡ true → keys_in_range keys ≡ true → is_key keys.key ≡ true
long_key keys is fine = (both {a = is_key keys.key} {b = eqb keys.down 0} (or_false (at_stage keys stage_long is fine))).0

held_key : (keys : Keys) → is_held keys ≡ true → keys_in_range keys ≡ true → is_key keys.key ≡ true
held_key keys held fine = either held (λ is. short_key keys is fine) (λ is. long_key keys is fine)

long_fine : (key now : ℕ) → is_key key ≡ true → keys_in_range (held_since stage_long key now) ≡ true
long_fine key now low = rw low

-- In false there is a set.
false_set : (keys : Keys) → eqb keys.stage stage_false ≡ true → keys_in_range keys ≡ true → is_set keys.down ≡ true
false_set keys is fine =
    (both {a = eqb keys.key 0 && eqb keys.tick.0 0 && leb 1 keys.down} {b = is_set keys.down} (at_stage keys stage_false is fine)).1

false_fine : (down : ℕ) → leb 1 down ≡ true → is_set down ≡ true → keys_in_range (false_with down) ≡ true
false_fine down some set = rw (some, set)

left_fine : (down : ℕ) → is_set down ≡ true → keys_in_range (left_down down) ≡ true
unfolding left_down
left_fine down set =
    either_way (λ (keys : Keys). keys_in_range keys ≡ true) (eqb down no_keys) (λ none. refl)
    (λ some. false_fine down (le-leb 1 down (omega (arith, eqb-false down 0 some))) set)

-- What an entry does -------------------------------------------------------------------------------------------------

-- An entry does one of five things: nothing, the start of a key, other keys, which stay in range, another hook, another PTT. What holds of
-- these holds of every entry.
pub one_of_five : (P : SisterKeyed → Type 0) (was : SisterKeyed) (times : Times) (now : ℕ) → P was
    → ((key : ℕ) → is_key key ≡ true → P (started was now key))
    → ((keys : Keys) (message : Option Message) → (keys_in_range was.keys ≡ true → keys_in_range keys ≡ true) → P (with_keys was keys message))
    → ((hook : Bool) (message : Option Message) → P (with_hook was hook message))
    → ((ptt : Bool) (message : Option Message) → P (with_ptt was ptt message))
    → (edge : ℕ) → P (entered was times now edge)
unfolding entered pressed released key_pressed pressed_beside key_released long_since polled lifted put_back ptt_pressed ptt_released
one_of_five P was times now same start keys hook ptt edge =
    either_way P (is_press edge) (λ press. pressing edge)
    (λ other.
    either_way P (is_release edge) (λ release. releasing (edge - releases))
    (λ others. either_way P (is_poll edge) (λ poll. polling) (λ odd. same)))
  where
    pressing_beside : (key : ℕ) → is_key key ≡ true → is_held was.keys ≡ true → P (pressed_beside was key)
    pressing_beside key low held =
        either_way P (eqb was.keys.key key) (λ its. same)
        (λ second.
        keys _ _
        (λ fine.
        let set = set_with no_keys was.keys.key refl (held_key was.keys held fine) in
        false_fine (with_key (with_key no_keys was.keys.key) key) (some_with (with_key no_keys was.keys.key) key low) (set_with (with_key no_keys was.keys.key) key set low)))

    pressing : (number : ℕ) → P (pressed was now number)
    pressing number =
        either_way P (is_key number)
        (λ low.
        either_way P (eqb was.keys.stage stage_none) (λ none. start number low)
        (λ some.
        either_way P (is_held was.keys) (λ held. pressing_beside number low held)
        (λ free.
        either_way P (eqb was.keys.stage stage_false)
        (λ false.
        keys _ _
        (λ fine.
        false_fine (with_key was.keys.down number) (some_with was.keys.down number low)
        (set_with was.keys.down number (false_set was.keys false fine) low)))
        (λ odd. same))))
        (λ high.
        either_way P (eqb number hook_number) (λ is. either_way P was.hook (λ on. hook _ _) (λ off. same))
        (λ not. either_way P was.ptt (λ down. same) (λ up. ptt _ _)))

    releasing : (number : ℕ) → P (released was number)
    releasing number =
        either_way P (is_key number)
        (λ low.
        either_way P (is_held was.keys && eqb was.keys.key number) (λ its. keys _ _ (λ fine. refl))
        (λ other.
        either_way P (eqb was.keys.stage stage_false)
        (λ false.
        keys _ _
        (λ fine. left_fine (without_key was.keys.down number) (set_without was.keys.down number (false_set was.keys false fine))))
        (λ odd. same)))
        (λ high.
        either_way P (eqb number hook_number) (λ is. either_way P was.hook (λ on. same) (λ off. hook _ _))
        (λ not. either_way P was.ptt (λ down. ptt _ _) (λ up. same)))

    polling : P (polled was times now)
    polling =
        either_way P (eqb was.keys.stage stage_short && due times.time1 now was.keys.tick.0)
        (λ tests. keys _ _ (λ fine. long_fine was.keys.key now (short_key was.keys (both tests).0 fine)))
        (λ early.
        either_way P (eqb was.keys.stage stage_long && due times.time2 now was.keys.tick.0)
        (λ tests. keys _ _ (λ fine. long_fine was.keys.key now (long_key was.keys (both tests).0 fine)))
        (λ late. same))

-- The held keys stay in range.
pub keys_in_range_lem : (keys : Keys) (times : Times) (light : Backlight) (hook ptt : Bool) (now edge : ℕ) → keys_in_range keys ≡ true
    → keys_in_range (keyed keys times light hook ptt now edge).keys ≡ true
unfolding started
keys_in_range_lem keys times light hook ptt now edge fine =
    one_of_five (λ (k : SisterKeyed). keys_in_range k.keys ≡ true) (before keys light hook ptt) times now fine (λ key low. rw low)
    (λ other message stays. stays fine) (λ other message. fine) (λ other message. fine) edge

-- What holds of a light, and of the same light with its seconds started anew in auto, holds of the light after an entry.
light_after : (Q : Backlight → Type 0) (keys : Keys) (times : Times) (light : Backlight) (hook ptt : Bool) (now edge : ℕ) → Q light → Q (lit light)
    → Q (keyed keys times light hook ptt now edge).backlight
unfolding started
light_after Q keys times light hook ptt now edge same anew =
    one_of_five (λ (k : SisterKeyed). Q k.backlight) (before keys light hook ptt) times now same (λ key low. anew) (λ other message stays. same)
    (λ other message. same) (λ other message. same) edge

-- An entry changes nothing of the light but its seconds left.
pub only_left : (keys : Keys) (times : Times) (light : Backlight) (hook ptt : Bool) (now edge : ℕ)
    → (keyed keys times light hook ptt now edge).backlight ≡ with_seconds_left light (keyed keys times light hook ptt now edge).backlight.left
only_left keys times light hook ptt now edge =
    light_after (λ (b : Backlight). b ≡ with_seconds_left light b.left) keys times light hook ptt now edge refl (lit_alike light)

-- The light stays in range.
pub light_in_range : (keys : Keys) (times : Times) (light : Backlight) (hook ptt : Bool) (now edge : ℕ) (pwm : Bool) → sister_backlight light pwm ≡ true
    → sister_backlight (keyed keys times light hook ptt now edge).backlight pwm ≡ true
light_in_range keys times light hook ptt now edge pwm fine =
    light_after (λ (b : Backlight). sister_backlight b pwm ≡ true) keys times light hook ptt now edge fine
    (either_way (λ (b : Backlight). sister_backlight b pwm ≡ true) (eqb light.mode auto) lights (λ other. fine))
  where
    lights : eqb light.mode auto ≡ true → sister_backlight (with_seconds_left light light.duration) pwm ≡ true
    lights is =
        let tests = both {a = backlight_in_range light && leb light.duration.0 250 && leb light.left.0 250} {b = not pwm || not (eqb light.mode off)} fine in
        let first = (both {a = backlight_in_range light && leb light.duration.0 250} {b = leb light.left.0 250} tests.0).0 in
        let short = both {a = backlight_in_range light} {b = leb light.duration.0 250} first in
        let base = both {a = leb light.mode auto && duration_in_range light.duration.0} {b = eqb light.left.0 0 || eqb light.mode auto} short.0 in
        and_both (and_both (and_both (and_both base.0 (or_right (eqb light.duration.0 0) is)) short.1) short.1) tests.1

-- The seconds left stay at most the duration.
pub left_at_most_duration : (keys : Keys) (times : Times) (light : Backlight) (hook ptt : Bool) (now edge : ℕ) → light.left.0 ≤ light.duration.0
    → (keyed keys times light hook ptt now edge).backlight.left.0 ≤ (keyed keys times light hook ptt now edge).backlight.duration.0
left_at_most_duration keys times light hook ptt now edge most =
    light_after (λ (b : Backlight). b.left.0 ≤ b.duration.0) keys times light hook ptt now edge most
    (either_way (λ (b : Backlight). b.left.0 ≤ b.duration.0) (eqb light.mode auto) (λ is. omega arith) (λ other. most))
