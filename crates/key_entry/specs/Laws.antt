-- Laws of the key rules: the clock, the table, and what an entry leaves alone. Assumes nothing.
use Rattle.std.specs.Prelude.{Option, None, Some, ◌≡◌, ℕ, zero, suc, ◌+◌, ◌-◌, ◌%◌, ◌<◌, Bool, true, cond, not, ◌&&◌, List, [], ◌∷◌, map, length, get_or, ◌==◌, nat_eq, slice_index, slice_index_or, refl}
use Rattle.std.proofs.Common.{arith, mod-eq_of_lt, sym, ap, ◌∙◌, leb-true}
use Rattle.std.proofs.Math.Nat.{mod-add-mod, add-mod_right}
use Rattle.std.proofs.Math.ListN.{get_or-map}
use Rattle.std.proofs.lemmas.Bool.{not-true}
use Rattle.lists.specs.Both.{both}
use Rattle.lists.specs.Every.{every}
use Rattle.lists.specs.Tests.{either_way}
use Rattle.record.specs.declared.Record.{Record}
use Rattle.record.specs.declared.Held.{Held}
use Rattle.record.specs.declared.Times.{Times}
use Rattle.record.specs.declared.Backlight.{Backlight}
use Rattle.record.specs.Range.{auto, key_in_range}
use Rattle.record.specs.With.{with_seconds_left}
use Rattle.key_entry.specs.declared.Keyed.{Keyed}
use Rattle.key_entry.specs.declared.Stage.{Stage}
use Rattle.key_entry.specs.declared.Stage.TheVariants.{Short, Long, Repeat}
use Rattle.key_entry.specs.Codes.{no_code, codes, column_of, number_at, code_of, sent}
use Rattle.key_entry.specs.Rules.{Entry, is_press, is_release, is_poll, releases, elapsed, over, repeats, none_held, held_since, long_since, nothing, lit, release_code, keyed, with_keys, step}

-- The wrapping subtract of two 16-bit readings is the remainder in the rules.
pub wrapped_is_elapsed : (now held since : ℕ) → since < 65536 → held < 65536 → (since + held) % 65536 ≡ now → since ≡ elapsed now held
unfolding elapsed
wrapped_is_elapsed now held since small low wraps =
    sym
    (ap (λ (n : ℕ). n % 65536) {x = now + 65536 - held} {y = now + (65536 - held)} (omega arith)
    ∙ ap (λ (n : ℕ). (n + (65536 - held)) % 65536) (sym wraps)
    ∙ mod-add-mod (since + held) 65536 (65536 - held)
    ∙ ap (λ (n : ℕ). n % 65536) {x = since + held + (65536 - held)} {y = since + 65536} (omega arith)
    ∙ add-mod_right since 65536
    ∙ mod-eq_of_lt small)

-- Every stage is a column of the table.
pub column_inside : (stage : Stage) → column_of stage < 3
column_inside Short = omega arith
column_inside Long = omega arith
column_inside Repeat = omega arith

-- A test that holds of every element holds of the one at any place.
every_at : (test : ℕ → Bool) (s : List ℕ) (i : ℕ) → i < length s → every test s ≡ true → test (slice_index s i) ≡ true
every_at test [] i h all = absurd (omega arith)
every_at test (x ∷ s) zero h all = (both {a = test x} {b = every test s} all).0
every_at test (x ∷ s) (suc i) h all = every_at test s i (omega arith) (both {a = test x} {b = every test s} all).1

-- a column of the table
abbrev column : Stage → List ℕ
column stage = map (λ (row : List ℕ). get_or row (column_of stage) no_code) codes

in_column : (key : ℕ) (stage : Stage) → slice_index_or (column stage) key no_code ≡ number_at key stage
in_column key Short = get_or-map (λ (row : List ℕ). get_or row 0 no_code) codes key []
in_column key Long = get_or-map (λ (row : List ℕ). get_or row 1 no_code) codes key []
in_column key Repeat = get_or-map (λ (row : List ℕ). get_or row 2 no_code) codes key []

is_code : ℕ → Bool
is_code number = not (number == no_code)

sends : (key : ℕ) (stage : Stage) → length (column stage) ≡ 19 → key_in_range key ≡ true → every is_code (column stage) ≡ true
    → sent (code_of key stage) ≡ number_at key stage ∷ []
unfolding is_code code_of
sends key stage long low all =
    let is : not ((slice_index_or (column stage) key no_code) == no_code) ≡ true
    = every_at is_code (column stage) key (omega (arith, leb-true key 18 low)) all in
    ap (λ (b : Bool). sent (cond b None (Some (number_at key stage)))) (ap (λ (n : ℕ). nat_eq n no_code) (sym (in_column key stage)) ∙ not-true _ is)

-- Every key of the table has a short and a long code, and sends them.
pub every_key_sends : (key : ℕ) → key_in_range key ≡ true
    → (sent (code_of key Short) ≡ number_at key Short ∷ []) × (sent (code_of key Long) ≡ number_at key Long ∷ [])
unfolding is_code
every_key_sends key low = (sends key Short refl low refl, sends key Long refl low refl)

-- An entry does one of four things: nothing, a press, a release, or a poll that makes the stage long or keeps it so. What holds of
-- these holds of every entry.
pub one_of_four : (P : Keyed → Type 0) (held : Held) (times : Times) (light : Backlight) (now : ℕ) → P (nothing held light)
    → ((key : ℕ) → key_in_range key ≡ true → P (record { held = held_since key now; backlight = lit light; code = None }))
    → P (record { held = none_held; backlight = light; code = release_code held times now })
    → ((code : Option ℕ) → held.down ≡ true → P (record { held = long_since held now; backlight = light; code = code }))
    → (edge : ℕ) → P (keyed held times light now edge)
unfolding keyed
one_of_four P held times light now same press release poll edge =
    either_way P (is_press edge) (λ low. either_way P held.down (λ down. same) (λ up. press edge low))
    (λ high.
    either_way P (is_release edge)
    (λ rises. either_way P (held.down && held.key == edge - releases) (λ its. release) (λ other. same))
    (λ stays.
    either_way P (is_poll edge)
    (λ asks.
    either_way P held.down
    (λ down.
    either_way P held.long
    (λ long. either_way P (repeats held times now) (λ due. poll (code_of held.key Repeat) down) (λ early. same))
    (λ short. either_way P (over times.time1 now held.tick.0) (λ due. poll (code_of held.key Long) down) (λ early. same)))
    (λ up. same))
    (λ odd. same)))

-- A press in auto changes nothing of a light but its seconds left.
pub lit_alike : (light : Backlight) → lit light ≡ with_seconds_left light (lit light).left
lit_alike light = either_way (λ (b : Backlight). b ≡ with_seconds_left light b.left) (light.mode == auto) (λ lights. refl) (λ other. refl)

-- An entry changes nothing but the held key and the seconds left.
pub only_held_and_left : (r : Record) (e : Entry)
    → (step r e).state ≡ with_keys r (step r e).state.held (with_seconds_left r.settings.backlight (step r e).state.settings.backlight.left)
unfolding step
only_held_and_left r e =
    ap (λ (b : Backlight). with_keys r (keyed r.held r.settings.times light e.tick e.edge).held b)
    (one_of_four Alike r.held r.settings.times light e.tick refl (λ key low. lit_alike light) refl (λ code down. refl) e.edge)
  where
    light : Backlight
    light = r.settings.backlight

    Alike : Keyed → Type 0
    Alike k = k.backlight ≡ with_seconds_left light k.backlight.left
