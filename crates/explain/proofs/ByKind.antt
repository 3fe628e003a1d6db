-- What a `match` on commands leaves to `_`: two readings of a command that are computed to be alike for each kind but these are alike for
-- each command that is of none of these. Assumes nothing.
use Rattle.std.proofs.Common.{◌≡◌, ℕ, Bool, true, false, cond, not, ◌&&◌, ◌||◌, T, List, [], ◌∷◌, map, refl, subst}
use mathlib.Core.Option.{Option, none, some}
use mir.Val.{has_key}
use Rattle.frame_table.specs.Kinds.{of_kind}
use Rattle.command.specs.First.{kinds, kind}
use Rattle.command.specs.Kind.{place, same_kind}
use Rattle.command.specs.declared.Command.{Command}

abbrev is_of : List Command → Command → Bool
is_of [] c = false
is_of (d ∷ ds) c = same_kind c d || is_of ds c

-- what `not_of` tells of a command with one of the tags that are left. The laws are over any tags, since `others` of commands that are not
-- known has two ways at each kind, and the kernel would follow them all
abbrev pub NotOf : List ℕ → Command → Type 0
NotOf tags c = (d : Command) → T (not (has_key tags (place d))) → same_kind c d ≡ false

-- whether these have none of the tags
abbrev pub miss : List ℕ → List Command → Bool
miss tags [] = true
miss tags (d ∷ ds) = not (has_key tags (place d)) && miss tags ds

left_of : (a b : Bool) → T (a && b) → T a
left_of true b h = tt
left_of false b h = h

right_of : (a b : Bool) → T (a && b) → T b
right_of true b h = h
right_of false b h = absurd h

none_of : (tags : List ℕ) (these : List Command) (c : Command) → NotOf tags c → T (miss tags these) → is_of these c ≡ false
none_of tags [] c h misses = refl
none_of tags (d ∷ ds) c h misses =
    let missed = not (has_key tags (place d)) in
    rw (h d (left_of missed (miss tags ds) misses), none_of tags ds c h (right_of missed (miss tags ds) misses))

-- a reading of a command that is of none of these
abbrev read_unless : {A : Type 0} → List Command → (Command → A) → Command → Option A
read_unless these read c = cond (is_of these c) none (some (read c))

-- of every kind, with these numbers
abbrev pub readings : {A : Type 0} → List Command → (Command → A) → ℕ → ℕ → List (Option A)
readings these read m n = map (λ (f : ℕ → ℕ → Command). read_unless these read (f m n)) kinds

alike_unless : {A : Type 0} (these : List Command) (P Q : Command → A) → ((m n : ℕ) → readings these P m n ≡ readings these Q m n) → (c : Command) → read_unless these P c ≡ read_unless these Q c
alike_unless these P Q alike c =
    let k = kind c in
    let w = of_kind kinds (λ (f : ℕ → ℕ → Command). read_unless these P (f k.m k.n)) (λ (f : ℕ → ℕ → Command). read_unless these Q (f k.m k.n)) (alike k.m k.n) k.place k.same in
    subst (λ (x : Command). read_unless these P x ≡ read_unless these Q x) w.is w.same

same_some : {A : Type 0} {x y : A} → some x ≡ some y → x ≡ y
same_some h = cc

pub by_kind : {A : Type 0} (these : List Command) (tags : List ℕ) (P Q : Command → A) (c : Command) → NotOf tags c → T (miss tags these) → ((m n : ℕ) → readings these P m n ≡ readings these Q m n) → P c ≡ Q c
by_kind these tags P Q c h misses alike = same_some (rw (none_of tags these c h misses) at (alike_unless these P Q alike c))
