-- A field that only some frames set is what the last of them set.
-- What it speaks of is in specs/Last.antt. Assumes nothing.
use Rattle.std.specs.Prelude.{ℕ, ◌≤◌, ◌≡◌, length}
use Rattle.std.proofs.Math.Path.{refl, ap}
use Rattle.std.proofs.Common.{◌∙◌, leb-true, le-leb}
use Rattle.std.proofs.Math.Option.{Option, some, get_or}
use mathlib.Core.List.{List, ◌∷◌, ◌++◌, append_assoc}
use Rattle.lists.specs.Codes.{escape, carriage_return}
use Rattle.lists.specs.Tests.{by_test}
use Rattle.parting.specs.Rules.{Body, Part, text, skipped, closed, abandoned, Parted, done, unfinished, then, Parting, goes_on, limit, in_limit, Stands}
use Rattle.parting.specs.Meaning.{Meaning, State, Taken, close, act, taking}
use Rattle.parting.specs.Reading.{reading}
use Rattle.parting.proofs.Stream.{stream}
use Rattle.parting.specs.Joined.{join}
use Rattle.parting.proofs.Joined.{joined}
use Rattle.parting.specs.Last.{SetBy, set_by_part, last, Silent, last_silent, last_join}

module _ (M : Meaning) {X : Type 0} (field : M.Core → X) (sets : List ℕ → Option X) (law : SetBy M field sets) where
  act_sets : (core : M.Core) (part : Part) → field (act M core part).core ≡ get_or (set_by_part sets part) (field core)
  unfolding act set_by_part close
  act_sets core (text b) = law.stored core b
  act_sets core (skipped b) = refl
  act_sets core (closed body) = by_test (in_limit body) (λ e. rw e (law.obeyed core body (leb-true (length body) limit e))) (λ e. rw e)
  act_sets core (abandoned body) = refl

  -- A field that only some frames set is what the last of them set, or else what it was.
  pub last_field : (core : M.Core) (parted : Parted) → field (taking M core parted).state.core ≡ last sets parted (field core)
  unfolding taking last
  last_field core done = refl
  last_field core (unfinished body) = refl
  last_field core (then part parted) = last_field (act M core part).core parted ∙ ap (last sets parted) (act_sets core part)

  -- Read from the back: a frame that sets the field decides if no later one sets it, whatever stands before its ESC.
  pub backwards : (state : State M.Core) {before : List ℕ} (bytes : List ℕ) {body rest : List ℕ} {first second : Parted} {x : X} → Stands state.frame before → Parting (before ++ bytes) first
      → Body body → length body ≤ limit → Parting rest second → sets body ≡ some x → Silent sets second
      → field (reading M state (bytes ++ (escape ∷ body ++ carriage_return ∷ rest))).state.core ≡ x
  unfolding last set_by_part
  backwards state {before} bytes {body} {rest} {first} {second} {x} standing p h l q e silent =
      let closing : Parting (escape ∷ body ++ carriage_return ∷ rest) (then (closed body) second) = rw append_assoc at (goes_on {part = closed body} h tt q) in
      let whole : Parting (before ++ (bytes ++ (escape ∷ body ++ carriage_return ∷ rest))) (join first (then (closed body) second)) = rw append_assoc at (joined p closing) in
      ap (λ (t : Taken M.Core). field t.state.core) (stream M state (bytes ++ (escape ∷ body ++ carriage_return ∷ rest)) standing whole)
      ∙ last_field state.core (join first (then (closed body) second))
      ∙ last_join sets first (then (closed body) second) (field state.core)
      ∙ rw (le-leb (length body) limit l, e) (last_silent sets second x silent)
