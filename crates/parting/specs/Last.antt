-- THE LAST SETTER DECIDES: a field that only some frames set is what the last of them set. Assumes nothing.
-- The theorems are in proofs/Last.antt.
use Rattle.std.specs.Prelude.{ℕ, ◌≤◌, ◌≡◌, cond, length}
use Rattle.std.proofs.Math.Path.{refl, ap}
use Rattle.std.proofs.Common.{◌∙◌}
use Rattle.std.proofs.Math.Option.{Option, none, get_or}
use mathlib.Core.List.{List}
use Rattle.parting.specs.Rules.{Part, text, skipped, closed, abandoned, Parted, done, unfinished, then, limit, in_limit}
use Rattle.parting.specs.Meaning.{Meaning}
use Rattle.parting.specs.Joined.{join}

-- a field that no text byte sets, and of the frames those that `sets` names, to the value that it names
pub record SetBy (M : Meaning) {X : Type 0} (field : M.Core → X) (sets : List ℕ → Option X) : Type 0 where
  pub stored : (core : M.Core) (b : ℕ) → field (M.store core b) ≡ field core
  pub obeyed : (core : M.Core) (body : List ℕ) → length body ≤ limit → field (M.obey core body).core ≡ get_or (sets body) (field core)

module _ {X : Type 0} (sets : List ℕ → Option X) where
  -- what a part sets: only a closed frame that is not overlong sets anything
  unfoldable pub set_by_part : Part → Option X
  set_by_part (text b) = none
  set_by_part (skipped b) = none
  set_by_part (closed body) = cond (in_limit body) (sets body) none
  set_by_part (abandoned body) = none

  -- what the last setter sets, or else what was there
  unfoldable pub last : Parted → X → X
  last done x = x
  last (unfinished body) x = x
  last (then part parted) x = last parted (get_or (set_by_part part) x)

  -- no part sets anything
  abbrev pub Silent : Parted → Type 0
  Silent done = Unit {0}
  Silent (unfinished body) = Unit {0}
  Silent (then part parted) = (set_by_part part ≡ none) × Silent parted

  -- If no part sets the field it is what it was.
  pub last_silent : (parted : Parted) (x : X) → Silent parted → last parted x ≡ x
  unfolding last
  last_silent done x h = refl
  last_silent (unfinished body) x h = refl
  last_silent (then part parted) x h = ap (λ (o : Option X). last parted (get_or o x)) h.0 ∙ last_silent parted x h.1

  -- The last setter of two sides is the second side's, or else the first's.
  pub last_join : (first second : Parted) (x : X) → last (join first second) x ≡ last second (last first x)
  unfolding join last set_by_part
  last_join done second x = refl
  last_join (unfinished body) second x = refl
  last_join (then part first) second x = last_join first second (get_or (set_by_part part) x)
