-- Of what kind a command is, by its tag: what a `match` tells of the commands that none of its arms names. Assumes nothing.
use Prim.Native.Nat.{ℕ, suc}
use mathlib.Core.Bool.{Bool, false, not, cond, ◌||◌}
use mathlib.Core.List.{List, [], ◌∷◌, map}
use mathlib.Core.Path.{◌≡◌, refl, subst, ◌∙◌}
use lib.Dec.{T, eqb}
use borrow.Author.Tests.{ne_eqb}
use types.Run.{OneOf, miss}
use mir.Val.{has_key}
use denote.Enum.Declared
use Rattle.frame_table.specs.Kinds.{alike}
use Rattle.command.specs.First.{kinds, kind}
use Rattle.command.specs.Kind.{place, same_kind}
use Rattle.command.specs.declared.Command.{Command}
use Rattle.command.specs.contracts.Command as Commands

abbrev pub tag : Command → ℕ
tag c = Declared.tag_of Commands.the_type c

-- A command's tag is the place of its kind.
tag_is_place : (c : Command) → tag c ≡ place c
tag_is_place c = alike kinds tag place (λ m n. refl) (kind c)

abbrev is_one_of : ℕ → List ℕ → Bool
is_one_of at [] = false
is_one_of at (d ∷ ds) = eqb at d || is_one_of at ds

abbrev without : List ℕ → List ℕ → List ℕ
without these [] = []
without these (at ∷ more) = cond (is_one_of at these) (without these more) (at ∷ without these more)

abbrev counted : {A : Type 0} → ℕ → List A → List ℕ
counted at [] = []
counted at (x ∷ xs) = at ∷ counted (suc at) xs

-- the tags of the commands that are of none of these kinds: computed, so that no list of commands grows with them
abbrev pub others : List Command → List ℕ
others these = without (map place these) (counted 0 kinds)

-- A command with one of those tags is of none of these kinds.
pub not_of : (these : List Command) (c : Command) → OneOf (others these) (tag c) → (d : Command) → T (not (has_key (others these) (place d))) → same_kind c d ≡ false
not_of these c h d misses =
    ne_eqb (place c) (place d) (λ e. miss (others these) (place d) misses (subst (λ (x : ℕ). OneOf (others these) x) (tag_is_place c ∙ e) h))
