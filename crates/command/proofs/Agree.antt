-- The reader and the grammar agree on every frame, and every frame spells one order at most. Assumes nothing.
use Rattle.std.specs.Prelude.{ℕ, List, ◌↔◌, ◌≡◌, refl}
use Rattle.std.proofs.Common.{arith}
use Rattle.std.proofs.Math.Option.{Option, none, some}
use Rattle.command.specs.Order.{Order}
use Rattle.command.specs.Grammar.{Spells}
use Rattle.command.specs.Reading.{order_of}
use Rattle.command.proofs.Complete.{complete}
use Rattle.command.proofs.Sound.{sound}

-- The reader finds an order exactly where the frame spells it.
pub agree : (o : Order) (f : List ℕ) → (order_of f ≡ some o) ↔ Spells o f
agree o f = (sound f, complete o f)

-- What follows wherever a reader and a grammar agree
module _ {O : Type 0} (read : List ℕ → Option O) (Says : O → List ℕ → Type 0) (agreed : (o : O) (f : List ℕ) → (read f ≡ some o) ↔ Says o f) where
  pub one_said : (o o' : O) (f : List ℕ) → Says o f → Says o' f → o ≡ o'
  one_said o o' f s t = let p = (agreed o f).1 s in let q = (agreed o' f).1 t in cc

  pub none_said : (f : List ℕ) → (read f ≡ none) ↔ ((o : O) → Says o f → ⊥)
  none_said f = (says_none, cases (read f) refl)
    where
      says_none : read f ≡ none → (o : O) → Says o f → ⊥
      says_none e o s = let p = (agreed o f).1 s in let z : ◌≡◌ {A = ℕ} 0 1 = cc in omega arith

      cases : (found : Option O) → read f ≡ found → ((o : O) → Says o f → ⊥) → read f ≡ none
      cases none e says = e
      cases (some o) e says = absurd (says o ((agreed o f).0 e))

-- A frame spells one order at most.
pub one_order : (o o' : Order) (f : List ℕ) → Spells o f → Spells o' f → o ≡ o'
one_order o o' f s t = one_said order_of Spells agree o o' f s t

-- A frame is bad exactly where it spells none.
pub bad_frame : (f : List ℕ) → (order_of f ≡ none) ↔ ((o : Order) → Spells o f → ⊥)
bad_frame f = none_said order_of Spells agree f
