-- A type by kinds: each kind makes a value of two numbers. Where every value is of a kind, what is computed to be alike for each kind
-- and any numbers is alike for each value. Assumes nothing.
use Rattle.std.specs.Prelude.{ℕ, zero, suc, List, [], ◌∷◌, map, ◌≡◌}
use Rattle.std.proofs.Common.{arith, subst}
use Rattle.std.proofs.Math.Option.{Option, none, some}

-- what the kind at a place makes of two numbers
abbrev pub made : {A : Type 0} → List (ℕ → ℕ → A) → ℕ → ℕ → ℕ → Option A
made [] place m n = none
made (k ∷ ks) zero m n = some (k m n)
made (k ∷ ks) (suc place) m n = made ks place m n

pub record Kind {A : Type 0} (ks : List (ℕ → ℕ → A)) (c : A) : Type 0 where
  pub place : ℕ
  pub m : ℕ
  pub n : ℕ
  pub same : made ks place m n ≡ some c

pub first_of : {B : Type 0} {x y : B} {xs ys : List B} → x ∷ xs ≡ y ∷ ys → x ≡ y
first_of h = cc

pub others_of : {B : Type 0} {x y : B} {xs ys : List B} → x ∷ xs ≡ y ∷ ys → xs ≡ ys
others_of h = cc

pub record OfKind {A X : Type 0} (F G : (ℕ → ℕ → A) → X) (m n : ℕ) (c : A) : Type 0 where
  pub maker : ℕ → ℕ → A
  pub is : maker m n ≡ c
  pub same : F maker ≡ G maker

pub of_kind : {A X : Type 0} (ks : List (ℕ → ℕ → A)) (F G : (ℕ → ℕ → A) → X) → map F ks ≡ map G ks → (place : ℕ) {m n : ℕ} {c : A} → made ks place m n ≡ some c → OfKind F G m n c
of_kind [] F G h place e = let z : ◌≡◌ {A = ℕ} 0 1 = cc in absurd (omega arith)
of_kind (k ∷ ks) F G h zero {m} {n} {c} e = let is : k m n ≡ c = cc in record { maker = k; is = is; same = first_of h }
of_kind (k ∷ ks) F G h (suc place) e = of_kind ks F G (others_of h) place e

-- What is computed to be alike for each kind with any two numbers is alike for each value that is of a kind.
pub alike : {A X : Type 0} (ks : List (ℕ → ℕ → A)) (F G : A → X) → ((m n : ℕ) → map (λ (k : ℕ → ℕ → A). F (k m n)) ks ≡ map (λ (k : ℕ → ℕ → A). G (k m n)) ks) → {c : A} → Kind ks c → F c ≡ G c
alike {A} ks F G h k =
    let w = of_kind ks (λ (x : ℕ → ℕ → A). F (x k.m k.n)) (λ (x : ℕ → ℕ → A). G (x k.m k.n)) (h k.m k.n) k.place k.same in
    subst (λ (x : A). F x ≡ G x) w.is w.same
