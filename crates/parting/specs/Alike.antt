-- TWO RECORDS THAT AGREE go on agreeing, and are answered alike. Assumes nothing.
-- The theorems are in proofs/Alike.antt.
use Rattle.std.specs.Prelude.{ℕ, ◌≤◌, ◌≡◌, length}
use mathlib.Core.List.{List}
use Rattle.parting.specs.Rules.{limit}
use Rattle.parting.specs.Meaning.{Answered, Meaning, Taken}

-- two that agree, with equal answers
pub record AnsweredAlike {Core : Type 0} (Agree : Core → Core → Type 0) (one other : Answered Core) : Type 0 where
  pub core : Agree one.core other.core
  pub answers : one.answers ≡ other.answers

pub record TakenAlike {Core : Type 0} (Agree : Core → Core → Type 0) (one other : Taken Core) : Type 0 where
  pub core : Agree one.state.core other.state.core
  pub frame : one.state.frame ≡ other.state.frame
  pub answers : one.answers ≡ other.answers

-- agreeing that text bytes, bad frames and closed frames of these keep
pub record KeepsAgreeing (M : Meaning) (Agree : M.Core → M.Core → Type 0) (These : List ℕ → Type 0) : Type 0 where
  pub stored : (one other : M.Core) (b : ℕ) → Agree one other → Agree (M.store one b) (M.store other b)
  pub obeyed : (one other : M.Core) (body : List ℕ) → These body → length body ≤ limit → Agree one other → AnsweredAlike Agree (M.obey one body) (M.obey other body)
  pub refused : (one other : M.Core) → Agree one other → M.bad_answer one ≡ M.bad_answer other
