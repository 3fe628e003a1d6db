-- Numbers are all in range exactly where none of them is the first that is out. Assumes nothing.
use Rattle.std.specs.Prelude.{ℕ, true, false, List, [], ◌∷◌, ◌≡◌, refl, Some, None, is_none}
use Rattle.std.proofs.Common.{sym, ap, ◌∙◌}
use Rattle.lists.specs.Tests.{by_test}
use Rattle.command.specs.InRange.{Judged, all_in, first_out}

none_first : (ns : List Judged) → is_none (first_out ns) ≡ all_in ns
none_first [] = refl
none_first (n ∷ []) = by_test n.1 (λ e. rw e) (λ e. rw e)
none_first (m ∷ n ∷ more) = by_test m.1 (λ e. rw e (none_first (n ∷ more))) (λ e. rw e)

pub none_out : (ns : List Judged) → first_out ns ≡ None → all_in ns ≡ true
none_out ns e = sym (none_first ns) ∙ ap is_none e

pub one_out : {n : ℕ} (ns : List Judged) → first_out ns ≡ Some n → all_in ns ≡ false
one_out ns e = sym (none_first ns) ∙ ap is_none e
