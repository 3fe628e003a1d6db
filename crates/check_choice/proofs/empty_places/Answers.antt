-- The places are as many as they are said to be: by the law, since to count them out would take too long. Assumes nothing.
use Rattle.std.proofs.Common.{◌≡◌, ℕ, sym, length, replicate}
use Rattle.std.proofs.lemmas.List.{length-replicate}
use Rattle.check_choice.proofs.empty_places.Goals as goal

enough : (n : ℕ) → n ≡ length {A = ℕ} (replicate n 0)
enough n = sym (length-replicate n 0)

pub returns : goal.returns
returns c = enough 1048577
