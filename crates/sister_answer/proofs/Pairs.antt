-- Two numbers that are added one after the other are a pair. Assumes nothing.
use Prim.Native.Nat.{ℕ}
use Prim.Native.Char.{code}
use mathlib.Core.List.{List, [], ◌∷◌, ◌++◌, append_assoc}
use mathlib.Core.Path.{◌≡◌, ◌∙◌, ap}
use Rattle.lists.specs.Codes.{carriage_return, line_feed}
use Rattle.numeral.specs.Numeral.{decimal}
use Rattle.sister_answer.specs.Told.{pair}

pub pair_built : (front : List ℕ) (m n : ℕ)
    → front ++ decimal m ++ (code ";" ∷ []) ++ decimal n ++ carriage_return ∷ line_feed ∷ [] ≡ front ++ pair m n ++ carriage_return ∷ line_feed ∷ []
pair_built front m n =
    ap (λ (x : List ℕ). x ++ carriage_return ∷ line_feed ∷ [])
    (append_assoc (front ++ decimal m) (code ";" ∷ []) (decimal n) ∙ append_assoc front (decimal m) (code ";" ∷ decimal n))
