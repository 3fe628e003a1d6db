-- What stands in lent places afterwards, and the laws of it. Assumes nothing.
use Rattle.std.specs.Prelude.{ℕ, suc, ◌+◌, ◌-◌, ◌≤◌, ◌<◌, ◌≡◌, refl, List, [], ◌∷◌, ◌++◌, length, take, set, replicate}
use Rattle.std.proofs.Common.{arith, add-one, sym, ap, ◌∙◌, append-nil, append_assoc, length-set, take-suc-set, take_all}

-- UNUSED PLACES hold zero
unfoldable pub emptied : List ℕ → ℕ → List ℕ
emptied bytes len = take len bytes ++ replicate (length bytes - len) 0

-- of so many places
pub emptied_of : {n : ℕ} (bytes : List ℕ) (len : ℕ) → length bytes ≡ n → emptied bytes len ≡ take len bytes ++ replicate (n - len) 0
unfolding emptied
emptied_of bytes len f = ap (λ (n : ℕ). take len bytes ++ replicate (n - len) 0) f

-- a place at a time
pub empty_more : (bytes : List ℕ) (i : ℕ) → i < length bytes → emptied bytes i ≡ emptied (set bytes i 0) (i + 1)
empty_more bytes i l =
    emptied_of bytes i refl
    ∙ ap (λ (k : ℕ). take i bytes ++ replicate k 0) {x = length bytes - i} {y = suc (length bytes - (i + 1))} (omega arith)
    ∙ sym (append_assoc (take i bytes) (0 ∷ []) (replicate (length bytes - (i + 1)) 0))
    ∙ ap (λ (x : List ℕ). x ++ replicate (length bytes - (i + 1)) 0) (sym (ap (λ (k : ℕ). take k (set bytes i 0)) (add-one i) ∙ take-suc-set bytes i 0 l))
    ∙ sym (emptied_of (set bytes i 0) (i + 1) (length-set bytes i 0))

pub empty_end : (bytes : List ℕ) (i : ℕ) → length bytes ≤ i → emptied bytes i ≡ bytes
unfolding emptied
empty_end bytes i l = ap (λ (n : ℕ). take i bytes ++ replicate n 0) {x = length bytes - i} {y = 0} (omega arith) ∙ append-nil (take i bytes) ∙ take_all i bytes l
