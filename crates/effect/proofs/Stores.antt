-- What the stores of a label's codes and of a picture row's columns leave. Assumes nothing.
use Prim.Native.Nat.{ℕ, suc, ◌+◌, ◌*◌, ◌<◌, ◌≤◌}
use native.Mathlib.Omega.{arith}
use native.Mathlib.Numerals.{add-one}
use mathlib.Core.Path.{◌≡◌, sym, ap, ◌∙◌}
use mathlib.Core.List.{List, [], ◌∷◌, map}
use lib.ListN.{length, take, set, get_or}
use lib.Seq.{sets, slice, slice-cons, slice_empty, take-suc, length-take-le}
use Rattle.lists.specs.Padded.{padded, lengthen}
use Rattle.effect.specs.Effect.{kept_in}

-- one code more stands in its place
pub one_more : (places : ℕ) (t codes : List ℕ) (i v : ℕ) → i < length t → length t ≤ places → codes ≡ padded places (take i t) → v ≡ get_or t i 0
    → set codes i v ≡ padded places (take (i + 1) t)
one_more places t codes i v h l e q =
    let k : length (take i t) ≡ i = length-take-le i t (omega arith) in
    rw (e, q, add-one i, take-suc t i 0 h) (rw k at (lengthen places (take i t) (get_or t i 0 ∷ []) (omega arith)))

module _ (row start count : ℕ) (bytes : List ℕ) where
  -- all columns are still to be drawn
  pub draw_starts : {r : ℕ} (picture : List ℕ) (len : ℕ) → r ≡ row → start ≡ r * 96 → count ≡ len
      → sets picture (start + 0) (map (kept_in row) (slice 0 count bytes)) ≡ sets picture (row * 96) (map (kept_in row) (take len bytes))
  draw_starts picture len e s n =
      let k : start + 0 ≡ row * 96 = omega arith in
      rw (k, n)

  -- one column more is drawn
  pub draw_on : (picture : List ℕ) (i v : ℕ) → i < count → count ≤ length bytes → v ≡ kept_in row (get_or bytes i 0)
      → sets picture (start + i) (map (kept_in row) (slice i count bytes)) ≡ sets (set picture (start + i) v) (start + (i + 1)) (map (kept_in row) (slice (i + 1) count bytes))
  draw_on picture i v h l e =
      let k : suc (start + i) ≡ start + (i + 1) = omega arith in
      ap (λ (s : List ℕ). sets picture (start + i) (map (kept_in row) s)) (slice-cons i count bytes 0 h l)
      ∙ ap (λ (x : ℕ). sets (set picture (start + i) x) (suc (start + i)) (map (kept_in row) (slice (suc i) count bytes))) (sym e)
      ∙ rw (k, add-one i)

  -- nothing is left to draw
  pub draw_ends : (picture : List ℕ) (i : ℕ) → i ≤ count → count ≤ i → sets picture (start + i) (map (kept_in row) (slice i count bytes)) ≡ picture
  draw_ends picture i h l =
      let e : i ≡ count = omega arith in
      rw (e, slice_empty count bytes)
