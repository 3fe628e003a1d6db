-- The reader's loop: the columns drawn so far, and the items that are still to come. Assumes nothing.
use Prim.Native.Nat.{ℕ, ◌+◌, ◌-◌, ◌<◌, ◌≤◌}
use native.Mathlib.Omega.{arith}
use mathlib.Core.Bool.{Bool, true, false, cond}
use mathlib.Core.List.{List, [], ◌∷◌, ◌++◌, append_assoc, append-nil}
use Rattle.std.specs.Prelude.{Option, Some, None, option_map, ltb}
use Rattle.std.specs.Bool.{then_some}
use Rattle.std.proofs.lemmas.Option.{none-some, same_Some}
use mathlib.Core.Path.{◌≡◌, refl, sym, ◌∙◌, ap, subst}
use lib.ListN.{length, take, drop, replicate, length-append, length-replicate, length-drop}
use lib.Seq.{sets, sets-eq, take_all}
use borrow.Rule.Slice.PartMut.{mid_of, put_mid, mid_len}
use Rattle.std.proofs.lemmas.Slice.{put_mid-paste}
use borrow.Author.Tests.{le-leb, lt-leb, lt-ltb}
use Rattle.picture.specs.declared.Item.{Item}
use Rattle.lists.specs.Padded.{padded, length_padded, lengthen}
use Rattle.picture.specs.Reading.{is_letter, times_of, column_of, onto, repeated, drawn, items, few, columns_of, columns_found, columns_read, pair_of, first_of}

-- two digits that make an item draw its columns before those that follow
pair_draws : {i : Item} (n a b width : ℕ) → pair_of n a b width ≡ Some i
    → (i.width ≡ width) × ((rest : Option (List ℕ)) → drawn n a b rest ≡ onto (replicate i.count i.column) rest)
unfolding pair_of
pair_draws {i} n a b width = cases (column_of a b)
  where
    cases : (column : Option ℕ) → option_map (λ v. record { count = n; column = v; width = width }) column ≡ Some i
        → (i.width ≡ width) × ((rest : Option (List ℕ)) → repeated n column rest ≡ onto (replicate i.count i.column) rest)
    cases None e = absurd (none-some _ e)
    cases (Some v) e = subst (λ (j : Item). (j.width ≡ width) × ((rest : Option (List ℕ)) → onto (replicate n v) rest ≡ onto (replicate j.count j.column) rest)) (same_Some _ _ e) (refl, λ rest. refl)

pair_spoils : (n a b width : ℕ) → pair_of n a b width ≡ None → (rest : Option (List ℕ)) → drawn n a b rest ≡ None
unfolding pair_of
pair_spoils n a b width = cases (column_of a b)
  where
    cases : (column : Option ℕ) → option_map {U = Item} (λ v. record { count = n; column = v; width = width }) column ≡ None → (rest : Option (List ℕ)) → repeated n column rest ≡ None
    cases None e rest = refl
    cases (Some v) e rest = absurd (none-some _ (sym e))

-- an item takes some of the codes and leaves the others
pub record Taken (codes : List ℕ) (i : Item) : Type 0 where
  pub within : i.width ≤ length codes
  pub some_codes : 1 ≤ i.width
  pub rest : items codes ≡ onto (replicate i.count i.column) (items (drop i.width codes))

taken_by : {codes : List ℕ} {i : Item} (width : ℕ) → i.width ≡ width → width ≤ length codes → 1 ≤ width → items codes ≡ onto (replicate i.count i.column) (items (drop width codes)) → Taken codes i
taken_by width e within some_codes rest = record { within = rw e within; some_codes = rw e some_codes; rest = rw e rest }

pub take_item : (codes : List ℕ) {i : Item} → first_of codes ≡ Some i → Taken codes i
unfolding items first_of
take_item [] e = absurd (none-some _ e)
take_item (a ∷ []) e = absurd (none-some _ e)
take_item (a ∷ b ∷ []) e =
    let p = pair_draws 1 a b 2 e in
    taken_by 2 p.0 (omega arith) (omega arith) (p.1 (Some []))
take_item (a ∷ b ∷ c ∷ more) {i} e₀ = cases (is_letter a) refl e₀
  where
    cases : (letter : Bool) → is_letter a ≡ letter → cond letter (pair_of (times_of a) b c 3) (pair_of 1 a b 2) ≡ Some i → Taken (a ∷ b ∷ c ∷ more) i
    cases true l e =
        let p = pair_draws (times_of a) b c 3 e in
        taken_by 3 p.0 (omega arith) (omega arith) (rw l (p.1 (items more)))
    cases false l e =
        let p = pair_draws 1 a b 2 e in
        taken_by 2 p.0 (omega arith) (omega arith) (rw l (p.1 (items (c ∷ more))))

no_item : (codes : List ℕ) → 1 ≤ length codes → first_of codes ≡ None → items codes ≡ None
unfolding items first_of
no_item [] h e = absurd (omega arith)
no_item (a ∷ []) h e = refl
no_item (a ∷ b ∷ []) h e = pair_spoils 1 a b 2 e (Some [])
no_item (a ∷ b ∷ c ∷ more) h e₀ = cases (is_letter a) e₀
  where
    cases : (letter : Bool) → cond letter (pair_of (times_of a) b c 3) (pair_of 1 a b 2) ≡ None
        → cond letter (drawn (times_of a) b c (items more)) (drawn 1 a b (items (c ∷ more))) ≡ None
    cases true e = pair_spoils (times_of a) b c 3 e (items more)
    cases false e = pair_spoils 1 a b 2 e (items (c ∷ more))

nil_of_length : (xs : List ℕ) → length xs ≡ 0 → xs ≡ []
nil_of_length [] e = refl
nil_of_length (x ∷ xs) e = absurd (omega arith)

onto_onto : (xs ys : List ℕ) (rest : Option (List ℕ)) → onto xs (onto ys rest) ≡ onto (xs ++ ys) rest
onto_onto xs ys None = refl
onto_onto xs ys (Some zs) = ap Some (sym (append_assoc xs ys zs))

onto_nothing : (rest : Option (List ℕ)) → rest ≡ onto [] rest
onto_nothing None = refl
onto_nothing (Some zs) = refl

too_many : (xs : List ℕ) (rest : Option (List ℕ)) → 96 < length xs → few (onto xs rest) ≡ []
too_many xs None h = refl
too_many xs (Some ys) h = rw (lt-leb (length (xs ++ ys)) 96 (rw (length-append xs ys) (omega arith)))

-- a part of the row that is filled holds the run
pub filled : (row run : List ℕ) (used count column : ℕ) → used + count ≤ length row → run ≡ replicate count column
    → put_mid used (used + count - used) row run ≡ sets row used (replicate count column)
filled row run used count column h e =
    let l : length (replicate count column) ≡ count = length-replicate count column in
    put_mid-paste used (used + count - used) row run (replicate count column) count e (omega arith) (sym l)
    ∙ rw (take_all count (replicate count column) (omega (arith, l)), sets-eq (replicate count column) row used (omega (arith, l)), l)

-- as long a part as the run is
part_length : (row : List ℕ) (used count : ℕ) → used + count ≤ length row → length (mid_of used (used + count - used) row) ≡ count
part_length row used count h = mid_len used (used + count) row h ∙ omega arith

pub all_left : (w : ℕ) (xs : List ℕ) → take (length xs - w) (drop w xs) ≡ drop w xs
all_left w xs = take_all (length xs - w) (drop w xs) (rw (length-drop w xs) (omega arith))

-- the loop: these columns stand in the row, and the codes that are left give the others
pub record Drawing (codes row : List ℕ) (used : ℕ) (rest : List ℕ) : Type 0 where
  pub columns : List ℕ
  pub holds : row ≡ padded 96 columns
  pub counts : used ≡ length columns
  pub fits : used ≤ 96
  pub to_come : items codes ≡ onto columns (items rest)

pub starts : (codes : List ℕ) → Drawing codes (replicate 96 0) 0 codes
unfolding padded
starts codes = record { columns = []; holds = refl; counts = refl; fits = omega arith; to_come = onto_nothing (items codes) }

module _ {codes row : List ℕ} {used : ℕ} {rest : List ℕ} (d : Drawing codes row used rest) where
  draws_on : {i : Item} → first_of rest ≡ Some i → used + i.count ≤ 96 → Drawing codes (sets row used (replicate i.count i.column)) (used + i.count) (drop i.width rest)
  draws_on {i} e r =
      let t = take_item rest e in
      let k = length-replicate i.count i.column in
      let g : length d.columns + length (replicate i.count i.column) ≤ 96 = omega (arith, d.counts) in
      record {
        columns = d.columns ++ replicate i.count i.column;
        holds = rw (d.holds, d.counts) (lengthen 96 d.columns (replicate i.count i.column) g);
        counts = rw (length-append d.columns (replicate i.count i.column), k) (omega (arith, d.counts));
        fits = r;
        to_come = d.to_come ∙ ap (onto d.columns) t.rest ∙ onto_onto d.columns (replicate i.count i.column) (items (drop i.width rest));
      }

  pub draws_more : {i : Item} (run left : List ℕ) → first_of rest ≡ Some i → used + i.count ≤ 96
      → run ≡ replicate (length (mid_of used (used + i.count - used) row)) i.column → left ≡ drop i.width rest
      → Drawing codes (put_mid used (used + i.count - used) row run) (used + i.count) left
  draws_more {i} run left e r f g =
      let l : length row ≡ 96 = rw d.holds (length_padded 96 d.columns (omega (arith, d.counts, d.fits))) in
      let h : used + i.count ≤ length row = omega (arith, l) in
      rw (g, filled row run used i.count i.column h (rw (part_length row used i.count h) at f)) (draws_on e r)

  pub no_data : 1 ≤ length rest → first_of rest ≡ None → None ≡ columns_read codes
  unfolding columns_of
  no_data h e = rw (d.to_come, no_item rest h e)

  pub over_full : {i : Item} → first_of rest ≡ Some i → 96 < used + i.count → None ≡ columns_read codes
  unfolding columns_of
  over_full {i} e h =
      let t = take_item rest e in
      let l : 96 < length (d.columns ++ replicate i.count i.column) = rw (length-append d.columns (replicate i.count i.column), length-replicate i.count i.column) (omega (arith, d.counts)) in
      rw (d.to_come, t.rest, onto_onto d.columns (replicate i.count i.column) (items (drop i.width rest)), too_many (d.columns ++ replicate i.count i.column) (items (drop i.width rest)) l)

  all_drawn : length rest ≡ 0 → columns_of codes ≡ d.columns
  unfolding columns_of items
  all_drawn h = rw (d.to_come, nil_of_length rest h, append-nil d.columns, le-leb (length d.columns) 96 (omega (arith, d.counts, d.fits)))

  found : (columns : List ℕ) → used ≡ length columns → then_some (ltb 0 used) (record { len = used; bytes = padded 96 columns }) ≡ columns_found columns
  found [] e = rw e
  found (column ∷ more) e = rw (e, lt-ltb 0 (length (column ∷ more)) (omega arith))

  pub ends : length rest ≡ 0 → then_some (ltb 0 used) (record { len = used; bytes = row }) ≡ columns_read codes
  ends h = rw (all_drawn h, d.holds) (found d.columns d.counts)
