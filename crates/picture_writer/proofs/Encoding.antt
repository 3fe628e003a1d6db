-- The writer's loop: the items written so far, the run that is open, and the columns that are still to come. Assumes nothing.
use Prim.Native.Nat.{ℕ, suc, ◌+◌, ◌-◌, ◌*◌, ◌<◌, ◌≤◌}
use native.Mathlib.Omega.{arith}
use native.Mathlib.Numerals.{add-one}
use mathlib.Core.Bool.{Bool, true, false, ◌&&◌}
use mathlib.Core.List.{List, [], ◌∷◌, ◌++◌, append_assoc}
use mathlib.Core.Path.{◌≡◌, refl, sym, ◌∙◌}
use lib.Dec.{eqb, ltb}
use lib.ListN.{length, get_or, take, drop, replicate, length-append, drop_of_length-le}
use lib.Seq.{sets, take_all, drop-cons}
use borrow.Author.Tests.{le-leb, lt-leb, ltb-true}
use Rattle.picture.specs.declared.Data.{Data}
use Rattle.lists.specs.Padded.{padded, length_padded, lengthen}
use Rattle.picture.specs.Writing.{item_text, runs, encode, text_of, data_written}
use Rattle.picture.specs.WriteLaws.{item_length}

pub nothing_written : (columns : List ℕ) → length columns ≡ 0 → ◌≡◌ {A = Data} (record { len = 0; bytes = replicate 192 0 }) (data_written columns)
unfolding padded
nothing_written [] h = refl
nothing_written (column ∷ rest) h = absurd (omega arith)

pub too_many : (columns : List ℕ) → 96 < length columns → ◌≡◌ {A = Data} (record { len = 0; bytes = replicate 192 0 }) (data_written columns)
unfolding padded
too_many columns h = rw (lt-leb (length columns) 96 h)

-- the loop at i, behind the first column: these items are written, count columns of one value are open
pub record Encoding (columns rest text : List ℕ) (used column count i : ℕ) : Type 0 where
  pub written : List ℕ
  pub holds : text ≡ padded 192 written
  pub counts : used ≡ length written
  pub least : 1 ≤ count
  pub most : count ≤ 26
  pub room : used + 2 * count ≤ 2 * (i + 1)
  pub within : i < length columns
  pub whole : length columns ≡ length rest + 1
  pub to_come : encode columns ≡ written ++ runs column count (drop i rest)

pub opens : (columns : List ℕ) → 1 ≤ length columns → Encoding columns (take (length columns - 1) (drop 1 columns)) (replicate 192 0) 0 (get_or columns 0 0) 1 0
unfolding padded
opens [] h = absurd (omega arith)
opens (column ∷ rest) h = rw (take_all (length (column ∷ rest) - 1) rest (omega arith)) record { written = []; holds = refl; counts = refl; least = omega arith; most = omega arith; room = omega arith; within = omega arith; whole = omega arith; to_come = refl }

test_holds : (next column n : ℕ) → (eqb next column && ltb n 26) ≡ true → n < 26
test_holds next column n = cases (eqb next column) (ltb n 26) refl
  where
    cases : (same below : Bool) → ltb n 26 ≡ below → (same && below) ≡ true → n < 26
    cases true true e h = ltb-true n 26 e
    cases true false e h = let z : ◌≡◌ {A = ℕ} 0 1 = cc in absurd (omega arith)
    cases false below e h = let z : ◌≡◌ {A = ℕ} 0 1 = cc in absurd (omega arith)

module _ {columns rest text : List ℕ} {used column count i : ℕ} (e : Encoding columns rest text used column count i) where
  pub one_more : i < length rest → (eqb (get_or rest i 0) column && ltb count 26) ≡ true → Encoding columns rest text used column (count + 1) (i + 1)
  one_more h t =
      record {
        written = e.written;
        holds = e.holds;
        counts = e.counts;
        least = omega arith;
        most = omega (arith, test_holds (get_or rest i 0) column count t);
        room = omega (arith, e.room);
        within = omega (arith, e.whole);
        whole = e.whole;
        to_come = rw (add-one i, add-one count) (rw (drop-cons rest i 0 h, t) at e.to_come);
      }

  item_fits : length columns ≤ 96 → length e.written + length (item_text count column) ≤ 192
  item_fits h = omega (arith, e.counts, e.room, e.within, item_length count column e.least)

  pub next_item : length columns ≤ 96 → i < length rest → (eqb (get_or rest i 0) column && ltb count 26) ≡ false
      → Encoding columns rest (sets text used (item_text count column)) (used + length (item_text count column)) (get_or rest i 0) 1 (i + 1)
  next_item m h t =
      record {
        written = e.written ++ item_text count column;
        holds = rw (e.holds, e.counts) (lengthen 192 e.written (item_text count column) (item_fits m));
        counts = rw (length-append e.written (item_text count column)) (omega (arith, e.counts));
        least = omega arith;
        most = omega arith;
        room = omega (arith, e.room, item_length count column e.least);
        within = omega (arith, e.whole);
        whole = e.whole;
        to_come = rw (add-one i) (rw (drop-cons rest i 0 h, t) at e.to_come ∙ sym (append_assoc e.written (item_text count column) (runs (get_or rest i 0) 1 (drop (suc i) rest))));
      }

  -- what an item needs, to be put in
  pub put : length columns ≤ 96 → (1 ≤ count) × (count ≤ 26) × (used + 2 * count ≤ 192) × (length text ≡ 192)
  put m = (e.least, e.most, omega (arith, e.room, e.within), rw e.holds (length_padded 192 e.written (omega (arith, e.counts, e.room, e.within))))

  all_written : length columns ≤ 96 → length rest ≤ i → text_of columns ≡ e.written ++ item_text count column
  all_written m h = rw (le-leb (length columns) 96 m) (rw (drop_of_length-le rest h) at e.to_come)

  pub closes : {end : ℕ} {after : List ℕ} → length columns ≤ 96 → length rest ≤ i → end ≡ used + length (item_text count column) → after ≡ sets text used (item_text count column)
      → ◌≡◌ {A = Data} (record { len = end; bytes = after }) (data_written columns)
  closes m h ends stored =
      let l : length (e.written ++ item_text count column) ≡ used + length (item_text count column) = rw (length-append e.written (item_text count column)) (omega (arith, e.counts)) in
      rw (ends, stored, all_written m h, l, e.holds, e.counts, lengthen 192 e.written (item_text count column) (item_fits m))
