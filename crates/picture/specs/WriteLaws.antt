-- What is written is data that draws the same columns, cut as document 01 asks. Assumes nothing.
use Rattle.std.specs.Prelude.{ℕ, zero, suc, ◌+◌, ◌-◌, ◌*◌, ◌/◌, ◌%◌, ◌<◌, ◌≤◌, Bool, true, false, cond, ◌&&◌, List, [], ◌∷◌, ◌++◌, ◌≡◌, refl, eqb, ltb, leb, length, take, replicate}
use Prim.Native.Char.{code}
use Rattle.std.proofs.Common.{arith, append-nil, sym, ◌∙◌, ap, subst, length-append, eqb-true, eq-eqb, ne_eqb, lt-ltb, le-leb, leb-true, ltb-true, ltb-false}
use Rattle.std.proofs.lemmas.List.{length-replicate}
use Rattle.std.proofs.lemmas.Bool.{eqb-false}
use Rattle.picture.specs.Data.{Digit, decimal, letter, Item, single, several, Items, Draws, Bytes}
use Rattle.picture.specs.Data as told
use Rattle.lists.specs.Padded.{held}
use Rattle.picture.specs.Reading.{columns_of}
use Rattle.picture.specs.ReadLaws.{complete}
use Rattle.picture.specs.Writing.{hex_code, item_text, runs, encode, Cut, last, full, differs, text_of, data_written}

pub item_length : (n column : ℕ) → 1 ≤ n → length (item_text n column) ≤ 2 * n
unfolding item_text
item_length n column h = cases (eqb n 1) refl
  where
    cases : (single : Bool) → eqb n 1 ≡ single
        → length (cond single (hex_code (column / 16) ∷ hex_code (column % 16) ∷ []) ((code "a" + (n - 2)) ∷ hex_code (column / 16) ∷ hex_code (column % 16) ∷ [])) ≤ 2 * n
    cases true e = omega (arith, eqb-true n 1 e)
    cases false e = several (eqb-false n 1 e)
      where
        several : (n ≡ 1 → ⊥) → 3 ≤ 2 * n
        several d = omega arith

digit_written : (x : ℕ) → x < 16 → Digit x (hex_code x)
unfolding hex_code
digit_written x h = cases (ltb x 10) refl
  where
    cases : (low : Bool) → ltb x 10 ≡ low → Digit x (cond low (code "0" + x) (code "A" + (x - 10)))
    cases true e = decimal (ltb-true x 10 e)
    cases false e =
        let l = ltb-false x 10 e in
        subst (λ (k : ℕ). Digit k (code "A" + (x - 10))) (omega arith) (letter {x = x - 10} (omega arith))

item_by : {s xs ys : List ℕ} → xs ≡ ys → Item s xs → Item s ys
item_by {s} e i = subst (Item s) e i

item_written : (n column : ℕ) → 1 ≤ n → n ≤ 26 → column < 256 → Item (item_text n column) (replicate n column)
unfolding item_text
item_written n column g h b = cases (eqb n 1) refl
  where
    high : Digit (column / 16) (hex_code (column / 16))
    high = digit_written (column / 16) (omega arith)

    low : Digit (column % 16) (hex_code (column % 16))
    low = digit_written (column % 16) (omega arith)

    whole : column / 16 * 16 + column % 16 ≡ column
    whole = omega arith

    cases : (one : Bool) → eqb n 1 ≡ one
        → Item (cond one (hex_code (column / 16) ∷ hex_code (column % 16) ∷ []) ((code "a" + (n - 2)) ∷ hex_code (column / 16) ∷ hex_code (column % 16) ∷ [])) (replicate n column)
    cases true e = item_by (rw (whole, eqb-true n 1 e)) (single high low)
    cases false e =
        let d = eqb-false n 1 e in
        let k : 2 + (n - 2) ≡ n = omega arith in
        item_by (rw (k, whole)) (several {k = n - 2} (omega arith) high low)

run_grows : (n column : ℕ) (rest : List ℕ) → replicate (suc n) column ++ rest ≡ replicate n column ++ column ∷ rest
run_grows zero column rest = refl
run_grows (suc n) column rest = ap (λ (t : List ℕ). column ∷ t) (run_grows n column rest)

cut_runs : (rest : List ℕ) (column n : ℕ) → 1 ≤ n → n ≤ 26 → Cut (replicate n column ++ rest) (runs column n rest)
cut_runs [] column n g h = rw (append-nil (replicate n column)) (last n column g h)
cut_runs (next ∷ rest) column n g h = cases (eqb next column) (ltb n 26) refl refl (cut_runs rest)
  where
    cases : (same below : Bool) → eqb next column ≡ same → ltb n 26 ≡ below
        → ((v m : ℕ) → 1 ≤ m → m ≤ 26 → Cut (replicate m v ++ rest) (runs v m rest))
        → Cut (replicate n column ++ next ∷ rest) (cond (same && below) (runs column (suc n) rest) (item_text n column ++ runs next 1 rest))
    cases true true e f others =
        rw (eqb-true next column e, ← run_grows n column rest) (others column (suc n) (omega arith) (omega (arith, ltb-true n 26 f)))
    cases true false e f others =
        let k : n ≡ 26 = omega (arith, ltb-false n 26 f) in
        rw (eqb-true next column e, k) (full (others column 1 (omega arith) (omega arith)))
    cases false below e f others = differs n column g h (eqb-false next column e) (others next 1 (omega arith) (omega arith))

-- What is written is cut as document 01 asks,
pub cut : (column : ℕ) (rest : List ℕ) → Cut (column ∷ rest) (encode (column ∷ rest))
cut column rest = cut_runs rest column 1 (omega arith) (omega arith)

through : (m column n : ℕ) (rest : List ℕ) → n + m ≤ 26 → runs column n (replicate m column ++ rest) ≡ runs column (n + m) rest
through zero column n rest h = let e : n + 0 ≡ n = omega arith in rw e
through (suc m) column n rest h =
    let e : n + suc m ≡ suc n + m = omega arith in
    rw (eq-eqb column column refl, lt-ltb n 26 (omega arith), e) (through m column (suc n) rest (omega arith))

encode_run : (n column : ℕ) (rest : List ℕ) → 1 ≤ n → n ≤ 26 → encode (replicate n column ++ rest) ≡ runs column n rest
encode_run zero column rest g h = absurd (omega arith)
encode_run (suc m) column rest g h =
    let e : 1 + m ≡ suc m = omega arith in
    through m column 1 rest (omega arith) ∙ rw e

-- and nothing else is cut so.
pub cut_once : {columns text : List ℕ} → Cut columns text → text ≡ encode columns
cut_once (last n column g h) = sym (ap encode (sym (append-nil (replicate n column))) ∙ encode_run n column [] g h)
cut_once (full {column} {rest} c) =
    ap (λ (t : List ℕ). item_text 26 column ++ t) (cut_once c)
    ∙ sym (encode_run 26 column (column ∷ rest) (omega arith) (omega arith) ∙ rw (eq-eqb column column refl))
cut_once (differs n column {next} {rest} g h d c) =
    ap (λ (t : List ℕ). item_text n column ++ t) (cut_once c)
    ∙ sym (encode_run n column (next ∷ rest) g h ∙ rw (ne_eqb next column d))

run_head : (n column : ℕ) (rest : List ℕ) → 1 ≤ n → Bytes (replicate n column ++ rest) → column < 256
run_head zero column rest g b = absurd (omega arith)
run_head (suc n) column rest g b = b 0

run_rest : (n column : ℕ) (rest : List ℕ) → Bytes (replicate n column ++ rest) → Bytes rest
run_rest zero column rest b i = b i
run_rest (suc n) column rest b i = run_rest n column rest (λ k. b (suc k)) i

cut_item : (n column : ℕ) (rest : List ℕ) → 1 ≤ n → n ≤ 26 → Bytes (replicate n column ++ rest) → Item (item_text n column) (replicate n column)
cut_item n column rest g h b = item_written n column g h (run_head n column rest g b)

items_cut : {columns text : List ℕ} → Cut columns text → Bytes columns → Items text columns
items_cut (last n column g h) b =
    let b' : Bytes (replicate n column ++ []) = rw (append-nil (replicate n column)) b in
    rw (append-nil (item_text n column), append-nil (replicate n column)) at (told.more (cut_item n column [] g h b') told.none)
items_cut (full {column} {rest} c) b =
    told.more (cut_item 26 column (column ∷ rest) (omega arith) (omega arith) b) (items_cut c (run_rest 26 column (column ∷ rest) b))
items_cut (differs n column {next} {rest} g h d c) b =
    told.more (cut_item n column (next ∷ rest) g h b) (items_cut c (run_rest n column (next ∷ rest) b))

-- What is written draws the columns,
pub draws_encoded : (columns : List ℕ) → 1 ≤ length columns → length columns ≤ 96 → Bytes columns → Draws (encode columns) columns
draws_encoded [] g h b = absurd (omega arith)
draws_encoded (column ∷ rest) g h b = record { items = items_cut (cut column rest) b; least = g; most = h }

-- and is read back as them.
pub read_back : (columns : List ℕ) → 1 ≤ length columns → length columns ≤ 96 → Bytes columns → columns_of (encode columns) ≡ columns
read_back columns g h b = complete (draws_encoded columns g h b)

size_cut : {columns text : List ℕ} → Cut columns text → length text ≤ 2 * length columns
size_cut (last n column g h) = rw (length-replicate n column) (item_length n column g)
size_cut (full {column} {rest} {text} c) =
    rw (length-append (item_text 26 column) text) (omega (arith, item_length 26 column (omega arith), size_cut c))
size_cut (differs n column {next} {rest} {text} g h d c) =
    rw (length-append (item_text n column) text, length-append (replicate n column) (next ∷ rest), length-replicate n column) (omega (arith, item_length n column g, size_cut c))

-- At most two codes a column are written.
pub encoded_size : (columns : List ℕ) → length (encode columns) ≤ 2 * length columns
encoded_size [] = omega arith
encoded_size (column ∷ rest) = size_cut (cut column rest)

-- The writer's text for at most 96 columns, and the places that hold it.
pub text_of_few : (columns : List ℕ) → length columns ≤ 96 → text_of columns ≡ encode columns
text_of_few columns h = rw (le-leb (length columns) 96 h)

-- Data fits its places, whatever the columns.
pub text_fits : (columns : List ℕ) → length (text_of columns) ≤ 192
text_fits columns = cases (leb (length columns) 96) refl
  where
    cases : (few : Bool) → leb (length columns) 96 ≡ few → length (cond few (encode columns) []) ≤ 192
    cases true e = omega (arith, encoded_size columns, leb-true (length columns) 96 e)
    cases false e = omega arith

pub held_text : (columns : List ℕ) → take (data_written columns).len (data_written columns).bytes ≡ text_of columns
held_text columns = held 192 (text_of columns)
