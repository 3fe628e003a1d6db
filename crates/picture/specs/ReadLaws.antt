-- The reader's definition takes exactly the data that document 01 tells of. Assumes nothing.
use Rattle.std.specs.Prelude.{ℕ, zero, suc, ◌+◌, ◌-◌, ◌*◌, ◌<◌, ◌≤◌, Bool, true, false, cond, ◌&&◌, ◌||◌, List, [], ◌∷◌, ◌++◌, ◌≡◌, refl, leb, length, take, replicate, Option, Some, None, option_and_then, option_map, MatchOption}
use Prim.Native.Char.{code}
use Rattle.std.proofs.Common.{arith, sym, ◌∙◌, ap, subst, length-append, le-leb, leb-true}
use Rattle.std.proofs.lemmas.List.{length-replicate}
use Rattle.std.proofs.lemmas.Bool.{lt-leb}
use Rattle.lists.specs.Every.{every}
use Rattle.picture.specs.Data.{Digit, decimal, letter, Item, single, several, Items, Draws, Bytes}
use Rattle.picture.specs.Data as told
use Rattle.lists.specs.Padded.{held}
use Rattle.picture.specs.Reading.{is_decimal, is_capital, is_letter, hex_of, times_of, onto, repeated, drawn, items, few, columns_of, columns_found, columns_read}

-- a digit has its value and is no letter a to y
record Read (x c : ℕ) : Type 0 where
  value : hex_of c ≡ Some x
  low : x ≤ 15
  plain : is_letter c ≡ false

read_digit : {x c : ℕ} → Digit x c → Read x c
unfolding hex_of
read_digit (decimal {x} h) =
    record {
      value = rw (le-leb (code "0") (code "0" + x) (omega arith), le-leb (code "0" + x) (code "9") (omega arith)) (ap Some (omega arith));
      low = omega arith;
      plain = rw (lt-leb (code "a") (code "0" + x) (omega arith));
    }
read_digit (letter {x} h) =
    record {
      value = rw (le-leb (code "0") (code "A" + x) (omega arith), lt-leb (code "A" + x) (code "9") (omega arith), le-leb (code "A") (code "A" + x) (omega arith), le-leb (code "A" + x) (code "F") (omega arith)) (ap Some (omega arith));
      low = omega arith;
      plain = rw (lt-leb (code "a") (code "A" + x) (omega arith));
    }

read_letter : (k : ℕ) → k < 25 → (is_letter (code "a" + k) ≡ true) × (times_of (code "a" + k) ≡ 2 + k)
unfolding times_of
read_letter k h =
    let e = le-leb (code "a") (code "a" + k) (omega arith) in
    let f = le-leb (code "a" + k) (code "y") (omega arith) in
    (rw (e, f), rw (e, f) (omega arith))

-- two digits are drawn
draw_pair : {x y a b : ℕ} (n : ℕ) (rest : Option (List ℕ)) → Digit x a → Digit y b → drawn n a b rest ≡ onto (replicate n (x * 16 + y)) rest
draw_pair {x} {y} {a} {b} n rest p q =
    let r = read_digit p in
    let s = read_digit q in
    rw (r.value, s.value)

-- an item is drawn, and then what follows it
draw_item : {s xs : List ℕ} (t : List ℕ) → Item s xs → items (s ++ t) ≡ onto xs (items t)
unfolding items
draw_item [] (single p q) = draw_pair 1 (Some []) p q
draw_item (c ∷ t) (single p q) = rw (read_digit p).plain (draw_pair 1 (items (c ∷ t)) p q)
draw_item t (several {k} h p q) = rw ((read_letter k h).0, (read_letter k h).1) (draw_pair (2 + k) (items t) p q)

draw_items : {codes columns : List ℕ} → Items codes columns → items codes ≡ Some columns
unfolding items
draw_items told.none = refl
draw_items (told.more {t = t} {xs = xs} i rest) = draw_item t i ∙ ap (onto xs) (draw_items rest)

-- Data that draws columns is read as them.
pub complete : {codes columns : List ℕ} → Draws codes columns → columns_of codes ≡ columns
unfolding columns_of
complete {codes} {columns} d = rw (draw_items d.items, le-leb (length columns) 96 d.most)

-- what a code says as a digit: it is the digit of that value
abbrev Counts : ℕ → Option ℕ → Type 0
Counts c None = Unit {0}
Counts c (Some x) = Digit x c

digit_read : (c : ℕ) → Counts c (hex_of c)
unfolding hex_of
digit_read c = cases (leb (code "0") c) (leb c (code "9")) (leb (code "A") c) (leb c (code "F")) refl refl refl refl
  where
    digit_by : {x y c d : ℕ} → x ≡ y → c ≡ d → Digit y d → Digit x c
    digit_by e f g = rw (e, f) g

    capital : leb (code "A") c ≡ true → leb c (code "F") ≡ true → Digit (c - code "A" + 10) c
    capital g h =
        digit_by {y = 10 + (c - code "A")} {d = code "A" + (c - code "A")} (omega arith) (omega (arith, leb-true (code "A") c g)) (letter (omega (arith, leb-true (code "A") c g, leb-true c (code "F") h)))

    cases : (p q r s : Bool) → leb (code "0") c ≡ p → leb c (code "9") ≡ q → leb (code "A") c ≡ r → leb c (code "F") ≡ s
        → Counts c (cond (p && q) (Some (c - code "0")) (cond (r && s) (Some (c - code "A" + 10)) None))
    cases true true r s e f g h =
        digit_by {y = c - code "0"} {d = code "0" + (c - code "0")} refl (omega (arith, leb-true (code "0") c e)) (decimal (omega (arith, leb-true (code "0") c e, leb-true c (code "9") f)))
    cases true false true true e f g h = capital g h
    cases true false true false e f g h = tt
    cases true false false s e f g h = tt
    cases false q true true e f g h = capital g h
    cases false q true false e f g h = tt
    cases false q false s e f g h = tt

-- what a reading says of the codes: they are items that give the columns
abbrev Said : List ℕ → Option (List ℕ) → Type 0
Said codes None = Unit {0}
Said codes (Some columns) = Items codes columns

-- two digits that are drawn are an item before what follows them
said_pair : (n a b : ℕ) (codes t : List ℕ) (rest : Option (List ℕ))
    → ((x y : ℕ) (ys : List ℕ) → Digit x a → Digit y b → Items t ys → Items codes (replicate n (x * 16 + y) ++ ys))
    → Said t rest → Said codes (drawn n a b rest)
said_pair n a b codes t rest item said = cases (hex_of a) (hex_of b) (digit_read a) (digit_read b) rest said
  where
    cases : (u v : Option ℕ) → Counts a u → Counts b v → (rest : Option (List ℕ)) → Said t rest
        → Said codes (repeated n (option_and_then (λ x. option_map (λ y. x * 16 + y) v) u) rest)
    cases None v p q rest s = tt
    cases (Some x) None p q rest s = tt
    cases (Some x) (Some y) p q None s = tt
    cases (Some x) (Some y) p q (Some ys) s = item x y ys p q s

letter_read : (a : ℕ) → is_letter a ≡ true → (a ≡ code "a" + (a - code "a")) × (a - code "a" < 25) × (times_of a ≡ 2 + (a - code "a"))
unfolding times_of
letter_read a = cases (leb (code "a") a) (leb a (code "y")) refl refl
  where
    cases : (p q : Bool) → leb (code "a") a ≡ p → leb a (code "y") ≡ q → (p && q) ≡ true
        → (a ≡ code "a" + (a - code "a")) × (a - code "a" < 25) × (cond (p && q) (a - code "a" + 2) 1 ≡ 2 + (a - code "a"))
    cases true true e f h =
        let l = leb-true (code "a") a e in
        let u = leb-true a (code "y") f in
        (omega arith, omega arith, omega arith)
    cases true false e f h = let z : ◌≡◌ {A = ℕ} 0 1 = cc in absurd (omega arith)
    cases false q e f h = let z : ◌≡◌ {A = ℕ} 0 1 = cc in absurd (omega arith)

lettered : {n k a b c x y : ℕ} {t ys : List ℕ} → a ≡ code "a" + k → k < 25 → n ≡ 2 + k
    → Digit x b → Digit y c → Items t ys → Items (a ∷ b ∷ c ∷ t) (replicate n (x * 16 + y) ++ ys)
lettered e h f p q s = rw (f, e) (told.more (several h p q) s)

said : (codes : List ℕ) → Said codes (items codes)
unfolding items
said [] = told.none
said (a ∷ []) = tt
said (a ∷ b ∷ []) = said_pair 1 a b (a ∷ b ∷ []) [] (Some []) (λ x y ys p q s. told.more (single p q) s) told.none
said (a ∷ b ∷ c ∷ more) = cases (is_letter a) refl (said more) (said (c ∷ more))
  where
    cases : (l : Bool) → is_letter a ≡ l → Said more (items more) → Said (c ∷ more) (items (c ∷ more))
        → Said (a ∷ b ∷ c ∷ more) (cond l (drawn (times_of a) b c (items more)) (drawn 1 a b (items (c ∷ more))))
    cases true e s t =
        let r = letter_read a e in
        said_pair (times_of a) b c (a ∷ b ∷ c ∷ more) more (items more) (λ x y ys p q i. lettered r.0 r.1 r.2 p q i) s
    cases false e s t = said_pair 1 a b (a ∷ b ∷ c ∷ more) (c ∷ more) (items (c ∷ more)) (λ x y ys p q i. told.more (single p q) i) t

-- Columns that are read were drawn by data.
pub sound : {columns : List ℕ} (codes : List ℕ) → columns_of codes ≡ columns → 1 ≤ length columns → Draws codes columns
unfolding columns_of
sound {columns} codes = cases (items codes) (said codes)
  where
    fits : (read : List ℕ) (few : Bool) → leb (length read) 96 ≡ few → Items codes read → cond few read [] ≡ columns → 1 ≤ length columns → Draws codes columns
    fits read true f s e h = subst (Draws codes) e (record { items = s; least = rw e h; most = leb-true (length read) 96 f })
    fits read false f s e h = absurd (omega (arith, ap length e))

    cases : (read : Option (List ℕ)) → Said codes read → few read ≡ columns → 1 ≤ length columns → Draws codes columns
    cases None s e h = absurd (omega (arith, ap length e))
    cases (Some read) s e h = fits read (leb (length read) 96) refl s e h

-- Data draws one list of columns.
pub one_drawing : {codes xs ys : List ℕ} → Draws codes xs → Draws codes ys → xs ≡ ys
one_drawing p q = sym (complete p) ∙ complete q

-- The places that are used hold the columns, and nothing is read where no columns are drawn.
pub held_columns : (codes : List ℕ) → MatchOption (columns_read codes) (columns_of codes ≡ []) (λ read. take read.len read.bytes ≡ columns_of codes)
held_columns codes = cases (columns_of codes)
  where
    cases : (columns : List ℕ) → MatchOption (columns_found columns) (columns ≡ []) (λ read. take read.len read.bytes ≡ columns)
    cases [] = refl
    cases (column ∷ more) = held 96 (column ∷ more)

-- Data never takes more than two codes a column.
item_size : {s xs : List ℕ} → Item s xs → length s ≤ 2 * length xs
item_size (single p q) = omega arith
item_size (several {k} {x} {y} h p q) = omega (arith, length-replicate (2 + k) (x * 16 + y))

pub two_codes_a_column : {codes columns : List ℕ} → Items codes columns → length codes ≤ 2 * length columns
two_codes_a_column told.none = omega arith
two_codes_a_column (told.more {s} {t} {xs} {ys} i rest) =
    rw (length-append s t, length-append xs ys) (omega (arith, item_size i, two_codes_a_column rest))

-- a code of data: 0-9, A-F or a to y
abbrev pub is_data_code : ℕ → Bool
is_data_code c = is_decimal c || is_capital c || is_letter c

digit_code : {x c : ℕ} → Digit x c → is_data_code c ≡ true
digit_code (decimal {x} h) = rw (le-leb (code "0") (code "0" + x) (omega arith), le-leb (code "0" + x) (code "9") (omega arith))
digit_code (letter {x} h) =
    rw (le-leb (code "0") (code "A" + x) (omega arith), lt-leb (code "A" + x) (code "9") (omega arith), le-leb (code "A") (code "A" + x) (omega arith), le-leb (code "A" + x) (code "F") (omega arith))

letter_code : (k : ℕ) → k < 25 → is_data_code (code "a" + k) ≡ true
letter_code k h =
    rw (le-leb (code "0") (code "a" + k) (omega arith), lt-leb (code "a" + k) (code "9") (omega arith), le-leb (code "A") (code "a" + k) (omega arith), lt-leb (code "a" + k) (code "F") (omega arith), le-leb (code "a") (code "a" + k) (omega arith), le-leb (code "a" + k) (code "y") (omega arith))

-- All codes of data are such: no ESC, CR, comma or z is among them.
pub data_codes_only : {codes columns : List ℕ} → Items codes columns → every is_data_code codes ≡ true
data_codes_only told.none = refl
data_codes_only (told.more (single p q) rest) = rw (digit_code p, digit_code q) (data_codes_only rest)
data_codes_only (told.more (several {k} h p q) rest) = rw (letter_code k h, digit_code p, digit_code q) (data_codes_only rest)

run_bytes : (n v : ℕ) (ys : List ℕ) → v < 256 → Bytes ys → Bytes (replicate n v ++ ys)
run_bytes zero v ys h b i = b i
run_bytes (suc n) v ys h b zero = h
run_bytes (suc n) v ys h b (suc i) = run_bytes n v ys h b i

-- A column is 0 to 255.
pub columns_are_bytes : {codes columns : List ℕ} → Items codes columns → Bytes columns
columns_are_bytes told.none i = omega arith
columns_are_bytes (told.more {ys = ys} (single {x} {y} p q) rest) i =
    let r = read_digit p in
    let s = read_digit q in
    run_bytes 1 (x * 16 + y) ys (omega arith) (λ k. columns_are_bytes rest k) i
columns_are_bytes (told.more {ys = ys} (several {k} {x} {y} h p q) rest) i =
    let r = read_digit p in
    let s = read_digit q in
    run_bytes (2 + k) (x * 16 + y) ys (omega arith) (λ k. columns_are_bytes rest k) i
