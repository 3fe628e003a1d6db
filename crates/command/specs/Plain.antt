-- A frame that spells an order holds neither ESC nor CR, and at most 197 bytes: so it is no frame that is cut or overlong.
-- Assumes nothing.
use Rattle.std.specs.Prelude.{ℕ, ◌+◌, ◌*◌, ◌≤◌, Bool, true, ◌&&◌, List, [], ◌∷◌, ◌++◌, ◌≡◌, refl, leb, length}
use Prim.Native.Char.{code}
use Rattle.std.proofs.Common.{arith, length-append, leb-true, ne_eqb}
use Rattle.std.proofs.lemmas.List.{length-replicate}
use Rattle.lists.specs.Codes.{escape, carriage_return, blank}
use Rattle.lists.specs.Both.{both, and_both}
use Rattle.lists.specs.Every.{every}
use Rattle.record.specs.Range.{is_code, is_frame_byte}
use Rattle.numeral.specs.Spelt.{digit_code}
use Rattle.numeral.specs.Numeral.{is_digit}
use Rattle.numeral.specs.Laws.{digits_only, one_to_three}
use Rattle.picture.specs.Data.{Digit, decimal, letter, Item, single, several, Items}
use Rattle.picture.specs.Data as told
use Rattle.command.specs.Order.{Order, plain, label, draw}
use Rattle.command.specs.Grammar.{Piece, sign, number, digit, text, columns, Matches, end, signs, digits, one_digit, codes, data_of, form, Spells}
use Rattle.command.specs.declared.Command.{Command}
use Rattle.command.specs.First.{kinds, kind}
use Rattle.frame_table.specs.Kinds.{alike}
use Rattle.command.specs.declared.Side.TheVariants.{Left, Right}

-- codes that are neither ESC nor CR, and at most so many
pub record Within (n : ℕ) (bytes : List ℕ) : Type 0 where
  pub plain : every is_frame_byte bytes ≡ true
  pub most : length bytes ≤ n

high : (b : ℕ) → blank ≤ b → is_frame_byte b ≡ true
high b h = rw (ne_eqb b escape (λ e. omega arith), ne_eqb b carriage_return (λ e. omega arith))

-- a test of every element holds of the first and of the others
pub first_and_others : (test : ℕ → Bool) (x : ℕ) (s : List ℕ) → every test (x ∷ s) ≡ true → (test x ≡ true) × (every test s ≡ true)
first_and_others test x s h = both {a = test x} {b = every test s} h

every_append : (test : ℕ → Bool) (s t : List ℕ) → every test s ≡ true → every test t ≡ true → every test (s ++ t) ≡ true
every_append test [] t g h = h
every_append test (x ∷ s) t g h =
    let w = first_and_others test x s g in
    and_both {a = test x} {b = every test (s ++ t)} w.0 (every_append test s t w.1 h)

-- a test that asks no less
every_more : (test weaker : ℕ → Bool) → ((b : ℕ) → test b ≡ true → weaker b ≡ true) → (s : List ℕ) → every test s ≡ true → every weaker s ≡ true
every_more test weaker w [] h = refl
every_more test weaker w (x ∷ s) h =
    let v = first_and_others test x s h in
    and_both {a = weaker x} {b = every weaker s} (w x v.0) (every_more test weaker w s v.1)

joined : {m n : ℕ} {s t : List ℕ} → Within m s → Within n t → Within (m + n) (s ++ t)
joined {s = s} {t = t} p q = record { plain = every_append is_frame_byte s t p.plain q.plain; most = rw (length-append s t) (omega (arith, p.most, q.most)) }

wider : {m n : ℕ} {s : List ℕ} → m ≤ n → Within m s → Within n s
wider h p = record { plain = p.plain; most = omega (arith, p.most) }

-- the data of a picture
hex_digit : {x c : ℕ} → Digit x c → is_frame_byte c ≡ true
hex_digit (decimal {x} h) = high (code "0" + x) (omega arith)
hex_digit (letter {x} h) = high (code "A" + x) (omega arith)

item_within : {s xs : List ℕ} → Item s xs → Within (2 * length xs) s
item_within (single p q) = record { plain = and_both (hex_digit p) (and_both (hex_digit q) refl); most = omega arith }
item_within (several {k} {x} {y} h p q) =
    record {
      plain = and_both (high (code "a" + k) (omega arith)) (and_both (hex_digit p) (and_both (hex_digit q) refl));
      most = rw (length-replicate (2 + k) (x * 16 + y)) (omega arith);
    }

items_within : {s xs : List ℕ} → Items s xs → Within (2 * length xs) s
items_within told.none = record { plain = refl; most = omega arith }
items_within (told.more {xs = xs} {ys = ys} i rest) = wider (rw (length-append xs ys) (omega arith)) (joined (item_within i) (items_within rest))

-- how many codes a piece has at most, and whether its signs are plain
abbrev pub size : Piece → ℕ
size (sign s) = length s
size (number r n) = 3
size (digit r n) = 1
size (text t) = 7
size (columns cs) = 192

abbrev pub signs_plain : Piece → Bool
signs_plain (sign s) = every is_frame_byte s
signs_plain (number r n) = true
signs_plain (digit r n) = true
signs_plain (text t) = true
signs_plain (columns cs) = true

abbrev pub sizes : List Piece → ℕ
sizes [] = 0
sizes (p ∷ ps) = size p + sizes ps

abbrev pub all_plain : List Piece → Bool
all_plain [] = true
all_plain (p ∷ ps) = signs_plain p && all_plain ps

is_digit_lem : (b : ℕ) → is_digit b ≡ true → is_frame_byte b ≡ true
is_digit_lem b h = high b (omega (arith, leb-true (code "0") b (both h).0))

is_code_lem : (b : ℕ) → is_code b ≡ true → is_frame_byte b ≡ true
is_code_lem b h = high b (leb-true blank b h)

matches_within : {ps : List Piece} {f : List ℕ} → Matches ps f → all_plain ps ≡ true → Within (sizes ps) f
matches_within end h = record { plain = refl; most = omega arith }
matches_within (signs s {ps} rest) h =
    let w = both {a = every is_frame_byte s} {b = all_plain ps} h in
    joined {m = length s} {s = s} (record { plain = w.0; most = omega arith }) (matches_within rest w.1)
matches_within (digits {d = d} s rest) h = joined {m = 3} {s = d} (record { plain = every_more is_digit is_frame_byte is_digit_lem d (digits_only s); most = (one_to_three s).1 }) (matches_within rest h)
matches_within (one_digit {n} l rest) h = joined {m = 1} {s = digit_code n ∷ []} (record { plain = and_both (high (digit_code n) (omega arith)) refl; most = omega arith }) (matches_within rest h)
matches_within (codes {t} l e rest) h = joined {m = 7} {s = t} (record { plain = every_more is_code is_frame_byte is_code_lem t e; most = l }) (matches_within rest h)
matches_within (data_of {d = s} d rest) h = joined {m = 192} {s = s} (wider (omega (arith, d.most)) (items_within d.items)) (matches_within rest h)

-- the table's signs and sizes, computed for each kind of command with any numbers
abbrev pub short : List Piece → Bool
short ps = all_plain ps && leb (sizes ps) 197

form_short : (order : Order) → short (form order) ≡ true
form_short (plain c) = alike kinds (λ (x : Command). short (form (plain x))) (λ (x : Command). true) (λ m n. refl) (kind c)
form_short (label Left t) = refl
form_short (label Right t) = refl
form_short (draw row cs) = refl

pub short_within : (ps : List Piece) {f : List ℕ} → short ps ≡ true → Matches ps f → Within 197 f
short_within ps h s =
    let w = both {a = all_plain ps} h in
    wider (leb-true (sizes ps) 197 w.1) (matches_within s w.0)

-- Whatever spells an order holds neither ESC nor CR, and at most 197 bytes.
pub spells_within : (order : Order) {frame : List ℕ} → Spells order frame → Within 197 frame
spells_within order s = short_within (form order) (form_short order) s
