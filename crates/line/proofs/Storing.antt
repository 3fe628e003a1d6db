-- Codes that are stored one after the other, the digits of a number, and what a line holds at the front of a room. Assumes nothing.
use Prim.Native.Nat.{ℕ, suc, ◌+◌, ◌-◌, ◌<◌, ◌≤◌}
use native.Mathlib.Omega.{arith}
use native.Mathlib.Numerals.{add-one}
use mathlib.Core.Bool.{true}
use mathlib.Core.List.{List}
use mathlib.Core.Path.{◌≡◌, sym, ◌∙◌, ap}
use lib.Dec.{leb}
use lib.ListN.{length, take, drop, get_or, set, replicate, length-append, length-replicate, drop_of_length-le}
use lib.Seq.{sets, sets-eq, drop-cons, length-take-le}
use borrow.Author.Tests.{leb-true}
use Rattle.lists.specs.Both.{both}
use Rattle.numeral.specs.declared.Digits.{Digits}
use Rattle.numeral.specs.Numeral.{decimal, digits_of}
use Rattle.numeral.specs.Laws.{digit_count, held_digits}
use Rattle.line.specs.declared.Line.{Line}
use Rattle.line.specs.Lines.{most_codes, held, finds_room, room_with}

-- all codes are still to be stored
pub store_starts : (room : List ℕ) (at : ℕ) (codes : List ℕ) → sets room (at + 0) (drop 0 codes) ≡ sets room at codes
store_starts room at codes = let k : at + 0 ≡ at = omega arith in rw k

-- one code more is stored
pub store_on : (room : List ℕ) (at : ℕ) (codes : List ℕ) (i : ℕ) → i < length codes
    → sets (set room (at + i) (get_or codes i 0)) (at + (i + 1)) (drop (i + 1) codes) ≡ sets room (at + i) (drop i codes)
store_on room at codes i h =
    let k : at + (i + 1) ≡ suc (at + i) = omega arith in
    rw (k, add-one i) (sym (ap (sets room (at + i)) (drop-cons codes i 0 h)))

-- nothing is left to store
pub store_ends : (room : List ℕ) (at : ℕ) (codes : List ℕ) (i : ℕ) → length codes ≤ i → sets room at (drop i codes) ≡ room
store_ends room at codes i h = rw (drop_of_length-le codes {i = i} h)

-- the digits of a number: in their places, and at most three
pub digits_held : (n : ℕ) (d : Digits) → d ≡ digits_of n → (take d.len d.bytes ≡ decimal n) × (d.len ≤ 3) × (length d.bytes ≡ 3)
digits_held n d e =
    let size = (digit_count n).1 in (
      ap (λ (x : Digits). take x.len x.bytes) e ∙ held_digits n,
      rw e size,
      rw (e, length-append (decimal n) (replicate (3 - length (decimal n)) 0), length-replicate) (omega arith),
    )

-- a line that finds room there: its length is told, and stored at the front it leaves the rest of the room
module _ (line : Line) (room : List ℕ) (finds : finds_room line room ≡ true) where
  pub room_told : (line.len ≤ most_codes) × (line.len ≤ length room)
  unfolding finds_room
  room_told =
      let told = both {a = leb line.len most_codes} finds in
      (leb-true line.len most_codes told.0, leb-true line.len (length room) told.1)

  pub copied : length line.bytes ≡ most_codes → sets room 0 (held line) ≡ room_with line room
  unfolding room_with
  copied places =
      let size : length (held line) ≡ line.len = length-take-le line.len line.bytes (omega (arith, room_told)) in
      let end : 0 + length (held line) ≡ line.len = omega arith in
      sets-eq (held line) room 0 (omega (arith, room_told)) ∙ rw (end, finds)
