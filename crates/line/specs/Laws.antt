-- What a line holds when codes are added, one after the other, and when it is copied. Assumes nothing.
use Rattle.std.specs.Prelude.{ℕ, suc, ◌+◌, ◌<◌, ◌≤◌, cond, List, [], ◌∷◌, ◌++◌, ◌≡◌, leb, length, drop, set}
use Rattle.std.proofs.Common.{arith, ◌∙◌, ap, subst, length-append, take_at, length-take-le, le-leb}
use Rattle.std.proofs.lemmas.List.{length-replicate}
use Rattle.std.proofs.lemmas.List.Edits.{sets, sets-eq}
use Rattle.std.proofs.lemmas.Bool.{lt-leb}
use Rattle.lists.specs.Tests.{either_way}
use Rattle.numeral.specs.Numeral.{decimal}
use Rattle.numeral.specs.Laws.{digit_count}
use Rattle.line.specs.declared.Line.{Line}
use Rattle.line.specs.Lines.{most_codes, held, empty_line, added, finds_room, room_with}

-- Codes added --------------------------------------------------------------------------------------------------------

-- Codes that find room stand behind those that the line holds;
pub added_with_room : (line : Line) (codes : List ℕ) → line.len + length codes ≤ most_codes
    → added line codes ≡ record { len = line.len + length codes; bytes = sets line.bytes line.len codes }
unfolding added
added_with_room line codes h = rw (le-leb (line.len + length codes) most_codes h)

-- those that find none change nothing.
pub added_without_room : (line : Line) (codes : List ℕ) → most_codes < line.len + length codes → added line codes ≡ line
unfolding added
added_without_room line codes h = rw (lt-leb (line.len + length codes) most_codes h)

-- codes stored from a place on, and more behind them
sets_on : (bytes : List ℕ) (at : ℕ) (s t : List ℕ) → sets (sets bytes at s) (at + length s) t ≡ sets bytes at (s ++ t)
sets_on bytes at [] t = let e : at + 0 ≡ at = omega arith in rw e
sets_on bytes at (a ∷ s) t = let e : at + suc (length s) ≡ suc at + length s = omega arith in rw e (sets_on (set bytes at a) (suc at) s t)

-- Codes, and then more, are all of them at once.
pub added_on : (line : Line) (s t : List ℕ) → line.len + (length s + length t) ≤ most_codes → added (added line s) t ≡ added line (s ++ t)
added_on line s t h =
    let whole : line.len + length (s ++ t) ≤ most_codes = omega (arith, length-append s t) in
    let size : line.len + length s + length t ≡ line.len + length (s ++ t) = omega (arith, length-append s t) in
    rw (added_with_room line s (omega arith), added_with_room line (s ++ t) whole)
    (added_with_room (record { len = line.len + length s; bytes = sets line.bytes line.len s }) t (omega arith)
    ∙ rw (size, sets_on line.bytes line.len s t))

module _ (line : Line) (codes : List ℕ) (places : length line.bytes ≡ most_codes) (room : line.len + length codes ≤ most_codes) where
  -- The line then holds what it held, and then the codes.
  pub held_added : held (added line codes) ≡ held line ++ codes
  held_added =
      let front : length (held line) ≡ line.len = length-take-le line.len line.bytes (omega arith) in
      let size : length (held line ++ codes) ≡ line.len + length codes = omega (arith, length-append (held line) codes) in
      rw (added_with_room line codes room, sets-eq codes line.bytes line.len (omega arith))
      (take_at (held line ++ codes) (drop (line.len + length codes) line.bytes) (line.len + length codes) size)

  pub length_added : (added line codes).len ≡ line.len + length codes
  length_added = rw (added_with_room line codes room)

-- next is line with these codes added, which are at most so many
pub record Added (line : Line) (codes : List ℕ) (bound : ℕ) (next : Line) : Type 0 where
  pub same : next ≡ added line codes
  pub most : length codes ≤ bound
  pub longer : next.len ≤ line.len + bound

pub adding : {line next : Line} {codes : List ℕ} (bound : ℕ) → next ≡ added line codes → length codes ≤ bound → Added line codes bound next
unfolding added
adding {line} {next} {codes} bound e h = record { same = e; most = h; longer = rw e (either_way (λ (x : Line). x.len ≤ line.len + bound) (leb (line.len + length codes) most_codes) (λ _. omega arith) (λ _. omega arith)) }

pub adding_number : {line next : Line} (n : ℕ) → next ≡ added line (decimal n) → Added line (decimal n) 3 next
adding_number n e = adding 3 e (digit_count n).1

-- Codes after codes.
pub then : {line middle next : Line} {s t : List ℕ} {j k : ℕ} → Added line s j middle → Added middle t k next → line.len + (j + k) ≤ most_codes → Added line (s ++ t) (j + k) next
then {line} {middle} {next} {s} {t} {j} {k} p q h =
    adding (j + k) (q.same ∙ ap (λ (x : Line). added x t) p.same ∙ added_on line s t (omega (arith, p.most, q.most))) (omega (arith, length-append s t, p.most, q.most))

-- The same codes by another name, and a wider bound.
pub within : {line next : Line} {s t : List ℕ} {j : ℕ} (k : ℕ) → s ≡ t → j ≤ k → Added line s j next → Added line t k next
within {line} {next} {s} {t} k e h p = subst (λ (x : List ℕ). Added line x k next) e (adding k p.same (omega (arith, p.most)))

-- A line that began empty ---------------------------------------------------------------------------------------------

module _ (codes : List ℕ) (room : length codes ≤ most_codes) where
  pub held_from_empty : held (added empty_line codes) ≡ codes
  held_from_empty = held_added empty_line codes (length-replicate {A = ℕ} most_codes 0) (omega arith)

  pub length_from_empty : (added empty_line codes).len ≡ length codes
  length_from_empty = length_added empty_line codes (length-replicate {A = ℕ} most_codes 0) (omega arith) ∙ omega arith

-- Into a room -----------------------------------------------------------------------------------------------------------

-- A line whose length is one that it can have is copied where the room is as long as what it holds.
module _ (line : Line) (room : List ℕ) (places : length line.bytes ≡ most_codes) (few : line.len ≤ most_codes) where
  pub length_held : length (held line) ≡ line.len
  length_held = length-take-le line.len line.bytes (omega arith)

  pub finds_room_lem : finds_room line room ≡ leb (length (held line)) (length room)
  unfolding finds_room
  finds_room_lem = rw (le-leb line.len most_codes few, length_held)

  pub room_with_lem : room_with line room ≡ cond (leb (length (held line)) (length room)) (held line ++ drop (length (held line)) room) room
  unfolding room_with
  room_with_lem = rw (finds_room_lem, length_held)
