-- A line that is copied behind what is written, and one that finds no room there. Assumes nothing.
use Prim.Native.Nat.{ℕ, ◌+◌, ◌-◌, ◌<◌, ◌≤◌}
use native.Mathlib.Omega.{arith}
use mathlib.Core.Bool.{Bool, true, false}
use mathlib.Core.List.{List, [], ◌++◌, append-nil, append_assoc}
use mathlib.Core.Path.{◌≡◌, refl, sym, ◌∙◌, ap, subst}
use lib.Dec.{leb}
use lib.ListN.{length, take, drop, length-drop, drop_of_length-le}
use lib.Seq.{sets-eq, take_all, drop-drop}
use borrow.Author.Tests.{le-leb, lt-leb, leb-true, leb-false}
use borrow.Rule.Slice.PartMut.{mid_of, post_of, put_mid, put_same}
use Rattle.line.specs.declared.Line.{Line}
use Rattle.line.specs.Lines.{most_codes, held, empty_line, added, finds_room, room_with}
use Rattle.line.specs.Laws.{held_from_empty, length_held, finds_room_lem, room_with_lem}
use Rattle.answer.specs.Answers.{count_after, buffer_after}

-- a count and a buffer that are the right ones
abbrev pub Put : List ℕ → ℕ → List ℕ → ℕ → List ℕ → Type 0
Put buffer written bytes count after = (count ≡ count_after buffer written bytes) × (after ≡ buffer_after buffer written bytes)

pub no_room : (buffer : List ℕ) (written : ℕ) (bytes : List ℕ) → length buffer < written + length bytes → Put buffer written bytes written buffer
no_room buffer written bytes h = (rw (lt-leb (written + length bytes) (length buffer) h), rw (lt-leb (written + length bytes) (length buffer) h))

module _ (buffer : List ℕ) (written : ℕ) (h : written ≤ length buffer) where
  -- the part of the buffer that is lent, all that is behind what is written, and nothing behind that
  abbrev behind : List ℕ
  behind = mid_of written (length buffer - written) buffer

  behind_all : behind ≡ drop written buffer
  behind_all = take_all (length buffer - written) (drop written buffer) (omega (arith, length-drop written buffer))

  behind_length : length behind ≡ length buffer - written
  behind_length = rw behind_all (length-drop written buffer)

  nothing_more : post_of written (length buffer - written) buffer ≡ []
  nothing_more = drop_of_length-le (drop written buffer) {i = length buffer - written} (omega (arith, length-drop written buffer))

  -- codes at the front of that part are stored from there on
  in_front : (codes : List ℕ) → written + length codes ≤ length buffer
      → put_mid written (length buffer - written) buffer (codes ++ drop (length codes) behind) ≡ buffer_after buffer written codes
  in_front codes fits =
      rw (nothing_more, behind_all, append-nil (codes ++ drop (length codes) (drop written buffer)), drop-drop (length codes) written buffer, le-leb (written + length codes) (length buffer) fits)
      (sym (append_assoc (take written buffer) codes (drop (written + length codes) buffer)) ∙ sym (sets-eq codes buffer written fits))

  module _ (line : Line) (places : length line.bytes ≡ most_codes) (few : line.len ≤ most_codes) {found : Bool} {after : List ℕ}
      (finds : found ≡ finds_room line behind) (left : after ≡ room_with line behind) where
    told : found ≡ leb (length (held line)) (length behind)
    told = finds ∙ finds_room_lem line behind places few

    pub copied : found ≡ true → Put buffer written (held line) (written + line.len) (put_mid written (length buffer - written) buffer after)
    copied e =
        let room : leb (length (held line)) (length behind) ≡ true = sym told ∙ e in
        let fits : written + length (held line) ≤ length buffer = omega (arith, leb-true (length (held line)) (length behind) room, behind_length) in
        let stands : after ≡ held line ++ drop (length (held line)) behind = left ∙ room_with_lem line behind places few ∙ rw room in (
          rw (le-leb (written + length (held line)) (length buffer) fits) (omega (arith, length_held line behind places few)),
          rw stands (in_front (held line) fits),
        )

    pub not_copied : found ≡ false → Put buffer written (held line) written (put_mid written (length buffer - written) buffer after)
    not_copied e =
        let none : leb (length (held line)) (length behind) ≡ false = sym told ∙ e in
        let stays : after ≡ behind = left ∙ room_with_lem line behind places few ∙ rw none in
        let short : length buffer < written + length (held line) = omega (arith, leb-false (length (held line)) (length behind) none, behind_length) in
        rw (stays, put_same written (length buffer - written) buffer) (no_room buffer written (held line) short)

-- nothing added is an empty line still
pub nothing_added : empty_line ≡ added empty_line []
unfolding added
nothing_added = refl

-- a line that began empty holds what was added
pub answered : (buffer : List ℕ) (written : ℕ) (bytes : List ℕ) {line : Line} {count : ℕ} {after : List ℕ} → line ≡ added empty_line bytes → length bytes ≤ most_codes
    → Put buffer written (held line) count after → Put buffer written bytes count after
answered buffer written bytes {line} {count} {after} e h p = subst (λ (x : List ℕ). Put buffer written x count after) (ap held e ∙ held_from_empty bytes h) p
