-- HOW AN ORDER IS WRITTEN: the pieces of its form one after the other, numbers without leading zeros, columns as the picture writer cuts
-- them; and that what is written so spells the order. Assumes nothing.
use Rattle.std.specs.Prelude.{ℕ, ◌<◌, ◌≤◌, true, List, [], ◌∷◌, ◌++◌, ◌≡◌, refl, length}
use Rattle.std.proofs.Common.{true≢false, append-nil, sym}
use Rattle.lists.specs.Both.{both}
use Rattle.lists.specs.Every.{every}
use Rattle.record.specs.Range.{is_code}
use Rattle.numeral.specs.Spelt.{digit_code}
use Rattle.numeral.specs.Numeral.{decimal}
use Rattle.numeral.specs.Laws.{written}
use Rattle.picture.specs.Data.{Draws}
use Rattle.picture.specs.Writing.{encode}
use Rattle.frame_table.specs.Spelling.{is_plain}
use Rattle.command.specs.Order.{Order}
use Rattle.command.specs.Grammar.{Piece, sign, number, digit, text, columns, Matches, end, signs, digits, one_digit, codes, data_of, form}
use Rattle.command.specs.InRange.{Judged, all_in, judged_in, most_rows}

abbrev pub spell_piece : Piece → List ℕ
spell_piece (sign s) = s
spell_piece (number r n) = decimal n
spell_piece (digit r n) = digit_code n ∷ []
spell_piece (text t) = t
spell_piece (columns cs) = encode cs

abbrev pub spell : List Piece → List ℕ
spell [] = []
spell (p ∷ []) = spell_piece p
spell (p ∷ q ∷ ps) = spell_piece p ++ spell (q ∷ ps)

abbrev pub spelling : Order → List ℕ
spelling order = spell (form order)

-- a piece that can be written: a number of three digits at most, a digit, a label's text, columns whose data draws them
abbrev pub CanBeWritten : Piece → Type 0
CanBeWritten (sign s) = Unit {0}
CanBeWritten (number r n) = n < 1000
CanBeWritten (digit r n) = n < 10
CanBeWritten (text t) = (length t ≤ 7) × (every is_code t ≡ true)
CanBeWritten (columns cs) = Draws (encode cs) cs

abbrev pub AllCan : List Piece → Type 0
AllCan [] = Unit {0}
AllCan (p ∷ ps) = CanBeWritten p × AllCan ps

piece_spelt : (p : Piece) {ps : List Piece} {f : List ℕ} → CanBeWritten p → Matches ps f → Matches (p ∷ ps) (spell_piece p ++ f)
piece_spelt (sign s) w m = signs s m
piece_spelt (number r n) w m = digits (written n w) m
piece_spelt (digit r n) w m = one_digit w m
piece_spelt (text t) w m = codes w.0 w.1 m
piece_spelt (columns cs) w m = data_of w m

-- WHAT IS WRITTEN IS SPELT.
pub spelt : (ps : List Piece) → AllCan ps → Matches ps (spell ps)
spelt [] w = end
spelt (p ∷ []) w = rw append-nil at (piece_spelt p w.0 end)
spelt (p ∷ q ∷ ps) w = piece_spelt p w.0 (spelt (q ∷ ps) w.1)

-- Numbers in range can be written, in whatever mode that has most rows.
both_in : (n : Judged) (ns : List Judged) → all_in (n ∷ ns) ≡ true → (n.1 ≡ true) × (all_in ns ≡ true)
both_in n [] h = (h, refl)
both_in n (m ∷ ns) h = both {a = n.1} h

pub in_range_can : (ps : List Piece) → is_plain ps ≡ true → all_in (judged_in most_rows ps) ≡ true → AllCan ps
in_range_can [] p h = tt
in_range_can (sign s ∷ ps) p h = (tt, in_range_can ps p h)
in_range_can (number r n ∷ ps) p h =
    let w = both_in (n, r.takes most_rows n) (judged_in most_rows ps) h in
    (r.low n w.0, in_range_can ps p w.1)
in_range_can (digit r n ∷ ps) p h = absurd (true≢false (sym p))
in_range_can (text t ∷ ps) p h = absurd (true≢false (sym p))
in_range_can (columns cs ∷ ps) p h = absurd (true≢false (sym p))
