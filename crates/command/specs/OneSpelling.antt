-- ONE SPELLING FOR A COMMAND (request T-02): two frames that spell the same order, where it carries no picture data, are the same frame.
-- Assumes nothing.
-- The theorems are in proofs/OneSpelling.antt.
use Rattle.std.specs.Prelude.{ℕ, List, [], ◌∷◌, ◌++◌, true, ◌≡◌, refl}
use Rattle.std.proofs.Common.{true≢false, sym, ap, ap₂}
use Rattle.numeral.specs.Spelt.{digit_code}
use Rattle.numeral.specs.Laws.{one_spelling}
use Rattle.command.specs.Order.{Order}
use Rattle.command.specs.Grammar.{Piece, sign, number, digit, text, columns, Matches, end, signs, digits, one_digit, codes, form, Spells}
use Rattle.frame_table.specs.Spelling.{is_plain}

-- no piece is the data of a picture, which may be cut into items in several ways
abbrev pub NoData : List Piece → Type 0
NoData [] = Unit {0}
NoData (sign s ∷ ps) = NoData ps
NoData (number r n ∷ ps) = NoData ps
NoData (digit r n ∷ ps) = NoData ps
NoData (text t ∷ ps) = NoData ps
NoData (columns cs ∷ ps) = ⊥

pub one_match : (ps : List Piece) {f g : List ℕ} → NoData ps → Matches ps f → Matches ps g → f ≡ g
one_match [] h end end = refl
one_match (sign s ∷ ps) h (signs _ m) (signs _ k) = ap (λ (t : List ℕ). s ++ t) (one_match ps h m k)
one_match (number r n ∷ ps) h (digits a m) (digits b k) = ap₂ {C = List ℕ} (λ (d t : List ℕ). d ++ t) (one_spelling a b) (one_match ps h m k)
one_match (digit r n ∷ ps) h (one_digit a m) (one_digit b k) = ap (λ (t : List ℕ). digit_code n ∷ t) (one_match ps h m k)
one_match (text t ∷ ps) h (codes a b m) (codes c d k) = ap (λ (u : List ℕ). t ++ u) (one_match ps h m k)
one_match (columns cs ∷ ps) h m k = absurd h

pub one_frame : (o : Order) (f g : List ℕ) → NoData (form o) → Spells o f → Spells o g → f ≡ g
one_frame o f g h s t = one_match (form o) h s t

pub plain_no_data : (ps : List Piece) → is_plain ps ≡ true → NoData ps
plain_no_data [] h = tt
plain_no_data (sign s ∷ ps) h = plain_no_data ps h
plain_no_data (number r n ∷ ps) h = plain_no_data ps h
plain_no_data (digit r n ∷ ps) h = absurd (true≢false (sym h))
plain_no_data (text t ∷ ps) h = absurd (true≢false (sym h))
plain_no_data (columns cs ∷ ps) h = absurd (true≢false (sym h))
