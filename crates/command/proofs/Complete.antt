-- What the grammar spells is read: the reader finds the order of every good frame. Assumes nothing.
use Rattle.std.specs.Prelude.{ℕ, suc, ◌-◌, ◌<◌, ◌≤◌, List, [], ◌∷◌, ◌++◌, Bool, true, false, ◌||◌, ◌≡◌, refl, eqb, length, get_or, drop, Some}
use Prim.Native.Char.{code}
use Rattle.std.proofs.Common.{arith, append-nil, true≢false, sym, ap, ◌∙◌, length-append, le-leb}
use Rattle.std.proofs.Math.Option.{some}
use Rattle.std.specs.Prelude.{option_map}
use Rattle.std.proofs.Math.Seq.{take-append_seam, get_or-append_seam}
use Rattle.lists.specs.Every.{every}
use Rattle.record.specs.Range.{is_code}
use Rattle.numeral.specs.Spelt.{digit_code}
use Rattle.numeral.specs.Numeral.{is_digit}
use Rattle.picture.specs.Data.{Draws}
use Rattle.lists.specs.Padded.{held}
use Rattle.picture.specs.Reading.{columns_found}
use Rattle.picture.specs.ReadLaws as drawing
use Rattle.command.specs.Order.{Order, plain, label, draw}
use Rattle.command.specs.Grammar.{end, signs, one_digit, codes, data_of, Spells}
use Rattle.frame_table.specs.Opens.{heads}
use Rattle.frame_table.specs.Reader.{no_other}
use Rattle.frame_table.specs.Reader as commands
use Rattle.lists.specs.Tests.{by_test}
use Rattle.command.specs.First.{opens_label, is_other_frame, first}
use Rattle.command.proofs.First.{tested}
use Rattle.command.specs.Reading.{but_last, is_text, label_read, read_with, read_of, opens_picture, row_with, row_and_data, drawn_row, picture_of, order_drawn, order_of}
use Rattle.command.specs.declared.Command.{Command}
use Rattle.command.specs.declared.Side.{Side}
use Rattle.command.specs.declared.Side.TheVariants.{Left, Right}
use Rattle.command.specs.declared.Reading.TheVariants.{Label}

label_order : (f : List ℕ) {t : List ℕ} {side : Side} → opens_picture f ≡ false → read_of f ≡ Some (Label side) → drop 3 f ≡ t → order_of f ≡ some (label side t)
unfolding order_of
label_order f p q r = rw (p, q, r)

-- what ends with a sign, and what stands before it
end_read : (x : List ℕ) (sign : ℕ) → get_or (x ++ sign ∷ []) (length (x ++ sign ∷ []) - 1) 0 ≡ sign
end_read x sign =
    let e : length (x ++ sign ∷ []) - 1 ≡ length x = simp length-append (omega arith) in
    rw (e, get_or-append_seam x sign [] 0)

before_read : (x : List ℕ) (sign : ℕ) → but_last (x ++ sign ∷ []) ≡ x
before_read x sign =
    let e : length (x ++ sign ∷ []) - 1 ≡ length x = simp length-append (omega arith) in
    rw (e, take-append_seam x (sign ∷ []))

text_read : (t : List ℕ) → length t ≤ 7 → every is_code t ≡ true → is_text t ≡ true
unfolding is_text
text_read t h k = rw (le-leb (length t) 7 h, k)

digit_read : (n : ℕ) → n < 10 → is_digit (digit_code n) ≡ true
digit_read n h = rw (le-leb (code "0") (digit_code n) (omega arith), le-leb (digit_code n) (code "9") (omega arith))

row_drawn : (row : ℕ) (cs : List ℕ) → 1 ≤ length cs → order_drawn (option_map (row_with row) (columns_found cs)) ≡ some (draw row cs)
row_drawn row [] h = absurd (omega arith)
row_drawn row (column ∷ more) h = ap (λ (columns : List ℕ). some (draw row columns)) (held 96 (column ∷ more))

draw_read : {row : ℕ} {d cs : List ℕ} → row < 10 → Draws d cs → order_drawn (drawn_row (digit_code row) (d ++ code "z" ∷ [])) ≡ some (draw row cs)
unfolding drawn_row row_and_data
draw_read {row} {d} {cs} h draws =
    let same : digit_code row - code "0" ≡ row = omega arith in
    rw (end_read d (code "z"), before_read d (code "z"), digit_read row h, same, drawing.complete draws) (row_drawn row cs draws.least)

-- a command's first bytes are no label's and no picture's
label_heads : (k : ℕ) (f : List ℕ) → opens_label (heads (suc (suc (suc k))) f) ≡ opens_label f
label_heads k [] = refl
label_heads k (a ∷ []) = by_test (eqb a (code "I")) (λ e. rw e) (λ e. rw e)
label_heads k (a ∷ b ∷ []) = by_test (eqb a (code "I")) (λ e. by_test (eqb b (code "K")) (λ g. rw (e, g)) (λ g. rw (e, g))) (λ e. rw e)
label_heads k (a ∷ b ∷ c ∷ f) = refl

no_picture : (k : ℕ) (f : List ℕ) → eqb (get_or (heads (suc k) f) 0 0) (code "G") ≡ false → opens_picture f ≡ false
unfolding opens_picture
no_picture k [] e = refl
no_picture k (a ∷ []) e = refl
no_picture k (a ∷ b ∷ rest) e = rw e

neither : {a b : Bool} → (a || b) ≡ false → (a ≡ false) × (b ≡ false)
neither {a = true} h = absurd (true≢false h)
neither {a = false} h = (refl, h)

-- told by three first bytes or more
pub opens_neither : (k : ℕ) (f : List ℕ) → is_other_frame (heads (suc (suc (suc k))) f) ≡ false → (opens_label f ≡ false) × (opens_picture f ≡ false)
opens_neither k f h =
    let w = neither {a = opens_label (heads (suc (suc (suc k))) f)} h in
    (sym (label_heads k f) ∙ w.0, no_picture (suc (suc k)) f w.1)

pub plain_opens : (c : Command) (f : List ℕ) → Spells (plain c) f → (opens_label f ≡ false) × (opens_picture f ≡ false)
plain_opens c f s = opens_neither 0 f (no_other first tested c f s)

plain_order : (c : Command) (f : List ℕ) → Spells (plain c) f → order_of f ≡ some (plain c)
unfolding order_of read_of read_with
plain_order c f s =
    let w = plain_opens c f s in
    rw (w.1, w.0, commands.complete first tested c f s)

pub complete : (o : Order) (f : List ℕ) → Spells o f → order_of f ≡ some o
unfolding order_of opens_picture read_of read_with label_read picture_of
complete (plain c) f s = plain_order c f s
complete (label Left t) f (signs s (codes h k end)) = label_order f refl (rw (append-nil t, text_read t h k)) (append-nil t)
complete (label Right t) f (signs s (codes h k end)) = label_order f refl (rw (append-nil t, text_read t h k)) (append-nil t)
complete (draw row cs) f (signs s (one_digit h (signs s' (data_of d (signs s'' end))))) = draw_read h d
