-- What a caller knows of the reader's answers: which order they are, and that their sizes fit.
-- What it speaks of is in specs/Found.antt. Assumes nothing.
use Rattle.std.specs.Prelude.{ℕ, ◌-◌, ◌<◌, ◌≤◌, Bool, true, false, cond, List, [], ◌∷◌, ◌≡◌, refl, eqb, leb, length, drop, Some, None, option_map}
use Rattle.std.specs.Prelude as std
use Prim.Native.Char.{code}
use Rattle.std.proofs.Common.{arith, true≢false, sym, ap, ◌∙◌, eqb-true, leb-true}
use Rattle.std.specs.Prelude.{Option as Maybe, IfSome}
use Rattle.lists.specs.Both.{both}
use Rattle.lists.specs.Tests.{by_test}
use Rattle.numeral.specs.Numeral.{is_digit}
use Rattle.lists.specs.Padded.{length_padded}
use Rattle.picture.specs.Reading.{items, few, columns_of, columns_found}
use Rattle.command.specs.Order.{label}
use Rattle.command.specs.Grammar.{Spells}
use Rattle.command.specs.Facts.{read_label, label_length}
use Rattle.command.specs.Reading.{ends_with, but_last, read_with, read_of, opens_picture, row_with, row_and_data, drawn_row, picture_of, order_read, order_drawn, order_found, order_by, order_of}
use Rattle.frame_table.specs.Reader.{by_reading}
use Rattle.frame_table.specs.Reader as reader
use Rattle.command.specs.Table.{classes, next_states}
use Rattle.command.specs.First.{opens_label, first}
use Rattle.command.proofs.First.{tested}
use Rattle.command.proofs.Complete.{plain_opens}
use Rattle.command.proofs.Sound.{cond_if, by_picture, sound}
use Rattle.command.specs.declared.Command.{Command}
use Rattle.command.specs.declared.Side.{Side}
use Rattle.command.specs.declared.Reading.{Reading}
use Rattle.command.specs.declared.Reading.TheVariants.{Plain, Label}
use Rattle.command.specs.declared.PictureFrame.{PictureFrame}
use Rattle.command.specs.Found.{LabelFound, Fits}

-- The order by what a caller was told: whether the frame opens as a picture, and what was read, by whatever tables.
module _ (f : List ℕ) {opens : Bool} (o : opens ≡ opens_picture f) where
  pub drawn_found : (read : std.Option Reading) {drawn : Maybe PictureFrame} → opens ≡ true → drawn ≡ picture_of f → order_found read f ≡ order_drawn drawn
  drawn_found read t e = rw (sym o ∙ t) (ap order_drawn (sym e))

  pub read_found : {read reading r : std.Option Reading} → opens ≡ false → reading ≡ read → reading ≡ r → order_found read f ≡ order_read r (drop 3 f)
  read_found t q e = rw (sym o ∙ t) (ap (λ (x : std.Option Reading). order_read x (drop 3 f)) (sym q ∙ e))

  pub drawn_order : {drawn : Maybe PictureFrame} → opens ≡ true → drawn ≡ picture_of f → order_of f ≡ order_drawn drawn
  unfolding order_of
  drawn_order t e = drawn_found (read_of f) t e

  pub read_order : {reading r : std.Option Reading} → opens ≡ false → reading ≡ read_of f → reading ≡ r → order_of f ≡ order_read r (drop 3 f)
  unfolding order_of
  read_order t q e = read_found t q e

-- The first edition's tables find the first edition's order.
pub order_by_lem : {class next : List ℕ} (f : List ℕ) → class ≡ classes → next ≡ next_states → order_by class next f ≡ order_of f
unfolding order_of read_of
order_by_lem f p q = rw (p, q)

picture_no_label : (f : List ℕ) → opens_picture f ≡ true → opens_label f ≡ false
unfolding opens_picture
picture_no_label [] e = refl
picture_no_label (a ∷ []) e = refl
picture_no_label (a ∷ b ∷ []) e = refl
picture_no_label (a ∷ b ∷ c ∷ rest) e = rw (eqb-true a (code "G") (both {a = eqb a (code "G")} e).0)

-- A frame that opens as a picture is bad to read_command.
pub picture_no_command : (f : List ℕ) → opens_picture f ≡ true → read_of f ≡ None
unfolding read_of read_with
picture_no_command f e =
    rw (picture_no_label f e)
    (by_reading first tested (λ (x : std.Option Command). option_map Plain x ≡ None) f refl (λ c s. absurd (true≢false (sym e ∙ (plain_opens c f s).1))))

pub label_found : (f : List ℕ) {side : Side} → read_of f ≡ Some (Label side) → LabelFound side f
label_found f {side} e = cases (opens_picture f) refl
  where
    found : Spells (label side (drop 3 f)) f → LabelFound side f
    found s = record { long = omega (arith, label_length side (drop 3 f) s); codes = read_label side s; spelt = s }

    cases : (b : Bool) → opens_picture f ≡ b → LabelFound side f
    cases true p = let q = picture_no_command f p in let z : ◌≡◌ {A = ℕ} 0 1 = cc in absurd (omega arith)
    cases false p = found (sound {o = label side (drop 3 f)} f (read_order f refl p refl e))

-- No table picks a label: whatever tables are lent, a label that is read is one of the first edition's.
never_label : (read : std.Option Command) {side : Side} → option_map Plain read ≡ Some (Label side) → ⊥
never_label None e = let z : ◌≡◌ {A = ℕ} 0 1 = cc in omega arith
never_label (Some c) e = let z : ◌≡◌ {A = ℕ} 0 1 = cc in omega arith

pub label_by : (class next f : List ℕ) {side : Side} → read_with class next f ≡ Some (Label side) → read_of f ≡ Some (Label side)
unfolding read_of read_with
label_by class next f e = by_test (opens_label f) (λ l. rw l (rw l at e)) (λ l. absurd (never_label (reader.read_with first class next f) (rw l at e)))

at_most : (codes : List ℕ) → length (columns_of codes) ≤ 96
unfolding columns_of
at_most codes = cases (items codes)
  where
    cases : (found : Maybe (List ℕ)) → length (few found) ≤ 96
    cases None = omega arith
    cases (Some columns) = cond_if (λ (x : List ℕ). length x ≤ 96) (leb (length columns) 96) (λ e. leb-true (length columns) 96 e) (λ e. omega arith)

row_fits : (row : ℕ) (columns : List ℕ) → row < 10 → length columns ≤ 96 → IfSome (option_map (row_with row) (columns_found columns)) Fits
row_fits row [] h l = tt
row_fits row (column ∷ more) h l = record { row_digit = h; few_columns = l; places = length_padded 96 (column ∷ more) l }

drawn_fits : (digit : ℕ) (rest : List ℕ) → IfSome (drawn_row digit rest) Fits
unfolding drawn_row row_and_data
drawn_fits digit rest =
    let P : Maybe PictureFrame → Type 0 = λ p. IfSome p Fits in
    cond_if P (ends_with (code "z") rest)
    (λ z. cond_if P (is_digit digit)
    (λ e. row_fits (digit - code "0") (columns_of (but_last rest)) (omega (arith, leb-true digit (code "9") (both {a = leb (code "0") digit} e).1)) (at_most (but_last rest)))
    (λ e. tt))
    (λ z. tt)

pub picture_fits : (f : List ℕ) → IfSome (picture_of f) Fits
picture_fits f = by_picture (λ (p : Maybe PictureFrame). IfSome p Fits) f tt (λ digit rest e. drawn_fits digit rest)
