-- What is read was spelt: where the reader finds an order, the grammar spells it. Assumes nothing.
use Rattle.std.specs.Prelude.{ℕ, suc, ◌-◌, ◌≤◌, ◌<◌, List, [], ◌∷◌, ◌++◌, Bool, true, false, cond, ◌&&◌, ◌||◌, ◌≡◌, refl, eqb, leb, length, get_or, drop}
use Rattle.std.specs.Prelude as std
use Prim.Native.Char.{code}
use Rattle.std.proofs.Common.{arith, append-nil, true≢false, sym, ◌∙◌, ap, subst, drop_of_length-le, eqb-true, leb-true}
use Rattle.std.proofs.Math.Option.{Option, none, some}
use Rattle.std.specs.Prelude.{Option as Maybe, None, option_map}
use Rattle.std.proofs.Math.Seq.{split_at}
use Rattle.lists.specs.Both.{both}
use Rattle.lists.specs.Tests.{by_test}
use Rattle.lists.specs.Codes.{ascii}
use Rattle.numeral.specs.Spelt.{digit_code}
use Rattle.numeral.specs.Numeral.{is_digit}
use Rattle.lists.specs.Padded.{held}
use Rattle.picture.specs.Reading.{columns_of, columns_found}
use Rattle.picture.specs.ReadLaws as drawing
use Rattle.command.specs.Order.{Order, draw}
use Rattle.command.specs.Grammar.{text, Matches, end, signs, one_digit, codes, data_of, Spells}
use Rattle.frame_table.specs.Spelling.{either}
use Rattle.frame_table.specs.Reader.{by_reading}
use Rattle.command.specs.First.{opens_label, first}
use Rattle.command.proofs.First.{tested}
use Rattle.command.specs.Reading.{ends_with, but_last, is_text, label_read, read_with, read_of, opens_picture, row_with, row_and_data, drawn_row, picture_of, order_read, order_drawn, order_of}
use Rattle.command.specs.declared.Command.{Command}
use Rattle.command.specs.declared.Reading.{Reading}
use Rattle.command.specs.declared.Reading.TheVariants.{Plain}
use Rattle.command.specs.declared.PictureFrame.{PictureFrame}

-- what an answer says of the frame: it spells the order
abbrev Said : List ℕ → Option Order → Type 0
Said f none = Unit {0}
Said f (some o) = Spells o f

abbrev Told : List ℕ → std.Option Reading → Type 0
Told f reading = Said f (order_read reading (drop 3 f))

-- a choice: each side under what the test says
pub cond_if : {A : Type 0} (P : A → Type 0) (b : Bool) {x y : A} → (b ≡ true → P x) → (b ≡ false → P y) → P (cond b x y)
cond_if P true g h = g refl
cond_if P false g h = h refl

-- what ends with a sign
ends : (s : List ℕ) (b : ℕ) → (b ≡ 0 → ⊥) → ends_with b s ≡ true → s ≡ but_last s ++ b ∷ []
ends [] b not-zero e = absurd (not-zero (sym (eqb-true 0 b e)))
ends (a ∷ r) b not-zero e =
    let s : List ℕ = a ∷ r in
    let j : ℕ = length s - 1 in
    split_at s j 0 (omega arith) ∙ rw (eqb-true (get_or s j 0) b e, drop_of_length-le s {i = suc j} (omega arith))

last_text : (t : List ℕ) → is_text t ≡ true → Matches (text t ∷ []) t
unfolding is_text
last_text t e =
    let h = both {a = leb (length t) 7} e in
    subst (Matches (text t ∷ [])) (append-nil t) (codes (leb-true (length t) 7 h.0) h.1 end)

-- IK1 or IK2
label_frame : (sign : ℕ) (t : List ℕ) → (eqb sign (code "1") || eqb sign (code "2")) ≡ true → Told (code "I" ∷ code "K" ∷ sign ∷ t) (label_read sign t)
unfolding label_read
label_frame sign t e =
    by_test (is_text t)
    (λ h. rw h (either e
    (λ g. rw (eqb-true sign (code "1") g) (signs (ascii "IK1") (last_text t h)))
    (λ g. rw (eqb-true sign (code "2") g) (signs (ascii "IK2") (last_text t h)))))
    (λ h. rw h tt)

label_told : (f : List ℕ) → opens_label f ≡ true → Told f (label_read (get_or f 2 0) (drop 3 f))
label_told [] e = absurd (true≢false (sym e))
label_told (a ∷ []) e = absurd (true≢false (sym e))
label_told (a ∷ b ∷ []) e = absurd (true≢false (sym e))
label_told (a ∷ b ∷ c ∷ t) e =
    let w = both {a = eqb a (code "I") && eqb b (code "K")} e in
    let v = both {a = eqb a (code "I")} w.0 in
    rw (eqb-true a (code "I") v.0, eqb-true b (code "K") v.1) (label_frame c t w.1)

told : (f : List ℕ) → Told f (read_of f)
unfolding read_of read_with
told f =
    cond_if (Told f) (opens_label f) (λ e. label_told f e)
    (λ e. by_reading first tested (λ (x : std.Option Command). Told f (option_map Plain x)) f tt (λ c s. s))

-- a row is read only with columns
row_with_lem : (f : List ℕ) (row : ℕ) (cs : List ℕ) → (1 ≤ length cs → Spells (draw row cs) f) → Said f (order_drawn (option_map (row_with row) (columns_found cs)))
row_with_lem f row [] spells = tt
row_with_lem f row (column ∷ more) spells = rw (held 96 (column ∷ more)) (spells (omega arith))

digit_of_lem : (c : ℕ) → is_digit c ≡ true → (c ≡ digit_code (c - code "0")) × (c - code "0" < 10)
digit_of_lem c e =
    let h = both {a = leb (code "0") c} e in
    (omega (arith, leb-true (code "0") c h.0), omega (arith, leb-true c (code "9") h.1))

drawn_row_lem : (digit : ℕ) (rest : List ℕ) → Said (ascii "Gr" ++ digit ∷ code "," ∷ rest) (order_drawn (drawn_row digit rest))
unfolding drawn_row row_and_data
drawn_row_lem digit rest =
    let f : List ℕ = ascii "Gr" ++ digit ∷ code "," ∷ rest in
    let d : List ℕ = but_last rest in
    let P : Maybe PictureFrame → Type 0 = λ p. Said f (order_drawn p) in
    cond_if P (ends_with (code "z") rest)
    (λ z. cond_if P (is_digit digit)
    (λ e. row_with_lem f (digit - code "0") (columns_of d) (λ some-columns. spelt (ends rest (code "z") (λ zero. omega arith) z) (digit_of_lem digit e) some-columns))
    (λ e. tt))
    (λ z. tt)
  where
    spelt : rest ≡ but_last rest ++ code "z" ∷ [] → (digit ≡ digit_code (digit - code "0")) × (digit - code "0" < 10) → 1 ≤ length (columns_of (but_last rest))
        → Spells (draw (digit - code "0") (columns_of (but_last rest))) (ascii "Gr" ++ digit ∷ code "," ∷ rest)
    spelt whole d some-columns =
        subst (Spells (draw (digit - code "0") (columns_of (but_last rest))))
        (sym (ap (λ (x : List ℕ). ascii "Gr" ++ digit ∷ code "," ∷ x) whole ∙ ap (λ (x : ℕ). ascii "Gr" ++ x ∷ code "," ∷ (but_last rest ++ code "z" ∷ [])) d.0))
        (signs (ascii "Gr") (one_digit d.1 (signs (ascii ",") (data_of (drawing.sound (but_last rest) refl some-columns) (signs (ascii "z") end)))))

-- what is read of a picture frame: nothing, or what follows its opening
pub by_picture : (P : Maybe PictureFrame → Type 0) (f : List ℕ) → P None → ((digit : ℕ) (rest : List ℕ) → f ≡ ascii "Gr" ++ digit ∷ code "," ∷ rest → P (drawn_row digit rest)) → P (picture_of f)
unfolding picture_of
by_picture P [] nothing opened = nothing
by_picture P (a ∷ []) nothing opened = nothing
by_picture P (a ∷ b ∷ []) nothing opened = nothing
by_picture P (a ∷ b ∷ c ∷ []) nothing opened = nothing
by_picture P (a ∷ b ∷ digit ∷ comma ∷ rest) nothing opened =
    cond_if P (eqb a (code "G") && eqb b (code "r") && eqb comma (code ","))
    (λ e. opened digit rest (opening (both {a = eqb a (code "G") && eqb b (code "r")} e)))
    (λ e. nothing)
  where
    opening : ((eqb a (code "G") && eqb b (code "r")) ≡ true) × (eqb comma (code ",") ≡ true) → a ∷ b ∷ digit ∷ comma ∷ rest ≡ ascii "Gr" ++ digit ∷ code "," ∷ rest
    opening h =
        let g = both {a = eqb a (code "G")} h.0 in
        rw (eqb-true a (code "G") g.0, eqb-true b (code "r") g.1, eqb-true comma (code ",") h.1)

picture : (f : List ℕ) → Said f (order_drawn (picture_of f))
picture f =
    by_picture (λ (p : Maybe PictureFrame). Said f (order_drawn p)) f tt
    (λ digit rest e. subst (λ (x : List ℕ). Said x (order_drawn (drawn_row digit rest))) (sym e) (drawn_row_lem digit rest))

said : (f : List ℕ) → Said f (order_of f)
unfolding order_of
said f = cond_if (Said f) (opens_picture f) (λ e. picture f) (λ e. told f)

pub sound : {o : Order} (f : List ℕ) → order_of f ≡ some o → Spells o f
sound f e = subst (Said f) e (said f)
