-- WHAT AN ORDER DOES NOT TOUCH: it sets no field but those that the table of Touched.antt names, and what stands in a field that it
-- neither sets nor reads makes no difference to it. Assumes nothing.
use Rattle.std.specs.Prelude.{ℕ, ◌+◌, ◌*◌, ◌<◌, ◌≤◌, Bool, true, false, cond, List, [], ◌∷◌, map, ◌≢◌, ◌≡◌, refl, eqb, leb, ltb, length, get_or}
use Rattle.std.proofs.Common.{arith, ⊎_elim, ap, sym, subst, drop-set-lt, ltb-true}
use Rattle.std.proofs.Math.Option.{some}
use Rattle.std.proofs.lemmas.List.{length-map, take-set-le}
use Rattle.lists.specs.Tests.{by_test, either_way}
use Rattle.lists.specs.Both.{both}
use Rattle.record.specs.Range.{large, rows_of, row_end_of, line_start, cursor_in_range}
use Rattle.record.specs.Core.{Core}
use Rattle.record.specs.Fields.{Field, text, large_line, sister, bit, read, put, all_fields}
use Rattle.answer.specs.Answers.{answer_bytes, is_silence}
use Rattle.command.specs.Order.{Order, plain, label, draw}
use Rattle.command.specs.InRange.{is_overlay, in_range_in_mode}
use Rattle.command.specs.declared.Command.TheVariants.{DisplayOff, DisplayOn, Mode, CursorShown, CursorHidden, Clear, Position, LabelsEmpty, IconS, IconU, IconF, IconR, IconP, IconW, Private, Handsfree, HandsfreeOfNote, Mute, KeyTimes, Buzzer, Light, LightOn, LightAutoStart, LightAuto, DefaultDuration, KeypadSet, KeypadCleared, Contrast, ContrastAsked, HookAsked, VersionAsked, ClearLine, Inverse}
use Rattle.command.specs.declared.Side.TheVariants.{Left, Right}
use Rattle.effect.specs.Effect.{kept_in, drawn, line_cleared, effect, carry_out, store_text}
use Rattle.effect.specs.Sets.{sets_outside}
use Rattle.effect.specs.Touched.{sets, touches}
use Rattle.effect.specs.Beside.{Deed, put_before, put_after, at_field, field_stays, field_apart}
use Rattle.effect.specs.Obey.{answer_to}
use Rattle.effect.specs.Questions.{three_questions, silence_of}

abbrev deed : Order → Deed
deed o = record { sets = sets o; touches = touches o; inside = λ c. in_range_in_mode c.settings.screen.mode o; does = effect o }

-- THE TABLE, for all fields at once: it makes no difference; and no order sets the edition.
beside : (o : Order) (v : List ℕ) (c : Core) → (map (put_before (deed o) v c) all_fields ≡ map (put_after (deed o) v c) all_fields) × (sets o sister ≡ false)
unfolding all_fields line_cleared
beside (plain DisplayOff) v c = (refl, refl)
beside (plain DisplayOn) v c = (refl, refl)
beside (plain (Mode n)) v c = (by_test (is_overlay n) (λ e. rw e) (λ e. rw e), by_test (is_overlay n) (λ e. rw e) (λ e. rw e))
beside (plain CursorShown) v c = (refl, refl)
beside (plain CursorHidden) v c = (refl, refl)
beside (plain Clear) v c = (refl, refl)
beside (plain (Position r k)) v c = (refl, refl)
beside (plain LabelsEmpty) v c = (refl, refl)
beside (label Left t) v c = (refl, refl)
beside (label Right t) v c = (refl, refl)
beside (plain (IconS n)) v c = (refl, refl)
beside (plain (IconU n)) v c = (refl, refl)
beside (plain (IconF n)) v c = (refl, refl)
beside (plain (IconR n)) v c = (refl, refl)
beside (plain (IconP n)) v c = (refl, refl)
beside (plain (IconW n)) v c = (refl, refl)
beside (plain (Private n)) v c = (by_test (eqb n 0) (λ e. rw e) (λ e. rw e), refl)
beside (plain (Handsfree n)) v c = (by_test (eqb n 0) (λ e. rw e) (λ e. rw e), refl)
beside (plain (HandsfreeOfNote n)) v c = (by_test (eqb n 0) (λ e. rw e) (λ e. rw e), refl)
beside (plain (Mute n)) v c = (by_test (eqb n 0) (λ e. rw e) (λ e. rw e), by_test (eqb n 0) (λ e. rw e) (λ e. rw e))
beside (plain (KeyTimes t u)) v c = (refl, refl)
beside (plain (Buzzer n)) v c = (refl, refl)
beside (plain (Light n)) v c = (by_test (eqb n 0) (λ e. rw e) (λ e. rw e), by_test (eqb n 0) (λ e. rw e) (λ e. rw e))
beside (plain LightOn) v c = (refl, refl)
beside (plain LightAutoStart) v c = (refl, refl)
beside (plain LightAuto) v c = (refl, refl)
beside (plain DefaultDuration) v c = (refl, refl)
beside (plain KeypadSet) v c = (refl, refl)
beside (plain KeypadCleared) v c = (refl, refl)
beside (plain (Contrast n)) v c = (refl, refl)
beside (plain ContrastAsked) v c = (refl, refl)
beside (plain HookAsked) v c = (refl, refl)
beside (plain VersionAsked) v c = (refl, refl)
beside (plain ClearLine) v c = (refl, refl)
beside (plain (Inverse n)) v c = (refl, refl)
beside (draw r columns) v c = (refl, refl)

-- A field that an order may not set is as it was.
pub stays : (o : Order) (f : Field) (c : Core) → sets o f ≡ false → read f (carry_out o c) ≡ read f c
unfolding carry_out
stays o = field_stays (deed o) (λ v c. (beside o v c).0)

-- So no order changes the edition, and no frame does.
one_bit : (a b : Bool) → ◌≡◌ {A = List ℕ} (bit a ∷ []) (bit b ∷ []) → a ≡ b
one_bit true true e = refl
one_bit true false e = absurd (omega (arith, ap (λ (l : List ℕ). get_or l 0 0) e))
one_bit false true e = absurd (omega (arith, ap (λ (l : List ℕ). get_or l 0 0) e))
one_bit false false e = refl

pub edition_stays : (o : Order) (c : Core) → (carry_out o c).edition.sister ≡ c.edition.sister
edition_stays o c = one_bit (carry_out o c).edition.sister c.edition.sister (stays o sister c (beside o [] c).1)

-- An order goes the same way whatever stands in a field that it does not touch.
pub apart : (o : Order) (f : Field) (v : List ℕ) (c : Core) → touches o f ≡ false → carry_out o (put f v c) ≡ put f v (carry_out o c)
unfolding carry_out
apart o = field_apart (deed o) (λ v c. (beside o v c).0)

-- What it is answered goes by the fields that it touches, too: of a question by what is asked.
abbrev said_of : Order → Core → List ℕ
said_of o c = answer_bytes (answer_to (some o)) c.settings.contrast c.settings.hook

abbrev SaidAlike : List ℕ → Core → Order → Type 0
SaidAlike v c o =
    map (λ (f : Field). cond (touches o f) [] (said_of o (put f v c))) all_fields ≡ map (λ (f : Field). cond (touches o f) [] (said_of o c)) all_fields

questions_alike : (v : List ℕ) (c : Core) → SaidAlike v c (plain ContrastAsked) × SaidAlike v c (plain HookAsked) × SaidAlike v c (plain VersionAsked)
unfolding all_fields
questions_alike v c = (refl, refl, refl)

pub said_apart : (o : Order) (f : Field) (v : List ℕ) (c : Core) → touches o f ≡ false → said_of o (put f v c) ≡ said_of o c
said_apart o f v c h =
    by_test (is_silence (answer_to (some o))) (λ e. rw (silence_of (answer_to (some o)) e))
    (λ e.
    let from : (x : Order) → o ≡ x → SaidAlike v c x → said_of o (put f v c) ≡ said_of o c =
    λ x q alike.
    rw h at (at_field (λ (g : Field). cond (touches o g) [] (said_of o (put g v c))) (λ (g : Field). cond (touches o g) [] (said_of o c)) [] f (subst (SaidAlike v c) (sym q) alike))
    in
    let three = questions_alike v c in
    ⊎_elim (λ q. from _ q three.0) (⊎_elim (λ q. from _ q three.1) (λ q. from _ q three.2)) (three_questions o c e))

-- A picture frame sets as many places of the picture as it has columns, from column 0 of its row on. A place outside them, past the
-- last if not before the first, is as it was.
pub drawn_alone : (r : ℕ) (columns : List ℕ) (c : Core) (i : ℕ) → (r * 96 ≤ i → r * 96 + length columns ≤ i)
    → get_or (carry_out (draw r columns) c).picture i 0 ≡ get_or c.picture i 0
unfolding carry_out drawn
drawn_alone r columns c i outside =
    either_way (λ (d : Core). get_or d.picture i 0 ≡ get_or c.picture i 0) (in_range_in_mode c.settings.screen.mode (draw r columns))
    (λ e. sets_outside c.picture (r * 96) (map (kept_in r) columns) i (rw length-map outside)) (λ e. refl)

-- So every column of another row is as it was ..
pub other_rows_stay : (r : ℕ) (columns : List ℕ) (c : Core) (other k : ℕ) → length columns ≤ 96 → k < 96 → other ≢ r
    → get_or (carry_out (draw r columns) c).picture (other * 96 + k) 0 ≡ get_or c.picture (other * 96 + k) 0
other_rows_stay r columns c other k most h differs = drawn_alone r columns c (other * 96 + k) (omega arith)

-- .. and so is every column of that row past the data.
pub past_data_stays : (r : ℕ) (columns : List ℕ) (c : Core) (k : ℕ) → length columns ≤ k
    → get_or (carry_out (draw r columns) c).picture (r * 96 + k) 0 ≡ get_or c.picture (r * 96 + k) 0
past_data_stays r columns c k past = drawn_alone r columns c (r * 96 + k) (omega arith)

-- A text byte in mode 10 leaves the five rows of the text as they were ..
pub rows_stay : (c : Core) (b : ℕ) → eqb c.settings.screen.mode large ≡ true → read text (store_text c b) ≡ read text c
unfolding store_text
rows_stay c b h =
    let s = c.settings.screen in
    either_way (λ (d : Core). read text d ≡ read text c) (ltb s.column (row_end_of s.mode))
    (λ e. rw h (take-set-le line_start c.text (line_start + s.column) b (omega arith))) (λ e. refl)

-- .. and in any other mode the large line.
pub line_stays : (c : Core) (b : ℕ) → cursor_in_range c.settings.screen ≡ true → eqb c.settings.screen.mode large ≡ false → read large_line (store_text c b) ≡ read large_line c
unfolding store_text
line_stays c b k h =
    let s = c.settings.screen in
    let below : ltb s.row (cond (leb s.mode 1) 4 5) ≡ true = rw h at (both {a = ltb s.row (rows_of s.mode)} k).0 in
    let few : s.row < 5 = cases (leb s.mode 1) s.row below in
    either_way (λ (d : Core). read large_line d ≡ read large_line c) (ltb s.column (row_end_of s.mode))
    (λ e. let near : s.column < 16 = ltb-true s.column 16 (rw h at e) in rw h (drop-set-lt line_start c.text (s.row * 16 + s.column) b (omega arith))) (λ e. refl)
  where
    cases : (b : Bool) (n : ℕ) → ltb n (cond b 4 5) ≡ true → n < 5
    cases true n r = omega (arith, ltb-true n 4 r)
    cases false n r = ltb-true n 5 r
