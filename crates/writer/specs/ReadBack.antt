-- READING BACK: what is written for a command, a label or a picture row in range spells exactly that in its edition, and its bytes part into
-- that one closed frame and one skipped LF. Assumes nothing.
use Rattle.std.specs.Prelude.{ℕ, ◌≤◌, Bool, true, false, cond, List, [], ◌∷◌, ◌≡◌, refl, length, take, drop, Result}
use Rattle.std.proofs.Common.{arith, true≢false, append_assoc, sym, ◌∙◌, ap, subst}
use Rattle.lists.specs.Codes.{carriage_return, line_feed}
use Rattle.lists.specs.Both.{both}
use Rattle.lists.specs.Every.{every}
use Rattle.record.specs.Number.{numbered, ended}
use Rattle.record.specs.declared.Refusal.{Refusal}
use Rattle.record.specs.Range.{is_frame_byte}
use Rattle.picture.specs.Data.{Bytes}
use Rattle.picture.specs.WriteLaws.{draws_encoded}
use Rattle.parting.specs.Rules.{Plain, Body, empty, collect, skipped, closed, done, then, Parting, ends, goes_on}
use Rattle.frame_table.specs.Kinds.{alike}
use Rattle.frame_table.specs.Reader as commands
use Rattle.frame_table.specs.Spelling.{is_plain}
use Rattle.command.specs.Order.{plain, label, draw}
use Rattle.command.specs.Grammar.{form, Spells}
use Rattle.command.specs.Spell.{spell, spelling, spelt, in_range_can}
use Rattle.command.specs.First.{kinds, kind}
use Rattle.command.specs.First as table
use Rattle.command.proofs.First as tableLaws
use Rattle.command.specs.InRange.{command_in_range, most_rows, numbers_of, judged_in}
use Rattle.command.specs.Plain.{first_and_others}
use Rattle.command.specs.declared.Command.{Command}
use Rattle.command.specs.declared.Side.{Side}
use Rattle.command.specs.declared.Side.TheVariants.{Left, Right}
use Rattle.sister_command.specs.Order.{AnyOrder, first, own}
use Rattle.sister_command.specs.Grammar.{sister_form, is_shared, SpellsIn}
use Rattle.sister_command.specs.InRange.{own_numbers, own_in_range}
use Rattle.sister_command.proofs.Agree.{one_frame_in, said_no_data, within_in}
use Rattle.sister_command.specs.declared.SisterReading.TheVariants as said
use Rattle.sister_command.specs.declared.SisterCommand.{SisterCommand}
use Rattle.sister_command.specs.declared.SisterCommand.TheVariants.{Cursor, Restart, Mode, Light, LightTo, IconU, Brightness, KeyTimes, Speaker, Asked, Step}
use Rattle.sister_command.specs.declared.Question.{Question}
use Rattle.sister_command.specs.declared.Question.TheVariants as Ask
use Rattle.sister_command.specs.declared.Step.{Step as Stepping}
use Rattle.sister_command.specs.declared.Step.TheVariants.{ContrastUp, ContrastDown, BrightnessUp, BrightnessDown, SpeakerUp, SpeakerDown}
use Rattle.sister_command.specs.declared.LightChange.{LightChange}
use Rattle.sister_command.specs.declared.LightChange.TheVariants as To
use Rattle.writer_ranges.specs.Fitting.{is_label, is_row}
use Rattle.writer.specs.Writing.{frame_of, shared_in_range, written_of, count_of, room_after}
use Rattle.writer.specs.Laws.{label_told, row_told, done_told}

-- a body reads back as an order of an edition: it spells it, its frame's bytes are that closed frame and an LF that is skipped, and it is
-- not long
pub record ReadsBack (sister : Bool) (order : AnyOrder) (body : List ℕ) : Type 0 where
  pub spells : SpellsIn sister order body
  pub parts : Parting (frame_of body) (then (closed body) (then (skipped line_feed) done))
  pub most : length body ≤ 197

-- The proof ---------------------------------------------------------------------------------------------------------

plain_byte : (b : ℕ) → is_frame_byte b ≡ true → Plain b
plain_byte b h =
    record {
      not_escape = λ e. true≢false (sym (ap is_frame_byte (sym e) ∙ h));
      not_return = λ e. true≢false (sym (ap is_frame_byte (sym e) ∙ h));
    }

body_of : (bytes : List ℕ) → every is_frame_byte bytes ≡ true → Body bytes
body_of [] h = empty
body_of (b ∷ bytes) h =
    let w = first_and_others is_frame_byte b bytes h in
    collect (plain_byte b w.0) (body_of bytes w.1)

parts_of : (body : List ℕ) → Body body → Parting (frame_of body) (then (closed body) (then (skipped line_feed) done))
unfolding frame_of
parts_of body h =
    rw (append_assoc body (carriage_return ∷ []) (line_feed ∷ [])) at (goes_on {part = closed body} h tt (goes_on {part = skipped line_feed} (omega arith, λ e. omega arith) tt ends))

reads_back : (sister : Bool) (order : AnyOrder) (body : List ℕ) → SpellsIn sister order body → ReadsBack sister order body
reads_back sister order body s =
    let w = within_in sister order s in
    record { spells = s; parts = parts_of body (body_of body w.plain); most = w.most }

-- a label and a picture row are spelt by the sister as by the first edition
label_too : (sister : Bool) (side : Side) (t : List ℕ) {f : List ℕ} → Spells (label side t) f → SpellsIn sister (first (label side t)) f
label_too true Left t s = s
label_too true Right t s = s
label_too false side t s = s

row_too : (sister : Bool) {row : ℕ} {cs f : List ℕ} → Spells (draw row cs) f → SpellsIn sister (first (draw row cs)) f
row_too true s = s
row_too false s = s

label_spelt : (side : Side) (t : List ℕ) → is_label t ≡ true → Spells (label side t) (spelling (label side t))
label_spelt Left t h = spelt (form (label Left t)) (tt, (label_told t h, tt))
label_spelt Right t h = spelt (form (label Right t)) (tt, (label_told t h, tt))

-- the numbers of what she shares are the first edition's, computed for each kind
shared_numbers : (c : Command) → is_shared c ≡ true → judged_in most_rows (sister_form (first (plain c))) ≡ numbers_of most_rows c
shared_numbers c h =
    rw h at (alike kinds (λ (x : Command). cond (is_shared x) (judged_in most_rows (sister_form (first (plain x)))) []) (λ (x : Command). cond (is_shared x) (numbers_of most_rows x) []) (λ m n. refl) (kind c))

-- a command of her own has signs and numbers alone, and no range that goes by the rows of a text mode
abbrev Simple : SisterCommand → Type 0
Simple c = (is_plain (sister_form (own c)) ≡ true) × (judged_in most_rows (sister_form (own c)) ≡ own_numbers 0 c)

letter_simple : (change : LightChange) → Simple (LightTo change)
letter_simple = elim [ To.On ↦ (refl, refl) | To.AutoStart ↦ (refl, refl) | To.Auto ↦ (refl, refl) | To.PwmOn ↦ (refl, refl) | To.PwmAuto ↦ (refl, refl) | To.Restart ↦ (refl, refl) | To.KeypadSet ↦ (refl, refl) | To.KeypadClearedStart ↦ (refl, refl) | To.KeypadCleared ↦ (refl, refl) ]

question_simple : (question : Question) → Simple (Asked question)
question_simple = elim [ Ask.Position ↦ (refl, refl) | Ask.Version ↦ (refl, refl) | Ask.Hook ↦ (refl, refl) | Ask.Ptt ↦ (refl, refl) | Ask.Contrast ↦ (refl, refl) | Ask.Mode ↦ (refl, refl) | Ask.Light ↦ (refl, refl) | Ask.Brightness ↦ (refl, refl) | Ask.Times ↦ (refl, refl) | Ask.Speaker ↦ (refl, refl) ]

step_simple : (step : Stepping) → Simple (Step step)
step_simple = elim [ ContrastUp ↦ (refl, refl) | ContrastDown ↦ (refl, refl) | BrightnessUp ↦ (refl, refl) | BrightnessDown ↦ (refl, refl) | SpeakerUp ↦ (refl, refl) | SpeakerDown ↦ (refl, refl) ]

simple : (c : SisterCommand) → Simple c
simple (Cursor n) = (refl, refl)
simple Restart = (refl, refl)
simple (Mode n) = (refl, refl)
simple (Light n) = (refl, refl)
simple (LightTo change) = letter_simple change
simple (IconU n) = (refl, refl)
simple (Brightness n) = (refl, refl)
simple (KeyTimes time1 time2) = (refl, refl)
simple (Speaker n) = (refl, refl)
simple (Asked question) = question_simple question
simple (Step step) = step_simple step

-- The theorems ------------------------------------------------------------------------------------------------------

-- A command in range: what write_command writes reads back as that command;
pub command_reads_back : (c : Command) → command_in_range most_rows c ≡ true → ReadsBack false (first (plain c)) (spelling (plain c))
command_reads_back c h = reads_back false (first (plain c)) (spelling (plain c)) (spelt (form (plain c)) (in_range_can (form (plain c)) (commands.kind_plain table.first tableLaws.tested (kind c)) h))

-- what write_own and write_shared write, in the sister's edition.
pub own_reads_back : (c : SisterCommand) → own_in_range c ≡ true → ReadsBack true (own c) (spell (sister_form (own c)))
own_reads_back c h =
    let w = simple c in
    reads_back true (own c) (spell (sister_form (own c))) (spelt (sister_form (own c)) (in_range_can (sister_form (own c)) w.0 (rw w.1 h)))

pub shared_reads_back : (c : Command) → shared_in_range c ≡ true → ReadsBack true (first (plain c)) (spell (sister_form (first (plain c))))
shared_reads_back c h =
    let w = both {a = is_shared c} h in
    let order = first (plain c) in
    reads_back true order (spell (sister_form order)) (spelt (sister_form order) (in_range_can (sister_form order) w.0 (rw (shared_numbers c w.0) w.1)))

-- It is her only spelling of that command.
pub own_spelling : (c : SisterCommand) (frame : List ℕ) → own_in_range c ≡ true → SpellsIn true (own c) frame → frame ≡ spell (sister_form (own c))
own_spelling c frame h s = one_frame_in true (own c) frame (spell (sister_form (own c))) (said_no_data (said.Own c) s) s (own_reads_back c h).spells

pub shared_spelling : (c : Command) (frame : List ℕ) → shared_in_range c ≡ true → SpellsIn true (first (plain c)) frame → frame ≡ spell (sister_form (first (plain c)))
shared_spelling c frame h s = one_frame_in true (first (plain c)) frame (spell (sister_form (first (plain c)))) (said_no_data (said.Shared c) s) s (shared_reads_back c h).spells

-- A label in range: with those very codes, in either edition.
pub label_reads_back : (sister : Bool) (side : Side) (t : List ℕ) → is_label t ≡ true → ReadsBack sister (first (label side t)) (spelling (label side t))
label_reads_back sister side t h = reads_back sister (first (label side t)) (spelling (label side t)) (label_too sister side t (label_spelt side t h))

-- A picture row in range: with those very columns, in either edition.
pub row_reads_back : (sister : Bool) (row : ℕ) (cs : List ℕ) → is_row row cs ≡ true → Bytes cs → ReadsBack sister (first (draw row cs)) (spelling (draw row cs))
row_reads_back sister row cs h b =
    let w = row_told row cs h in
    reads_back sister (first (draw row cs)) (spelling (draw row cs)) (row_too sister (spelt (form (draw row cs)) (tt, (omega (arith, w.low), (tt, (draws_encoded cs w.least w.most b, (tt, tt)))))))

-- WHAT IS WRITTEN READS BACK, said of what a writer hands back and of the room that it was lent: the bytes that it counts part into
-- one closed frame and one skipped LF, the frame spells the order in that edition, and the places behind them are as they were.
pub record WritesBack (sister : Bool) (order : AnyOrder) (back : Result ℕ Refusal) (room after : List ℕ) : Type 0 where
  pub frame : List ℕ
  pub spells : SpellsIn sister order frame
  pub parts : Parting (take (count_of back) after) (then (closed frame) (then (skipped line_feed) done))
  pub others : drop (count_of back) after ≡ drop (count_of back) room

-- whatever is written for an order whose body reads back as it
abbrev pub AfterZero : Bool → AnyOrder → Bool → List ℕ → List ℕ → Type 0
AfterZero sister order ok body room =
    ended (written_of ok (frame_of body) room) ≡ numbered 0 → WritesBack sister order (written_of ok (frame_of body) room) room (room_after ok (frame_of body) room)

after_zero : (sister : Bool) (order : AnyOrder) (ok : Bool) (body room : List ℕ) → (ok ≡ true → ReadsBack sister order body) → AfterZero sister order ok body room
after_zero sister order ok body room reads h =
    let w = done_told ok (frame_of body) room h in
    let back = reads w.in_range_lem in
    record {
      frame = body;
      spells = back.spells;
      parts = subst (λ (bytes : List ℕ). Parting bytes (then (closed body) (then (skipped line_feed) done))) (sym w.first) back.parts;
      others = w.others;
    }

-- The writers, after number 0; labels and picture rows in either edition.
pub command_written : (c : Command) (room : List ℕ) → AfterZero false (first (plain c)) (command_in_range most_rows c) (spelling (plain c)) room
command_written c room = after_zero false (first (plain c)) (command_in_range most_rows c) (spelling (plain c)) room (command_reads_back c)

pub own_written : (c : SisterCommand) (room : List ℕ) → AfterZero true (own c) (own_in_range c) (spell (sister_form (own c))) room
own_written c room = after_zero true (own c) (own_in_range c) (spell (sister_form (own c))) room (own_reads_back c)

pub shared_written : (c : Command) (room : List ℕ) → AfterZero true (first (plain c)) (shared_in_range c) (spell (sister_form (first (plain c)))) room
shared_written c room = after_zero true (first (plain c)) (shared_in_range c) (spell (sister_form (first (plain c)))) room (shared_reads_back c)

pub label_written : (sister : Bool) (side : Side) (t room : List ℕ) → AfterZero sister (first (label side t)) (is_label t) (spelling (label side t)) room
label_written sister side t room = after_zero sister (first (label side t)) (is_label t) (spelling (label side t)) room (label_reads_back sister side t)

pub row_written : (sister : Bool) (row : ℕ) (columns room : List ℕ) → Bytes columns → AfterZero sister (first (draw row columns)) (is_row row columns) (spelling (draw row columns)) room
row_written sister row columns room bytes = after_zero sister (first (draw row columns)) (is_row row columns) (spelling (draw row columns)) room (λ h. row_reads_back sister row columns h bytes)
