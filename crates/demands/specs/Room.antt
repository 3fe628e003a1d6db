-- HOW MUCH ROOM FOR ANSWERS? (request T-09). "Show that a call writes no more question marks than there are ESC bytes offered, plus one
-- if a frame was open; and that this is reached. Show also that a picture frame's data never takes more than two bytes per column. A
-- count helper gives the first bound before a call." All of it of a record of the first edition, in a stream no closed frame of which is a
-- question of request T-04. Assumes nothing.
use Rattle.std.specs.Prelude.{ℕ, zero, suc, ◌+◌, ◌*◌, ◌≤◌, ◌⊎◌, ◌≡◌, Bool, true, false, List, [], ◌∷◌, ◌++◌, eqb, length, drop, replicate, Ok}
use Rattle.std.proofs.Common.{arith, inl, inr, ⊎_elim, sym, ap, ◌∙◌, subst, append-nil, length-append, eqb-true}
use Rattle.std.proofs.Math.Path.{refl}
use Rattle.std.proofs.Math.Bool.{cond}
use Rattle.std.proofs.Math.Option.{Option, none, some}
use Rattle.std.proofs.lemmas.List.{length-replicate}
use Rattle.lists.specs.Both.{both, and_both}
use Rattle.lists.specs.Codes.{escape, carriage_return, question_mark}
use Rattle.lists.specs.Every.{every}
use Rattle.lists.specs.Padded.{padded}
use Rattle.lists.specs.Tests.{by_test, either_way}
use Rattle.record.specs.Laws.{power_on_in_range}
use Rattle.record.specs.PowerOn.{power_on}
use Rattle.record.specs.Range.{in_range, text_in_range, label_in_range, picture_in_range, inverse_in_range, frame_in_range}
use Rattle.record.specs.With.{with_frame}
use Rattle.record.specs.declared.Record.{Record}
use Rattle.picture.specs.Data.{Draws}
use Rattle.picture.specs.ReadLaws.{two_codes_a_column}
use Rattle.answer.specs.Answers.{answer_bytes, is_silence}
use Rattle.command.specs.Order.{Order, plain}
use Rattle.command.specs.Grammar.{Spells}
use Rattle.frame_table.specs.Reader as reader
use Rattle.command.specs.Table.{classes, next_states}
use Rattle.command.specs.Reading.{read_with, read_of, opens_picture, order_of}
use Rattle.command.proofs.Agree.{agree, bad_frame}
use Rattle.command.specs.declared.Command.TheVariants.{ContrastAsked, HookAsked, VersionAsked}
use Rattle.record.specs.Core.{Core, core_of}
use Rattle.effect.specs.Effect.{store_text}
use Rattle.effect.specs.Obey.{obey_order, answer_to}
use Rattle.effect.specs.Questions.{three_questions, silence_of}
use Rattle.sister_command.specs.Reading.{order_in}
use Rattle.sister_effect.specs.Obey.{obey_any, answers_to, mark_of}
use Rattle.sister_effect.specs.Questions.{obeys_first, answers_first}
use Rattle.sister_effect.specs.Untouched.{frame_keeps_edition}
use Rattle.turns.specs.Taking.{Taken, answering}
use Rattle.turns.proofs.Room.{answers_begin}
use Rattle.parting.specs.Rules.{Body, empty, Part, text, skipped, closed, abandoned, opens, Lawful, Parted, done, unfinished, then, Parting, ends, waits, goes_on, Frame, no_frame, open_frame, in_limit, Stands, none_stands, open_stands, overlong_stands}
use Rattle.parting.specs.Meaning.{Answered, Meaning, State, with, refuse, close, act, taking}
use Rattle.parting.specs.Reading.{step, reading}
use Rattle.parting.proofs.Stream.{stream}
use Rattle.parting.specs.Room.{Ran, run}
use Rattle.parting.specs.Frames.{OfThese, EachClosed}
use Rattle.parting.specs.Count.{escapes, waiting, OneAnswer}
use Rattle.parting.proofs.Count.{answers_at_most}
use Rattle.stream.specs.Stream.{handset, obey_frame, kept_frame, frame_in, state_of, record_of}
use Rattle.stream.specs.Demand.{HandedBack, fed_back, ran_back}
use Rattle.stream.proofs.Demand.{back_is_run, edition_kept}
use Rattle.answer_room.specs.Needed.{room_needed}
use Rattle.answer_room.specs.Laws.{room_of_first}
use Rattle.demands.specs.Frames.{all_taken}

-- a frame that is none of the three questions
pub record NoQuestion (frame : List ℕ) : Type 0 where
  pub not_contrast : Spells (plain ContrastAsked) frame → ⊥
  pub not_hook : Spells (plain HookAsked) frame → ⊥
  pub not_version : Spells (plain VersionAsked) frame → ⊥

-- THE BOUND: the ESC bytes offered, and one if the record's frame is open or overlong
abbrev pub bound : Record → List ℕ → ℕ
bound r bytes = escapes bytes + waiting (state_of r).frame

-- so many question marks, and behind them what stood in the buffer
abbrev pub marks_over : ℕ → List ℕ → List ℕ
marks_over n lent = replicate n question_mark ++ drop n lent

-- ESC so many times, and CR
abbrev pub escapes_and_return : ℕ → List ℕ
escapes_and_return n = replicate n escape ++ carriage_return ∷ []

-- all bytes used and answered with so many question marks; no frame is open any more, and nothing else has changed
abbrev pub asked_times : Record → List ℕ → ℕ → List ℕ → HandedBack
asked_times r bytes n lent = record { after = record_of r.held (with (core_of r) no_frame); used = length bytes; written = n; buffer = marks_over n lent }

-- the power-on record with a frame that has just been opened
abbrev pub just_opened : Record
just_opened = with_frame power_on (kept_frame (open_frame []))

pub record AnswerRoom : Type 0 where
  -- From any record of the first edition in range, `before` being what its open frame stands for, any bytes offered and any room lent:
  -- where no closed frame is a question, a call writes at most as many bytes as ESC bytes are offered, and one more if a frame was open;
  pub at_most : (r : Record) → in_range r ≡ true → r.edition.sister ≡ false → (before : List ℕ) → Stands (state_of r).frame before → (bytes lent : List ℕ) {parted : Parted} → Parting (before ++ bytes) parted → EachClosed NoQuestion parted
      → (fed_back r bytes lent).written ≤ bound r bytes
  -- all that it writes are question marks;
  pub marks_only : (r : Record) → in_range r ≡ true → r.edition.sister ≡ false → (before : List ℕ) → Stands (state_of r).frame before → (bytes lent : List ℕ) {parted : Parted} → Parting (before ++ bytes) parted → EachClosed NoQuestion parted
      → (fed_back r bytes lent).buffer ≡ marks_over (fed_back r bytes lent).written lent
  -- and with that much room it uses all bytes.
  pub enough : (r : Record) → in_range r ≡ true → r.edition.sister ≡ false → (before : List ℕ) → Stands (state_of r).frame before → (bytes lent : List ℕ) {parted : Parted} → Parting (before ++ bytes) parted → EachClosed NoQuestion parted
      → bound r bytes ≤ length lent → (fed_back r bytes lent).used ≡ length bytes
  -- The count helper gives the bound before the call.
  pub counted : (r : Record) (bytes : List ℕ) → in_range r ≡ true → r.edition.sister ≡ false → room_needed r bytes ≡ Ok (bound r bytes)
  -- It is reached, for every n, by ESC n times and CR: with no frame open, n bytes;
  pub reached : (r : Record) → in_range r ≡ true → r.edition.sister ≡ false → r.frame.state ≡ 0 → (n : ℕ) (lent : List ℕ) → n ≤ length lent
      → fed_back r (escapes_and_return n) lent ≡ asked_times r (escapes_and_return n) n lent
  -- with one open or overlong, n + 1 (where no ESC comes, the CR must close a bad one);
  pub reached_open : (r : Record) → in_range r ≡ true → r.edition.sister ≡ false → (body : List ℕ) → Stands (state_of r).frame (escape ∷ body) → (n : ℕ) → (n ≡ 0 → (o : Order) → Spells o body → ⊥) → (lent : List ℕ) → suc n ≤ length lent
      → fed_back r (escapes_and_return n) lent ≡ asked_times r (escapes_and_return n) (suc n) lent
  -- which is the bound there; such records are the one at power-on, and the same with a frame just opened.
  pub bound_there : (r : Record) (n : ℕ) → bound r (escapes_and_return n) ≡ n + waiting (state_of r).frame
  pub reached_at_power_on : (n : ℕ) → (fed_back power_on (escapes_and_return n) (replicate n 0)).written ≡ n
  pub reached_just_opened : (n : ℕ) → (fed_back just_opened (escapes_and_return n) (replicate (suc n) 0)).written ≡ suc n
  -- A picture frame's data never takes more than two bytes per column.
  pub two_bytes_a_column : (codes columns : List ℕ) → Draws codes columns → length codes ≤ 2 * length columns

-- The proof ---------------------------------------------------------------------------------------------------------

-- What the handset is while its record is of the first edition. The parting's theory counts answers of every core, and the sister's have
-- longer marks: so it is used at this meaning.
abbrev first_handset : Meaning
first_handset =
    record {
      Core = Core;
      store = store_text;
      obey = λ c frame. let found = order_of frame in record { core = obey_order c found; answers = answer_bytes (answer_to found) c.settings.contrast c.settings.hook };
      bad_answer = λ c. question_mark ∷ [];
    }

module _ (c : Core) (first : c.edition.sister ≡ false) where
  -- A part does the same in both, and leaves a core of the first edition:
  obeyed_first : (frame : List ℕ) → obey_frame c frame ≡ first_handset.obey c frame
  obeyed_first frame =
      λ j. record {
        core = (ap (λ (sister : Bool). obey_any c (order_in sister frame)) first ∙ obeys_first c (order_of frame)) j;
        answers = (ap (λ (sister : Bool). answers_to c (order_in sister frame)) first ∙ answers_first c first (order_of frame)) j;
      }

  refused_first : refuse handset c ≡ refuse first_handset c
  refused_first = λ j. record { core = c; answers = mark_of (first j) }

  act_first : (part : Part) → act handset c part ≡ act first_handset c part
  unfolding act close
  act_first (text b) = refl
  act_first (skipped b) = refl
  act_first (closed frame) = λ j. cond (in_limit frame) (obeyed_first frame j) (refused_first j)
  act_first (abandoned body) = refused_first

  stays_first : (part : Part) → Lawful part → (act handset c part).core.edition.sister ≡ false
  unfolding act close
  stays_first (text b) l = (edition_kept false).stored c b l first
  stays_first (skipped b) l = first
  stays_first (closed frame) l = either_way (λ (a : Answered Core). a.core.edition.sister ≡ false) (in_limit frame) (λ e. frame_keeps_edition c frame ∙ first) (λ e. first)
  stays_first (abandoned body) l = first

-- so do all parts in order.
taken_first : (c : Core) → c.edition.sister ≡ false → {bytes : List ℕ} {parted : Parted} → Parting bytes parted → taking handset c parted ≡ taking first_handset c parted
unfolding taking
taken_first c first ends = refl
taken_first c first (waits body) = refl
taken_first c first (goes_on {part} {rest} {parted} l f p) =
    let now = act_first c first part in
    let later = taken_first (act handset c part).core (stays_first c first part l) p ∙ ap (λ (a : Answered Core). taking first_handset a.core parted) now in
    λ j. answering (now j).answers (later j)

-- What is answered to a frame that is no question: nothing, or one question mark.
abbrev MarkOrNothing : List ℕ → Type 0
MarkOrNothing answers = (answers ≡ []) ⊎ (answers ≡ question_mark ∷ [])

no_question : (o : Order) (c : Core) (frame : List ℕ) → Spells o frame → NoQuestion frame → is_silence (answer_to (some o)) ≡ false → ⊥
no_question o c frame s q h =
    ⊎_elim (λ e. q.not_contrast (subst (λ (x : Order). Spells x frame) e s))
    (⊎_elim (λ e. q.not_hook (subst (λ (x : Order). Spells x frame) e s)) (λ e. q.not_version (subst (λ (x : Order). Spells x frame) e s)))
    (three_questions o c h)

obeyed_marks : (c : Core) (frame : List ℕ) → NoQuestion frame → MarkOrNothing (first_handset.obey c frame).answers
obeyed_marks c frame q = go (order_of frame) refl
  where
    go : (found : Option Order) → order_of frame ≡ found → MarkOrNothing (first_handset.obey c frame).answers
    go none e = inr (rw e)
    go (some o) e =
        by_test (is_silence (answer_to (some o)))
        (λ h. inl (rw e (rw (silence_of (answer_to (some o)) h))))
        (λ h. absurd (no_question o c frame ((agree o frame).0 e) q h))

at_most_one : (answers : List ℕ) → MarkOrNothing answers → length answers ≤ 1
at_most_one answers m = ⊎_elim (λ e. omega (arith, ap length e)) (λ e. omega (arith, ap length e)) m

one_mark : OneAnswer first_handset NoQuestion
one_mark = record { obeyed = λ c frame q. at_most_one (first_handset.obey c frame).answers (obeyed_marks c frame q); refused = λ c. omega arith }

-- Question marks and nothing else.
abbrev is_mark : ℕ → Bool
is_mark b = eqb b question_mark

marks_of : (answers : List ℕ) → MarkOrNothing answers → every is_mark answers ≡ true
marks_of answers m = ⊎_elim (λ e. ap (every is_mark) e) (λ e. ap (every is_mark) e) m

marks_together : (first second : List ℕ) → every is_mark first ≡ true → every is_mark second ≡ true → every is_mark (first ++ second) ≡ true
marks_together [] second h k = k
marks_together (b ∷ first) second h k = let e = both {a = is_mark b} h in and_both {a = is_mark b} e.0 (marks_together first second e.1 k)

marks_first : (first second : List ℕ) → every is_mark (first ++ second) ≡ true → every is_mark first ≡ true
marks_first [] second h = refl
marks_first (b ∷ first) second h = let e = both {a = is_mark b} h in and_both {a = is_mark b} e.0 (marks_first first second e.1)

marks_counted : (answers : List ℕ) → every is_mark answers ≡ true → answers ≡ replicate (length answers) question_mark
marks_counted [] h = refl
marks_counted (b ∷ answers) h = let e = both {a = is_mark b} h in λ j. eqb-true b question_mark e.0 j ∷ marks_counted answers e.1 j

act_marks : (c : Core) (part : Part) → OfThese NoQuestion part → every is_mark (act first_handset c part).answers ≡ true
unfolding act close
act_marks c (text b) q = refl
act_marks c (skipped b) q = refl
act_marks c (closed frame) q = either_way (λ (a : Answered Core). every is_mark a.answers ≡ true) (in_limit frame) (λ e. marks_of (first_handset.obey c frame).answers (obeyed_marks c frame q)) (λ e. refl)
act_marks c (abandoned body) q = refl

taken_marks : (c : Core) (parted : Parted) → EachClosed NoQuestion parted → every is_mark (taking first_handset c parted).answers ≡ true
unfolding taking
taken_marks c done q = refl
taken_marks c (unfinished body) q = refl
taken_marks c (then part parted) q =
    let a = act first_handset c part in
    marks_together a.answers (taking first_handset a.core parted).answers (act_marks c part q.0) (taken_marks a.core parted q.1)

-- OF ANY STREAM without questions
module _ (r : Record) (good : in_range r ≡ true) (first : r.edition.sister ≡ false) {before : List ℕ} (stands : Stands (state_of r).frame before) (bytes lent : List ℕ) {parted : Parted} (p : Parting (before ++ bytes) parted)
    (each : EachClosed NoQuestion parted) where
  abbrev ran : Ran Core
  ran = run handset (state_of r) bytes (length lent)

  is_run : fed_back r bytes lent ≡ ran_back r.held ran lent
  is_run = back_is_run r bytes lent good

  written : (fed_back r bytes lent).written ≡ length ran.answers
  written = ap (λ (b : HandedBack). b.written) is_run

  read_first : (reading handset (state_of r) bytes).answers ≡ (taking first_handset (core_of r) parted).answers
  read_first = ap (λ (t : Taken (State Core)). t.answers) (stream handset (state_of r) bytes stands p ∙ taken_first (core_of r) first p)

  read_at_most : length (reading handset (state_of r) bytes).answers ≤ bound r bytes
  read_at_most =
      omega (
        arith,
        ap length read_first,
        ap (λ (t : Taken (State Core)). length t.answers) (stream first_handset (state_of r) bytes stands p),
        answers_at_most first_handset NoQuestion one_mark (state_of r) bytes stands p each,
      )

  begun : (later : List ℕ) × ((reading handset (state_of r) bytes).answers ≡ ran.answers ++ later)
  begun = answers_begin (step handset) (state_of r) bytes (length lent)

  no_more : (fed_back r bytes lent).written ≤ bound r bytes
  no_more = omega (arith, written, read_at_most, ap length begun.1, length-append ran.answers begun.0)

  ran_marks : every is_mark ran.answers ≡ true
  ran_marks = marks_first ran.answers begun.0 (ap (every is_mark) (sym begun.1 ∙ read_first) ∙ taken_marks (core_of r) parted each)

  nothing_else : (fed_back r bytes lent).buffer ≡ marks_over (fed_back r bytes lent).written lent
  nothing_else =
      ap (λ (b : HandedBack). b.buffer) is_run
      ∙ ap (λ (marks : List ℕ). marks ++ drop (length ran.answers) lent) (marks_counted ran.answers ran_marks)
      ∙ ap (λ (n : ℕ). marks_over n lent) (sym written)

  uses_all : bound r bytes ≤ length lent → (fed_back r bytes lent).used ≡ length bytes
  uses_all fits =
      let read = ap (λ (t : Taken (State Core)). length t.answers) (stream handset (state_of r) bytes stands p) in
      ap (λ (b : HandedBack). b.used)
      (all_taken r good stands bytes lent p (omega (arith, fits, read, read_at_most)))

-- ESC, ESC, .., CR: all frames but the last are abandoned, CR closes the last, and all of them are empty.
abbrev empty_frames : ℕ → Parted
empty_frames zero = then (closed []) done
empty_frames (suc n) = then (abandoned []) (empty_frames n)

empty_parted : (n : ℕ) → Parting (escapes_and_return (suc n)) (empty_frames n)
empty_parted zero = goes_on {part = closed []} empty tt ends
empty_parted (suc n) = goes_on {part = abandoned []} empty opens (empty_parted n)

empty_bad : (o : Order) → Spells o [] → ⊥
unfolding order_of opens_picture read_of read_with reader.read_with classes next_states
empty_bad = (bad_frame []).0 refl

-- A bad frame that CR closes, or ESC abandons, is asked, and what follows is done from the same core.
mark_first : (c : Core) (part : Part) (parted : Parted) (n : ℕ) → act first_handset c part ≡ refuse first_handset c → taking first_handset c parted ≡ record { state = with c no_frame; answers = replicate n question_mark }
    → taking first_handset c (then part parted) ≡ record { state = with c no_frame; answers = replicate (suc n) question_mark }
unfolding taking
mark_first c part parted n e f = ap (λ (a : Answered Core). answering a.answers (taking first_handset a.core parted)) e ∙ ap (answering (question_mark ∷ [])) f

closed_marked : (c : Core) (frame : List ℕ) → ((o : Order) → Spells o frame → ⊥) → act first_handset c (closed frame) ≡ refuse first_handset c
unfolding act close
closed_marked c frame bad = by_test (in_limit frame) (λ e. rw (e, (bad_frame frame).1 bad)) (λ e. rw e)

abandoned_marked : (c : Core) (body : List ℕ) → act first_handset c (abandoned body) ≡ refuse first_handset c
unfolding act
abandoned_marked c body = refl

empty_taken : (c : Core) (n : ℕ) → taking first_handset c (empty_frames n) ≡ record { state = with c no_frame; answers = replicate (suc n) question_mark }
unfolding taking
empty_taken c zero = mark_first c (closed []) done 0 (closed_marked c [] empty_bad) refl
empty_taken c (suc n) = mark_first c (abandoned []) (empty_frames n) (suc n) (abandoned_marked c []) (empty_taken c n)

-- A call with room for all of them.
module _ (r : Record) (good : in_range r ≡ true) (first : r.edition.sister ≡ false) {before : List ℕ} (stands : Stands (state_of r).frame before) (bytes : List ℕ) (lent : List ℕ) where
  asks : {parted : Parted} (n : ℕ) → Parting (before ++ bytes) parted → taking first_handset (core_of r) parted ≡ record { state = with (core_of r) no_frame; answers = replicate n question_mark } → n ≤ length lent
      → fed_back r bytes lent ≡ asked_times r bytes n lent
  asks {parted} n p e fits =
      let taken = taken_first (core_of r) first p ∙ e in
      let size : length (taking handset (core_of r) parted).answers ≡ n = ap (λ (t : Taken (State Core)). length t.answers) taken ∙ length-replicate n question_mark in
      all_taken r good stands bytes lent p (omega (arith, size))
      ∙ ap (λ (t : Taken (State Core)). ran_back r.held (record { state = t.state; used = length bytes; answers = t.answers }) lent) taken
      ∙ ap (λ (k : ℕ). record { after = record_of r.held (with (core_of r) no_frame); used = length bytes; written = k; buffer = replicate n question_mark ++ drop k lent }) (length-replicate n question_mark)

no_frame_stands : (r : Record) → r.frame.state ≡ 0 → Stands (state_of r).frame []
unfolding frame_in
no_frame_stands r e = rw e none_stands

body_standing : {frame : Frame} {body : List ℕ} → Stands frame (escape ∷ body) → Body body
body_standing (open_stands h l) = h
body_standing (overlong_stands h l) = h

return_alone : (c : Core) → taking first_handset c (then (skipped carriage_return) done) ≡ record { state = with c no_frame; answers = [] }
unfolding taking act
return_alone c = refl

from_none : (r : Record) → in_range r ≡ true → r.edition.sister ≡ false → r.frame.state ≡ 0 → (n : ℕ) (lent : List ℕ) → n ≤ length lent
    → fed_back r (escapes_and_return n) lent ≡ asked_times r (escapes_and_return n) n lent
from_none r good first e zero lent fits =
    asks r good first (no_frame_stands r e) (escapes_and_return 0) lent 0 (goes_on {part = skipped carriage_return} (omega arith, λ same. omega arith) tt ends) (return_alone (core_of r)) fits
from_none r good first e (suc n) lent fits = asks r good first (no_frame_stands r e) (escapes_and_return (suc n)) lent (suc n) (empty_parted n) (empty_taken (core_of r) n) fits

from_open : (r : Record) → in_range r ≡ true → r.edition.sister ≡ false → (body : List ℕ) → Stands (state_of r).frame (escape ∷ body) → (n : ℕ) → (n ≡ 0 → (o : Order) → Spells o body → ⊥) → (lent : List ℕ) → suc n ≤ length lent
    → fed_back r (escapes_and_return n) lent ≡ asked_times r (escapes_and_return n) (suc n) lent
unfolding taking
from_open r good first body stands zero bad lent fits =
    asks r good first stands (escapes_and_return 0) lent 1 (rw append-nil at (goes_on {part = closed body} (body_standing stands) tt ends))
    (mark_first (core_of r) (closed body) done 0 (closed_marked (core_of r) body (bad refl)) refl) fits
from_open r good first body stands (suc n) bad lent fits =
    asks r good first stands (escapes_and_return (suc n)) lent (suc (suc n)) (goes_on {part = abandoned body} (body_standing stands) opens (empty_parted n))
    (mark_first (core_of r) (abandoned body) (empty_frames n) (suc n) (abandoned_marked (core_of r) body) (empty_taken (core_of r) n)) fits

escapes_there : (n : ℕ) → escapes (escapes_and_return n) ≡ n
unfolding escapes
escapes_there zero = refl
escapes_there (suc n) = omega (arith, escapes_there n)

opened_in_range : in_range just_opened ≡ true
unfolding in_range text_in_range label_in_range picture_in_range inverse_in_range frame_in_range padded
opened_in_range = refl

opened_stands : Stands (state_of just_opened).frame (escape ∷ [])
unfolding frame_in
opened_stands = open_stands empty (omega arith)

pub answer_room : AnswerRoom
answer_room =
    record {
      at_most = λ r good first before stands bytes lent p each. no_more r good first stands bytes lent p each;
      marks_only = λ r good first before stands bytes lent p each. nothing_else r good first stands bytes lent p each;
      enough = λ r good first before stands bytes lent p each. uses_all r good first stands bytes lent p each;
      counted = room_of_first;
      reached = from_none;
      reached_open = from_open;
      bound_there = λ r n. ap (λ (k : ℕ). k + waiting (state_of r).frame) (escapes_there n);
      reached_at_power_on = λ n. ap (λ (b : HandedBack). b.written) (from_none power_on power_on_in_range.0 refl refl n (replicate n 0) (omega (arith, length-replicate {A = ℕ} n 0)));
      reached_just_opened = λ n.
          ap (λ (b : HandedBack). b.written) (from_open just_opened opened_in_range refl [] opened_stands n (λ e. empty_bad) (replicate (suc n) 0) (omega (arith, length-replicate {A = ℕ} n 0)));
      two_bytes_a_column = λ codes columns d. two_codes_a_column d.items;
    }
