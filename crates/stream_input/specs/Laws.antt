-- LAWS OF WHAT IS HEARD: a call with room for any answer that is offered a byte uses one, what calls use is heard in order, and a
-- record in range stays in range. Assumes nothing.
use Rattle.std.specs.Prelude.{ℕ, zero, suc, ◌+◌, ◌-◌, ◌≤◌, ◌<◌, ◌≡◌, Bool, true, false, List, [], ◌∷◌, ◌++◌, eqb, leb, length, take, drop}
use Rattle.std.proofs.Common.{arith, sym, ap, ◌∙◌, subst, length-drop, take-add, take_all}
use Rattle.std.proofs.Math.Path.{refl}
use Rattle.std.proofs.Math.Option.{some}
use Rattle.std.proofs.Math.Seq.{take-append_seam}
use borrow.Author.Tests.{le-leb, lt-leb}
use Rattle.lists.specs.Codes.{escape, carriage_return, blank}
use Rattle.lists.specs.Tests.{by_test, either_way}
use Rattle.record.specs.declared.Record.{Record}
use Rattle.record.specs.Range.{in_range}
use Rattle.picture.specs.Data.{Bytes}
use Rattle.turns.specs.Taking
use Rattle.turns.specs.Taking.{cut_anywhere}
use Rattle.turns.specs.Room
use Rattle.turns.specs.Room.{Ran, Stops}
use Rattle.turns.proofs.Room.{run_stops, room_for_all}
use Rattle.parting.specs.Rules.{Frame, no_frame, open_frame, overlong}
use Rattle.parting.specs.Meaning.{State, Taken}
use Rattle.parting.specs.Reading.{step, step_from, reading, step_closes}
use Rattle.parting.specs.Room.{run}
use Rattle.record.specs.Core.{Core, core_of}
use Rattle.effect.specs.Obey.{answer_to}
use Rattle.command.specs.declared.Command.TheVariants.{VersionAsked}
use Rattle.command.specs.Order.{plain}
use Rattle.command.specs.Reading.{order_of}
use Rattle.sister_command.specs.declared.SisterCommand.TheVariants.{Asked}
use Rattle.sister_command.specs.declared.Question.TheVariants.{Version}
use Rattle.sister_command.specs.Order as any
use Rattle.sister_command.specs.Order.{AnyOrder, own}
use Rattle.sister_command.specs.Grammar.{SpellsIn}
use Rattle.sister_command.specs.Reading.{sister_order_of, order_in}
use Rattle.sister_command.proofs.Agree.{agree_in}
use Rattle.sister_effect.specs.Obey.{mark_of, answers_to, told_to}
use Rattle.sister_effect.specs.Questions.{answers_told, answers_first}
use Rattle.sister_answer.specs.Laws.{told_at_most}
use Rattle.answer.specs.Answers.{heads}
use Rattle.answer.specs.Laws.{answer_at_most, heads_append}
use Rattle.stream.specs.Stream.{handset, state_of, record_of, fed_of, answers_after}
use Rattle.stream.specs.declared.Fed.{Fed}
use Rattle.stream.proofs.Demand.{record_same, state_same, fed_in_range}
use Rattle.stream_input.specs.declared.Call.{Call}
use Rattle.stream_input.specs.declared.Heard.{Heard}
use Rattle.stream_input.specs.Heard.{greatest, capped, record_after, replies_to, answered, call_of, counted, heard_after, Hears}

-- Progress ----------------------------------------------------------------------------------------------------------

-- the longest answer of each edition, and the question that gets it: the version's
abbrev pub longest : Bool → ℕ
longest true = 31
longest false = 29

abbrev pub version_asked : Bool → AnyOrder
version_asked true = own (Asked Version)
version_asked false = any.first (plain VersionAsked)

abbrev AtMostLongest : Core → Taken Core → Type 0
AtMostLongest core taken = length taken.answers ≤ longest core.edition.sister

answers_at_most : (c : Core) (body : List ℕ) → length (answers_to c (order_in c.edition.sister body)) ≤ longest c.edition.sister
answers_at_most c body = go c.edition.sister refl
  where
    go : (sister : Bool) → c.edition.sister ≡ sister → length (answers_to c (order_in sister body)) ≤ longest sister
    go true h = rw (answers_told c body h) (told_at_most (told_to c (sister_order_of body)))
    go false h = rw (answers_first c h (order_of body)) (answer_at_most c.settings.contrast c.settings.hook (answer_to (order_of body)))

mark_at_most : (sister : Bool) → length (mark_of sister) ≤ longest sister
mark_at_most true = omega arith
mark_at_most false = omega arith

-- A byte is answered with 29 bytes at most, of the sister's with 31.
pub one_answer : (state : State Core) (b : ℕ) → length (step handset state b).answers ≤ longest state.core.edition.sister
unfolding step
one_answer state b = go state.frame
  where
    none : 0 ≤ longest state.core.edition.sister
    none = omega arith

    mark : length (mark_of state.core.edition.sister) ≤ longest state.core.edition.sister
    mark = mark_at_most state.core.edition.sister

    go : (frame : Frame) → AtMostLongest state.core (step_from handset state.core frame b)
    go no_frame = either_way (AtMostLongest state.core) (eqb b escape) (λ e. none) (λ e. either_way (AtMostLongest state.core) (leb blank b) (λ f. none) (λ f. none))
    go (open_frame body) =
        either_way (AtMostLongest state.core) (eqb b escape) (λ e. mark) (λ e. either_way (AtMostLongest state.core) (eqb b carriage_return) (λ f. answers_at_most state.core body) (λ f. none))
    go overlong = either_way (AtMostLongest state.core) (eqb b escape) (λ e. mark) (λ e. either_way (AtMostLongest state.core) (eqb b carriage_return) (λ f. mark) (λ f. none))

run_goes_on : (state : State Core) (bytes : List ℕ) (room : ℕ) → longest state.core.edition.sister ≤ room → 0 < length bytes → 0 < (run handset state bytes room).used
unfolding Room.run
run_goes_on state [] room l m = omega arith
run_goes_on state (b ∷ rest) room l m = rw (le-leb (length (step handset state b).answers) room (omega (arith, one_answer state b))) (omega arith)

-- So a call that is offered a byte uses one, if its room takes the longest answer.
pub goes_on : (r : Record) (bytes : List ℕ) (room : ℕ) → in_range r ≡ true → longest r.edition.sister ≤ room → 0 < length bytes → 0 < (fed_of r bytes room).used
unfolding fed_of
goes_on r bytes room h l m = rw h (run_goes_on (state_of r) bytes room l m)

version_answer : (c : Core) → length (answers_to c (some (version_asked c.edition.sister))) ≡ longest c.edition.sister
version_answer c = by_test c.edition.sister (λ h. rw h) (λ h. rw h)

-- With less room it does not get past the question for the version: where that frame is open, its CR is not used, whatever follows.
module _ (r : Record) (frame rest : List ℕ) (room : ℕ) where
  abbrev sister : Bool
  sister = r.edition.sister

  run_waits : SpellsIn sister (version_asked sister) frame → (state_of r).frame ≡ open_frame frame → room < longest sister → (run handset (state_of r) (carriage_return ∷ rest) room).used ≡ 0
  unfolding Room.run
  run_waits s f l =
      let found = (agree_in sister (version_asked sister) frame).1 s in
      rw (step_closes handset (state_of r) carriage_return frame f refl, found, version_answer (core_of r), lt-leb (longest sister) room l)

  pub waits_for_room : in_range r ≡ true → SpellsIn sister (version_asked sister) frame → (state_of r).frame ≡ open_frame frame → room < longest sister → (fed_of r (carriage_return ∷ rest) room).used ≡ 0
  unfolding fed_of
  waits_for_room h s f l = rw h (run_waits s f l)

-- One call ----------------------------------------------------------------------------------------------------------

module _ (r : Record) (bytes : List ℕ) (room : ℕ) where
  abbrev fed : Fed
  fed = fed_of r bytes room

  stops : Stops (step handset) (state_of r) bytes room (run handset (state_of r) bytes room)
  stops = run_stops (step handset) (state_of r) bytes room

  -- It uses what it was offered,
  pub uses_within : fed.used ≤ length bytes
  unfolding fed_of
  uses_within = by_test (in_range r) (λ h. rw h stops.within) (λ h. rw h (omega arith))

  -- writes where there is room,
  pub writes_within : fed.written ≤ room
  unfolding fed_of
  writes_within = by_test (in_range r) (λ h. rw h stops.fits) (λ h. rw h (omega arith))

  -- and uses nothing from a record out of range.
  pub refused_uses : in_range r ≡ false → fed.used ≡ 0
  unfolding fed_of
  refused_uses h = rw h

  -- What it leaves is the reading of what it used.
  call_after : in_range r ≡ true → fed.record ≡ record_after r (take fed.used bytes)
  unfolding fed_of record_after
  call_after h = rw h (ap (λ (taken : Taken Core). record_of r.held taken.state) stops.does)

  call_replies : in_range r ≡ true → heads (answered r bytes room) ≡ replies_to r (take fed.used bytes)
  unfolding fed_of answered replies_to
  call_replies h = rw h (ap (λ (taken : Taken Core). heads taken.answers) stops.does)

pub call_heard : (before : Heard) (bytes : List ℕ) (room : ℕ) → in_range before.record ≡ true
    → (let call = call_of before.record bytes room in counted before call.fed.record call.replies ≡ heard_after before (take call.fed.used bytes))
call_heard before bytes room h = λ j. counted before (call_after before.record bytes room h j) (call_replies before.record bytes room h j)

-- Its answers stand in the part of the buffer that it wrote: so they are counted there.
what_was_written : (r : Record) (bytes buffer : List ℕ) → take (fed_of r bytes (length buffer)).written (answers_after r bytes buffer) ≡ answered r bytes (length buffer)
unfolding fed_of answers_after answered
what_was_written r bytes buffer =
    let answers : List ℕ = (run handset (state_of r) bytes (length buffer)).answers in
    by_test (in_range r) (λ h. rw h (take-append_seam answers (drop (length answers) buffer))) (λ h. rw h)

pub counted_there : (r : Record) (bytes buffer : List ℕ) {fed : Fed} {after : List ℕ} {replies : ℕ} → fed ≡ fed_of r bytes (length buffer) → after ≡ answers_after r bytes buffer
    → replies ≡ heads (take fed.written after) → record { fed = fed; replies = replies } ≡ call_of r bytes (length buffer)
counted_there r bytes buffer {fed} {after} {replies} e f n =
    let all : replies ≡ heads (answered r bytes (length buffer)) = n ∙ (λ j. heads (take (e j).written (f j))) ∙ ap heads (what_was_written r bytes buffer) in
    λ j. record { fed = e j; replies = all j }

-- Bytes heard -------------------------------------------------------------------------------------------------------

-- A RECORD IN RANGE STAYS IN RANGE, whatever is heard.
pub heard_in_range : (r : Record) (bytes : List ℕ) → in_range r ≡ true → in_range (record_after r bytes) ≡ true
unfolding record_after fed_of
heard_in_range r bytes h =
    let room : ℕ = length (reading handset (state_of r) bytes).answers in
    let whole : (fed_of r bytes room).record ≡ record_after r bytes =
    rw h (ap (λ (ran : Ran (State Core)). record_of r.held ran.state) (room_for_all (step handset) (state_of r) bytes room (omega arith)))
    in
    subst (λ (after : Record). in_range after ≡ true) whole (fed_in_range r bytes room h)

-- No bytes leave all as it is.
pub heard_nothing : (before : Heard) → in_range before.record ≡ true → before.replies ≤ greatest → before ≡ heard_after before []
unfolding record_after replies_to Taking.reading
heard_nothing before h l =
    let replies : before.replies ≡ capped (before.replies + 0) = omega arith in
    λ j. record { «record» = sym (record_same before.record h) j; replies = replies j; failed = before.failed }

-- IT DOES NOT MATTER WHERE THEY ARE CUT: to hear some and then more is to hear both.
pub heard_then : (before : Heard) (first second : List ℕ) → heard_after (heard_after before first) second ≡ heard_after before (first ++ second)
unfolding record_after replies_to
heard_then before first second =
    let r : Record = before.record in
    let middle : Taken Core = reading handset (state_of r) first in
    let after : Taken Core = reading handset middle.state second in
    let both = cut_anywhere (step handset) (state_of r) first second in
    let same = state_same r.held middle.state in
    let replies : capped (capped (before.replies + heads middle.answers) + heads after.answers) ≡ capped (before.replies + heads (middle.answers ++ after.answers)) =
    omega (arith, heads_append middle.answers after.answers)
    in
    ap (λ (s : State Core). counted (heard_after before first) (record_of r.held (reading handset s second).state) (heads (reading handset s second).answers)) same
    ∙ (λ j. record { «record» = record_of r.held after.state; replies = replies j; failed = before.failed })
    ∙ ap (λ (taken : Taken Core). counted before (record_of r.held taken.state) (heads taken.answers)) (sym both)

-- Pieces ------------------------------------------------------------------------------------------------------------

longest_fits : (sister : Bool) → longest sister ≤ 64
longest_fits true = omega arith
longest_fits false = omega arith

-- a piece heard up to this place
pub record SoFar (start : Heard) (piece : List ℕ) (now : Heard) (at : ℕ) : Type 0 where
  pub within : at ≤ length piece
  pub some : in_range start.record ≡ true → now ≡ heard_after start (take at piece)
  pub none : in_range start.record ≡ false → now ≡ start

pub begins : (start : Heard) (piece : List ℕ) → start.replies ≤ greatest → SoFar start piece start 0
begins start piece l = record { within = omega arith; some = λ h. heard_nothing start h l; none = λ h. refl }

module _ {start : Heard} {piece : List ℕ} {now : Heard} {at : ℕ} (so_far : SoFar start piece now at) where
  -- the part of the piece that a call is offered
  abbrev rest : List ℕ
  rest = take (length piece - at) (drop at piece)

  good : in_range start.record ≡ true → in_range now.record ≡ true
  good h = subst (λ (m : Heard). in_range m.record ≡ true) (sym (so_far.some h)) (heard_in_range start.record (take at piece) h)

  rest_is : rest ≡ drop at piece
  rest_is = take_all (length piece - at) (drop at piece) (omega (arith, length-drop at piece))

  rest_length : length rest ≡ length piece - at
  rest_length = ap length rest_is ∙ length-drop at piece

  -- A room of 64 makes progress before the end of the piece,
  pub progress : in_range start.record ≡ true → at < length piece → 0 < (fed_of now.record rest 64).used
  progress h l = goes_on now.record rest 64 (good h) (longest_fits now.record.edition.sister) (omega (arith, rest_length))

  -- and the piece is heard as far as the call used it.
  pub further : (call : Call) → call ≡ call_of now.record rest 64 → (call.fed.used ≡ 0 → ⊥)
      → SoFar start piece (counted now call.fed.record call.replies) (at + call.fed.used)
  further call e used =
      record {
        within = omega (arith, ap (λ (c : Call). c.fed.used) e, uses_within now.record rest 64, rest_length, so_far.within);
        some = λ h.
            ap (λ (c : Call). counted now c.fed.record c.replies) e
            ∙ call_heard now rest 64 (good h)
            ∙ (λ j. heard_after (so_far.some h j) (take (sym e j).fed.used (rest_is j)))
            ∙ heard_then start (take at piece) (take call.fed.used (drop at piece))
            ∙ ap (heard_after start) (sym (take-add at call.fed.used piece));
        none = λ h. absurd (used (ap (λ (c : Call). c.fed.used) e ∙ refused_uses now.record rest 64 (subst (λ (m : Heard). in_range m.record ≡ false) (sym (so_far.none h)) h)));
      }

  -- At its end it is heard whole.
  pub ends : length piece ≤ at → in_range start.record ≡ true → now ≡ heard_after start piece
  ends l h = so_far.some h ∙ ap (heard_after start) (take_all at piece l)

-- Some bytes, and then some more -----------------------------------------------------------------------------------

bytes_then : (first second : List ℕ) → Bytes first → Bytes second → Bytes (first ++ second)
bytes_then [] second f s i = s i
bytes_then (b ∷ first) second f s zero = f zero
bytes_then (b ∷ first) second f s (suc i) = bytes_then first second (λ k. f (suc k)) s i

pub hears_nothing : (before : Heard) → before.replies ≤ greatest → Hears before before
hears_nothing before l = record { some = λ h. ([], λ i. omega arith, heard_nothing before h l); none = λ h. refl }

pub hears_then : {before middle after : Heard} → Hears before middle → Hears middle after → Hears before after
hears_then {before} {middle} {after} first second =
    record {
      some = λ h.
          let one = first.some h in
          let good : in_range middle.record ≡ true = subst (λ (m : Heard). in_range m.record ≡ true) (sym one.2) (heard_in_range before.record one.0 h) in
          let other = second.some good in
          (one.0 ++ other.0, bytes_then one.0 other.0 one.1 other.1, other.2 ∙ ap (λ (m : Heard). heard_after m other.0) one.2 ∙ heard_then before one.0 other.0);
      none = λ h. second.none (subst (λ (m : Heard). in_range m.record ≡ false) (sym (first.none h)) h) ∙ first.none h;
    }

-- From the start nothing is counted, so the count is that of the bytes' answers.
pub from_the_start : {failed : Bool} (r : Record) (after : Heard) → Hears (record { «record» = r; replies = 0; failed = failed }) after
    → (in_range r ≡ true → (bytes : List ℕ) × Bytes bytes × (after.record ≡ record_after r bytes) × (after.replies ≡ capped (replies_to r bytes)))
    × (in_range r ≡ false → (after.record ≡ r) × (after.replies ≡ 0))
from_the_start r after hears = (
  λ h.
      let some = hears.some h in
      let e = some.2 in
      (some.0, some.1, ap (λ (m : Heard). m.record) e, omega (arith, ap (λ (m : Heard). m.replies) e)),
  λ h.
      let e = hears.none h in
      (ap (λ (m : Heard). m.record) e, ap (λ (m : Heard). m.replies) e),
)
