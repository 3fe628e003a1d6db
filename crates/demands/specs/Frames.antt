-- A CLOSED FRAME OF THE STREAM: what it does and answers, good, out of range or bad; and then the stream call itself on a whole frame,
-- ESC, frame, CR, from a record in range with no frame open. Assumes nothing.
use Rattle.std.specs.Prelude.{ℕ, suc, ◌≤◌, ◌<◌, ◌≡◌, refl, Bool, true, false, length, take}
use Rattle.std.proofs.Common.{arith, inr, sym, ap, ◌∙◌, subst, true≢false, length-append, le-leb}
use mathlib.Core.List.{List, [], ◌∷◌, ◌++◌, append-nil}
use Rattle.std.proofs.Math.Seq.{take-append_seam, take-length}
use Rattle.lists.specs.Codes.{escape, carriage_return}
use Rattle.lists.specs.Tests.{by_test}
use Rattle.record.specs.declared.Record.{Record}
use Rattle.record.specs.declared.Frame.{Frame as KeptFrame}
use Rattle.record.specs.Range.{in_range}
use Rattle.record.specs.Core.{Core, core_of}
use Rattle.answer.specs.Answers.{answer_bytes}
use Rattle.effect.specs.Effect.{carry_out}
use Rattle.effect.specs.Questions.{passed_over_silent}
use Rattle.sister_answer.specs.Told.{told_bytes}
use Rattle.sister_command.specs.Order.{AnyOrder, first, own}
use Rattle.sister_command.specs.Grammar.{SpellsIn, never_spelt}
use Rattle.sister_command.specs.InRange.{any_in_range}
use Rattle.sister_command.proofs.Agree.{agree_in, bad_frame_in, within_in}
use Rattle.sister_effect.specs.Effect.{own_told}
use Rattle.sister_effect.specs.Obey.{effect_any, refused_any, carry_out_any, obey_any, mark_of, answers_to}
use Rattle.sister_effect.specs.Questions.{own_obeyed, own_refused, own_passed_over, passed_over_untold}
use Rattle.std.proofs.Math.Option.{some}
use Rattle.turns.specs.Taking.{Taken, silently}
use Rattle.turns.specs.Room.{Ran, Stops}
use Rattle.turns.proofs.Room.{run_stops, only_one, room_for_all}
use Rattle.parting.specs.Rules.{Body, closed, Parted, done, then, Parting, ends, waits, goes_on, Frame, no_frame, keep, limit, in_limit, Stands, none_stands}
use Rattle.parting.specs.Meaning.{Answered, State, with, close, act, taking}
use Rattle.parting.specs.Reading.{step, reading}
use Rattle.parting.proofs.Stream.{stream}
use Rattle.stream.specs.Stream.{handset, kept_frame, frame_in, state_of, record_of, written_over}
use Rattle.stream.specs.Frames.{body_of}
use Rattle.stream.specs.Demand.{HandedBack, fed_back, parts_taken, ran_back}
use Rattle.stream.proofs.Demand.{back_is_run, record_same}

-- THE PART ------------------------------------------------------------------------------------------------------------

-- the mark of a bad frame, which goes by the edition
abbrev pub mark_in : Core → List ℕ
mark_in c = mark_of c.edition.sister

abbrev pub asked : Core → Answered Core
asked c = record { core = c; answers = mark_in c }

abbrev pub silent : Core → Answered Core
silent c = record { core = c; answers = [] }

-- the frame spells the order in the record's edition, and the order is in range in its text mode
abbrev pub SpellsFor : Core → AnyOrder → List ℕ → Type 0
SpellsFor c o frame = SpellsIn c.edition.sister o frame

abbrev pub inside : Core → AnyOrder → Bool
inside c o = any_in_range c.settings.screen.mode o

-- what an order is answered: a question its answer, one that is refused the mark, any other nothing
abbrev pub answer_on : Core → AnyOrder → List ℕ
answer_on c o = answers_to c (some o)

abbrev pub said : Core → AnyOrder → Core → Answered Core
said c o after = record { core = after; answers = answer_on c o }

carried : (c : Core) (o : AnyOrder) → inside c o ≡ true → refused_any o c ≡ false → carry_out_any o c ≡ effect_any o c
unfolding carry_out
carried c (first o) h r = rw h
carried c (own command) h r = own_obeyed command c h r

passed_over : (c : Core) (o : AnyOrder) → inside c o ≡ false → said c o (carry_out_any o c) ≡ silent c
unfolding carry_out
passed_over c (first o) h =
    let same : carry_out o c ≡ c = rw h in
    λ j. record { core = same j; answers = answer_bytes (passed_over_silent o c.settings.screen.mode h j) c.settings.contrast c.settings.hook }
passed_over c (own command) h = λ j. record { core = own_passed_over command c h j; answers = told_bytes (passed_over_untold command c h j) }

refused : (c : Core) (o : AnyOrder) → c.edition.sister ≡ true → refused_any o c ≡ true → said c o (carry_out_any o c) ≡ asked c
refused c (first o) e h = absurd (true≢false (sym h))
refused c (own command) e h = λ j. record { core = own_refused command c h j; answers = marked j }
  where
    marked : told_bytes (own_told command c) ≡ mark_in c
    marked = rw (h, e)

-- the first edition has no command of the sister's
of_sister : (sister : Bool) (o : AnyOrder) (c : Core) {frame : List ℕ} → SpellsIn sister o frame → refused_any o c ≡ true → sister ≡ true
of_sister true o c s h = refl
of_sister false (first o) c s h = absurd (true≢false (sym h))
of_sister false (own command) c s h = absurd (never_spelt s)

module _ (c : Core) (frame : List ℕ) where
  -- No good frame is cut by the limit of 250: it is obeyed.
  pub whole : (o : AnyOrder) → SpellsFor c o frame → act handset c (closed frame) ≡ said c o (carry_out_any o c)
  unfolding act close
  whole o s =
      let found = (agree_in c.edition.sister o frame).1 s in
      rw (le-leb (length frame) limit (omega (arith, (within_in c.edition.sister o s).most)))
      (λ j. record { core = obey_any c (found j); answers = answers_to c (found j) })

  -- A good frame in range has its order's effect; a question is answered, any other is obeyed in silence.
  pub closed_obeyed : (o : AnyOrder) → SpellsFor c o frame → inside c o ≡ true → refused_any o c ≡ false → act handset c (closed frame) ≡ said c o (effect_any o c)
  closed_obeyed o s h r = whole o s ∙ ap (said c o) (carried c o h r)

  -- One with a number out of range gets silence, and nothing changes.
  pub closed_passed_over : (o : AnyOrder) → SpellsFor c o frame → inside c o ≡ false → act handset c (closed frame) ≡ silent c
  closed_passed_over o s h = whole o s ∙ passed_over c o h

  -- One that the record's state refuses gets the mark, and nothing changes.
  pub closed_refused : (o : AnyOrder) → SpellsFor c o frame → refused_any o c ≡ true → act handset c (closed frame) ≡ asked c
  closed_refused o s h = whole o s ∙ refused c o (of_sister c.edition.sister o c s h) h

  -- A bad one gets one question mark, and nothing changes.
  pub closed_asked : ((o : AnyOrder) → SpellsFor c o frame → ⊥) → act handset c (closed frame) ≡ asked c
  unfolding act close
  closed_asked bad = by_test (in_limit frame) (λ e. rw (e, (bad_frame_in c.edition.sister frame).1 bad)) (λ e. rw e)

-- THE CALL ------------------------------------------------------------------------------------------------------------

-- With room for all answers a call uses all bytes and has taken all parts.
pub all_taken : (r : Record) → in_range r ≡ true → {before : List ℕ} → Stands (state_of r).frame before → (bytes lent : List ℕ) {parted : Parted} → Parting (before ++ bytes) parted
    → length (taking handset (core_of r) parted).answers ≤ length lent → fed_back r bytes lent ≡ parts_taken r parted (length bytes) lent
all_taken r good stands bytes lent p fits =
    let read = stream handset (state_of r) bytes stands p in
    let ran = room_for_all (step handset) (state_of r) bytes (length lent) (subst (λ (t : Taken (State Core)). length t.answers ≤ length lent) (sym read) fits) in
    back_is_run r bytes lent good
    ∙ ap (λ (t : Ran (State Core)). ran_back r.held t lent) ran
    ∙ ap (λ (t : Taken (State Core)). ran_back r.held (record { state = t.state; used = length bytes; answers = t.answers }) lent) read

-- ESC, the frame, CR
abbrev pub whole_frame : List ℕ → List ℕ
whole_frame frame = escape ∷ (frame ++ carriage_return ∷ [])

-- the record with another core; its held key and its frame stay
abbrev pub with_core : Record → Core → Record
with_core r c = record { settings = c.settings; text = c.text; picture = c.picture; held = r.held; frame = r.frame; edition = c.edition }

-- all bytes used, and this done and answered
abbrev pub used_whole : Record → List ℕ → List ℕ → Answered Core → HandedBack
used_whole r frame lent a =
    record { after = with_core r a.core; used = length (whole_frame frame); written = length a.answers; buffer = written_over a.answers lent }

module _ (r : Record) (good : in_range r ≡ true) (none : r.frame.state ≡ 0) (frame : List ℕ) (body : Body frame) where
  abbrev does : Answered Core
  does = act handset (core_of r) (closed frame)

  none_open : (state_of r).frame ≡ no_frame
  unfolding frame_in
  none_open = rw none

  pub stands : Stands (state_of r).frame []
  stands = subst (λ (f : Frame). Stands f []) (sym none_open) none_stands

  pub no_frame_kept : kept_frame no_frame ≡ r.frame
  no_frame_kept = ap kept_frame (sym none_open) ∙ ap (λ (s : Record). s.frame) (record_same r good)

  one_part : Parting (whole_frame frame) (then (closed frame) done)
  one_part = rw append-nil at (goes_on {part = closed frame} body tt ends)

  reads : reading handset (state_of r) (whole_frame frame) ≡ record { state = with does.core no_frame; answers = does.answers }
  unfolding taking
  reads = stream handset (state_of r) (whole_frame frame) stands one_part ∙ (λ j. record { state = with does.core no_frame; answers = append-nil does.answers j })

  -- With room for its answer a whole frame is used whole, and does what the part does.
  does_whole : (lent : List ℕ) → length does.answers ≤ length lent → fed_back r (whole_frame frame) lent ≡ used_whole r frame lent does
  does_whole lent fits =
      let ran = room_for_all (step handset) (state_of r) (whole_frame frame) (length lent) (subst (λ (t : Taken (State Core)). length t.answers ≤ length lent) (sym reads) fits) in
      back_is_run r (whole_frame frame) lent good
      ∙ ap (λ (t : Ran (State Core)). ran_back r.held t lent) ran
      ∙ ap (λ (t : Taken (State Core)). ran_back r.held (record { state = t.state; used = length (whole_frame frame); answers = t.answers }) lent) reads
      ∙ ap
      (λ (kept : KeptFrame). record {
        after = record { settings = does.core.settings; text = does.core.text; picture = does.core.picture; held = r.held; frame = kept; edition = does.core.edition };
        used = length (whole_frame frame);
        written = length does.answers;
        buffer = written_over does.answers lent;
      })
      no_frame_kept

  same_whole : (lent : List ℕ) {a : Answered Core} → does ≡ a → length a.answers ≤ length lent → fed_back r (whole_frame frame) lent ≡ used_whole r frame lent a
  same_whole lent e fits = does_whole lent (subst (λ (b : Answered Core). length b.answers ≤ length lent) (sym e) fits) ∙ ap (used_whole r frame lent) e

  -- BAD, with room: one question mark, and nothing changes.
  pub bad_whole : ((o : AnyOrder) → SpellsFor (core_of r) o frame → ⊥) → (lent : List ℕ) → length (mark_in (core_of r)) ≤ length lent
      → fed_back r (whole_frame frame) lent ≡ record { after = r; used = length (whole_frame frame); written = length (mark_in (core_of r)); buffer = written_over (mark_in (core_of r)) lent }
  bad_whole bad lent room = same_whole lent (closed_asked (core_of r) frame bad) room

  waiting : reading handset (state_of r) (escape ∷ frame) ≡ silently (with (core_of r) (keep frame))
  unfolding taking
  waiting = stream handset (state_of r) (escape ∷ frame) stands (waits body)

  -- WITHOUT ROOM for the whole answer the call stops before the CR, which is not used, nothing of the answer is written, and the frame
  -- is still open (overlong, if it is too long).
  pub without_room : (lent : List ℕ) → length lent < length does.answers
      → fed_back r (whole_frame frame) lent ≡ record { after = record_of r.held (with (core_of r) (keep frame)); used = suc (length frame); written = 0; buffer = lent }
  without_room lent short =
      let now : take (suc (length frame)) (whole_frame frame) ≡ escape ∷ frame = ap (λ (l : List ℕ). escape ∷ l) (take-append_seam frame (carriage_return ∷ [])) in
      let long : length (whole_frame frame) ≡ suc (suc (length frame)) = omega (arith, length-append frame (carriage_return ∷ [])) in
      let next : take (suc (suc (length frame))) (whole_frame frame) ≡ whole_frame frame = ap (λ (n : ℕ). take n (whole_frame frame)) (sym long) ∙ take-length (whole_frame frame) in
      let more : length lent < length (reading handset (state_of r) (whole_frame frame)).answers = omega (arith, short, ap (λ (t : Taken (State Core)). length t.answers) reads) in
      let stopped : Stops (step handset) (state_of r) (whole_frame frame) (length lent) (record { state = with (core_of r) (keep frame); used = suc (length frame); answers = [] }) =
      record {
        within = omega (arith, long);
        does = sym (ap (reading handset (state_of r)) now ∙ waiting);
        fits = omega arith;
        stops = inr (subst (λ (l : List ℕ). length lent < length (reading handset (state_of r) l).answers) (sym next) more);
      }
      in
      back_is_run r (whole_frame frame) lent good
      ∙ ap (λ (t : Ran (State Core)). ran_back r.held t lent) (only_one (step handset) (run_stops (step handset) (state_of r) (whole_frame frame) (length lent)) stopped)

  -- So a bad frame without room for the whole mark.
  pub bad_without_room : ((o : AnyOrder) → SpellsFor (core_of r) o frame → ⊥) → (lent : List ℕ) → length lent < length (mark_in (core_of r))
      → fed_back r (whole_frame frame) lent ≡ record { after = record_of r.held (with (core_of r) (keep frame)); used = suc (length frame); written = 0; buffer = lent }
  bad_without_room bad lent short = without_room lent (omega (arith, ap (λ (a : Answered Core). length a.answers) (closed_asked (core_of r) frame bad)))

module _ (r : Record) (good : in_range r ≡ true) (none : r.frame.state ≡ 0) (frame : List ℕ) (o : AnyOrder) (s : SpellsFor (core_of r) o frame) (lent : List ℕ) where
  plain : Body frame
  plain = body_of frame (within_in r.edition.sister o s).plain

  -- GOOD AND IN RANGE, with room for its answer, if it has one: the order's effect and nothing else, and the whole answer.
  pub good_whole : inside (core_of r) o ≡ true → refused_any o (core_of r) ≡ false → length (answer_on (core_of r) o) ≤ length lent
      → fed_back r (whole_frame frame) lent
      ≡ record { after = with_core r (effect_any o (core_of r)); used = length (whole_frame frame); written = length (answer_on (core_of r) o); buffer = written_over (answer_on (core_of r) o) lent }
  good_whole h k room = same_whole r good none frame plain lent (closed_obeyed (core_of r) frame o s h k) room

  -- WITHOUT ROOM for it the call stops before the CR, and nothing has happened but that the frame is open.
  pub question_waits : length lent < length (answer_on (core_of r) o)
      → fed_back r (whole_frame frame) lent ≡ record { after = record_of r.held (with (core_of r) (keep frame)); used = suc (length frame); written = 0; buffer = lent }
  question_waits short =
      without_room r good none frame plain lent
      (subst (λ (a : Answered Core). length lent < length a.answers) (sym (whole (core_of r) frame o s)) short)

  -- GOOD AND OUT OF RANGE: nothing changes; no answer.
  pub passed_over_whole : inside (core_of r) o ≡ false
      → fed_back r (whole_frame frame) lent ≡ record { after = r; used = length (whole_frame frame); written = 0; buffer = lent }
  passed_over_whole outside = same_whole r good none frame plain lent (closed_passed_over (core_of r) frame o s outside) (omega arith)

  -- GOOD AND REFUSED by the record's state: the mark, and nothing changes.
  pub refused_whole : refused_any o (core_of r) ≡ true → length (mark_in (core_of r)) ≤ length lent
      → fed_back r (whole_frame frame) lent ≡ record { after = r; used = length (whole_frame frame); written = length (mark_in (core_of r)); buffer = written_over (mark_in (core_of r)) lent }
  refused_whole h room = same_whole r good none frame plain lent (closed_refused (core_of r) frame o s h) room
