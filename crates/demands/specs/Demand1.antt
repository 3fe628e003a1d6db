-- DEMAND 1. "Every call ends with a named answer, on all bytes, key logs and records. A record with a field outside its range is
-- refused and handed back as it came, with no lent byte altered. A bad frame gets one question mark, an out-of-range one gets
-- silence, and neither changes text, icon, label, picture or setting." Statements first; each call's own clause is told by these
-- definitions. Assumes nothing.
use Rattle.std.specs.Prelude.{ℕ, suc, ◌<◌, ◌≤◌, ◌≡◌, refl, Bool, true, false, cond, not, ◌||◌, List, [], ◌∷◌, ltb, length, Err}
use Rattle.std.proofs.Common.{le-leb}
use Rattle.std.proofs.lemmas.Bool.{lt-leb}
use Rattle.lists.specs.Codes.{question_mark, carriage_return, line_feed}
use Rattle.lists.specs.Every.{every}
use Rattle.record.specs.declared.Record.{Record}
use Rattle.record.specs.declared.Backlight.{Backlight}
use Rattle.record.specs.Number.{paper_number, numbered, ended}
use Rattle.record.specs.declared.Refusal.TheVariants.{FieldOutOfRange, NotListed}
use Rattle.record.specs.Range.{in_range, backlight_in_range}
use Rattle.command.specs.Order.{Order}
use Rattle.sister_command.specs.Order.{AnyOrder, first}
use Rattle.sister_effect.specs.Obey.{refused_any, mark_of}
use Rattle.record.specs.Core.{Core, core_of}
use Rattle.parting.specs.Rules.{Body, closed, abandoned, keep, limit}
use Rattle.parting.specs.Meaning.{with, close, act}
use Rattle.stream.specs.Stream.{handset, record_of, fed_of, answers_after, written_over}
use Rattle.stream.specs.Demand.{fed_back}
use Rattle.key_log.specs.Steps.{listed_in}
use Rattle.key_log.specs.Log.{outcome, handed_back, buffer_after}
use Rattle.key_log.specs.Laws.{ends_with_1, ends_with_5, ends_with_4, ends_with_0}
use Rattle.seconds.specs.Seconds.{passed, light_passed}
use Rattle.seconds.specs.Laws.{second_done, second_refused, light_done, light_refused}
use Rattle.hook.specs.Hook.{hooked}
use Rattle.hook.specs.Laws.{hook_refused, hook_done}
use Rattle.answer_room.specs.Needed.{room_needed}
use Rattle.answer_room.specs.Laws.{room_refused, room_counted}
use Rattle.seen_panels.specs.declared.Phase.{Phase}
use Rattle.seen.specs.Rows.{row_seen, sms_seen, volume_seen}
use Rattle.seen.specs.Columns.{column_seen}
use Rattle.seen.specs.Laws.{row_number, row_refused, column_number, column_refused, panel_numbers, panels_refused}
use Rattle.writer.specs.Writing.{written_of, count_of, room_after}
use Rattle.demands.specs.Frames.{mark_in, asked, silent, SpellsFor, inside, answer_on, whole_frame, closed_asked, closed_passed_over, closed_refused, bad_whole, bad_without_room, question_waits, passed_over_whole, refused_whole}

-- what a refusal hands back of a call that takes a record and lends a buffer: its number, the record as it came, no byte used or
-- written, the buffer as it was
pub record Refused (number ended : ℕ) (given back : Record) (used written : ℕ) (before after : List ℕ) : Type 0 where
  pub named : ended ≡ number
  pub as_it_came : back ≡ given
  pub none_used : used ≡ 0
  pub none_written : written ≡ 0
  pub untouched : after ≡ before

pub record Demand1 : Type 0 where
  -- The stream call: 1, else 0. The call on lent arrays is the same call (Tie, feed-lent-says).
  pub feed_refuses : (r : Record) (bytes before : List ℕ) → in_range r ≡ false
      → (let f = fed_of r bytes (length before) in Refused 1 (paper_number f.number) r f.record f.used f.written before (answers_after r bytes before))
  pub feed_done : (r : Record) (bytes : List ℕ) (room : ℕ) → in_range r ≡ true → paper_number (fed_of r bytes room).number ≡ 0
  -- The key log: 1, then 5, then 4, else 0.
  pub log_refuses_1 : (r : Record) (ticks edges before : List ℕ) → in_range r ≡ false
      → (let o = outcome r ticks edges (length before) in let l = handed_back o in Refused 1 (paper_number l.number) r l.record l.used l.written before (buffer_after o before))
  pub log_refuses_5 : (r : Record) (ticks edges before : List ℕ) → in_range r ≡ true → (length ticks ≡ length edges → ⊥)
      → (let o = outcome r ticks edges (length before) in let l = handed_back o in Refused 5 (paper_number l.number) r l.record l.used l.written before (buffer_after o before))
  pub log_refuses_4 : (r : Record) (ticks edges before : List ℕ) → in_range r ≡ true → length ticks ≡ length edges → every (listed_in r.edition.sister) edges ≡ false
      → (let o = outcome r ticks edges (length before) in let l = handed_back o in Refused 4 (paper_number l.number) r l.record l.used l.written before (buffer_after o before))
  pub log_done : (r : Record) (ticks edges : List ℕ) (room : ℕ) → in_range r ≡ true → length ticks ≡ length edges → every (listed_in r.edition.sister) edges ≡ true
      → paper_number (outcome r ticks edges room).number ≡ 0
  -- The second: 1 and the same record, else 0; in place: by the backlight's own ranges.
  pub second_refuses : (r : Record) → in_range r ≡ false → (paper_number (passed r).number ≡ 1) × ((passed r).after ≡ r)
  pub second_passes : (r : Record) → in_range r ≡ true → paper_number (passed r).number ≡ 0
  pub light_refuses : (b : Backlight) → backlight_in_range b ≡ false → (paper_number (light_passed b).number ≡ 1) × ((light_passed b).backlight ≡ b)
  pub light_passes : (b : Backlight) → backlight_in_range b ≡ true → paper_number (light_passed b).number ≡ 0
  -- The hook call: 1 and the same record, else 0.
  pub hook_refuses : (r : Record) (on : Bool) → in_range r ≡ false → (paper_number (hooked r on).number ≡ 1) × ((hooked r on).after ≡ r)
  pub hook_sets : (r : Record) (on : Bool) → in_range r ≡ true → paper_number (hooked r on).number ≡ 0
  -- The count of the room that answers can need: 1 and nothing counted, else 0.
  pub room_refuses : (r : Record) (bytes : List ℕ) → in_range r ≡ false → (paper_number (ended (room_needed r bytes)) ≡ 1) × (room_needed r bytes ≡ Err FieldOutOfRange)
  pub room_counts : (r : Record) (bytes : List ℕ) → in_range r ≡ true → paper_number (ended (room_needed r bytes)) ≡ 0
  -- The questions of what is seen: 1, then 4 for a row above 6, else 0; and where one is refused it tells nothing.
  pub row_number_is : (r : Record) (row : ℕ) (phase : Phase) → paper_number (ended (row_seen r row phase)) ≡ cond (not (in_range r)) 1 (cond (ltb 6 row) 4 0)
  pub row_refuses : (r : Record) (row : ℕ) (phase : Phase)
      → (in_range r ≡ false → row_seen r row phase ≡ Err FieldOutOfRange) × (in_range r ≡ true → 6 < row → row_seen r row phase ≡ Err NotListed)
  -- The column question: 1, then 4 for a row above 6 or a column above 95.
  pub column_number_is : (r : Record) (row column : ℕ) (phase : Phase) → paper_number (ended (column_seen r row column phase)) ≡ cond (not (in_range r)) 1 (cond (ltb 6 row || ltb 95 column) 4 0)
  pub column_refuses : (r : Record) (row column : ℕ) (phase : Phase)
      → (in_range r ≡ false → column_seen r row column phase ≡ Err FieldOutOfRange)
      × (in_range r ≡ true → 6 < row → column_seen r row column phase ≡ Err NotListed)
      × (in_range r ≡ true → 95 < column → column_seen r row column phase ≡ Err NotListed)
  pub panel_numbers_are : (r : Record) (phase : Phase) → (paper_number (ended (sms_seen r phase)) ≡ cond (not (in_range r)) 1 0) × (paper_number (ended (volume_seen r)) ≡ cond (not (in_range r)) 1 0)
  pub panels_refuse : (r : Record) (phase : Phase) → in_range r ≡ false
      → (sms_seen r phase ≡ Err FieldOutOfRange) × (volume_seen r ≡ Err FieldOutOfRange)
  -- The writers: 2, then 3, nothing written then, count 0; else 0. `good` is whether the command, label or row is in range.
  pub writer_refuses_2 : (frame room : List ℕ) → (paper_number (ended (written_of false frame room)) ≡ 2) × (count_of (written_of false frame room) ≡ 0) × (room_after false frame room ≡ room)
  pub writer_refuses_3 : (frame room : List ℕ) → length room < length frame
      → (paper_number (ended (written_of true frame room)) ≡ 3) × (count_of (written_of true frame room) ≡ 0) × (room_after true frame room ≡ room)
  pub writer_done : (frame room : List ℕ) → length frame ≤ length room → (paper_number (ended (written_of true frame room)) ≡ 0) × (count_of (written_of true frame room) ≡ length frame)
  -- The mark is one question mark; the sister's has CR LF behind it (request T-06).
  pub mark_first : mark_of false ≡ question_mark ∷ []
  pub mark_sister : mark_of true ≡ question_mark ∷ carriage_return ∷ line_feed ∷ []
  -- A bad frame, one that spells no order in the record's edition, gets the mark, and nothing changes: as a part of the stream,
  pub bad_frame_asked : (c : Core) (frame : List ℕ) → ((o : AnyOrder) → SpellsFor c o frame → ⊥) → act handset c (closed frame) ≡ asked c
  -- (so do one that ESC abandons, and one that is closed with more than 250 bytes)
  pub abandoned_asked : (c : Core) (body : List ℕ) → act handset c (abandoned body) ≡ asked c
  pub overlong_asked : (c : Core) (body : List ℕ) → limit < length body → act handset c (closed body) ≡ asked c
  -- and of the call on ESC, frame, CR, from a record in range with no frame open: with room for the mark, and without, where the call
  -- stops before the CR and the frame stays open.
  pub bad_frame_called : (r : Record) → in_range r ≡ true → r.frame.state ≡ 0 → (frame : List ℕ) → Body frame → ((o : AnyOrder) → SpellsFor (core_of r) o frame → ⊥) → (lent : List ℕ) → length (mark_in (core_of r)) ≤ length lent
      → fed_back r (whole_frame frame) lent ≡ record { after = r; used = length (whole_frame frame); written = length (mark_in (core_of r)); buffer = written_over (mark_in (core_of r)) lent }
  pub bad_frame_waits : (r : Record) → in_range r ≡ true → r.frame.state ≡ 0 → (frame : List ℕ) → Body frame → ((o : AnyOrder) → SpellsFor (core_of r) o frame → ⊥) → (lent : List ℕ) → length lent < length (mark_in (core_of r))
      → fed_back r (whole_frame frame) lent ≡ record { after = record_of r.held (with (core_of r) (keep frame)); used = suc (length frame); written = 0; buffer = lent }
  -- Without room for the whole answer of a question the call stops before its CR too, and no byte of the answer is written (request T-04).
  pub question_waits_whole : (r : Record) → in_range r ≡ true → r.frame.state ≡ 0 → (frame : List ℕ) (o : AnyOrder) → SpellsFor (core_of r) o frame → (lent : List ℕ) → length lent < length (answer_on (core_of r) o)
      → fed_back r (whole_frame frame) lent ≡ record { after = record_of r.held (with (core_of r) (keep frame)); used = suc (length frame); written = 0; buffer = lent }
  -- A frame with a number out of range gets silence, and nothing changes: as a part, and of the call.
  pub out_of_range_silent : (c : Core) (frame : List ℕ) (o : AnyOrder) → SpellsFor c o frame → inside c o ≡ false → act handset c (closed frame) ≡ silent c
  pub out_of_range_called : (r : Record) → in_range r ≡ true → r.frame.state ≡ 0 → (frame : List ℕ) (o : AnyOrder) → SpellsFor (core_of r) o frame → (lent : List ℕ) → inside (core_of r) o ≡ false
      → fed_back r (whole_frame frame) lent ≡ record { after = r; used = length (whole_frame frame); written = 0; buffer = lent }
  -- The third verdict (request T-06): a frame that is good by its spelling and refused by the record's state, a step at its end or a letter of
  -- the keypad flag, is answered as a bad one, and nothing changes: as a part, and of the call.
  pub refused_asked : (c : Core) (frame : List ℕ) (o : AnyOrder) → SpellsFor c o frame → refused_any o c ≡ true → act handset c (closed frame) ≡ asked c
  pub refused_called : (r : Record) → in_range r ≡ true → r.frame.state ≡ 0 → (frame : List ℕ) (o : AnyOrder) → SpellsFor (core_of r) o frame → (lent : List ℕ) → refused_any o (core_of r) ≡ true → length (mark_in (core_of r)) ≤ length lent
      → fed_back r (whole_frame frame) lent ≡ record { after = r; used = length (whole_frame frame); written = length (mark_in (core_of r)); buffer = written_over (mark_in (core_of r)) lent }
  -- No order of the first edition is refused so.
  pub first_never_refused : (o : Order) (c : Core) → refused_any (first o) c ≡ false

-- The proof ---------------------------------------------------------------------------------------------------------

pub demand1 : Demand1
unfolding fed_of answers_after written_of room_after act close
demand1 =
    record {
      feed_refuses = λ r bytes before h. rw h (record { named = refl; as_it_came = refl; none_used = refl; none_written = refl; untouched = refl });
      feed_done = λ r bytes room h. rw h;
      log_refuses_1 = λ r ticks edges before h. rw (ends_with_1 r ticks edges (length before) h) (record { named = refl; as_it_came = refl; none_used = refl; none_written = refl; untouched = refl });
      log_refuses_5 = λ r ticks edges before h d. rw (ends_with_5 r ticks edges (length before) h d) (record { named = refl; as_it_came = refl; none_used = refl; none_written = refl; untouched = refl });
      log_refuses_4 = λ r ticks edges before h e k. rw (ends_with_4 r ticks edges (length before) h e k) (record { named = refl; as_it_came = refl; none_used = refl; none_written = refl; untouched = refl });
      log_done = λ r ticks edges room h e k. rw (ends_with_0 r ticks edges room h e k);
      second_refuses = second_refused;
      second_passes = λ r h. (second_done r h).0;
      light_refuses = light_refused;
      light_passes = λ b h. (light_done b h).0;
      hook_refuses = hook_refused;
      hook_sets = λ r on h. (hook_done r on h).0;
      room_refuses = λ r bytes h. rw (room_refused r bytes h) (refl, refl);
      room_counts = λ r bytes h. rw (room_counted r bytes h);
      row_number_is = row_number;
      row_refuses = row_refused;
      column_number_is = column_number;
      column_refuses = column_refused;
      panel_numbers_are = panel_numbers;
      panels_refuse = panels_refused;
      writer_refuses_2 = λ frame room. (refl, refl, refl);
      writer_refuses_3 = λ frame room l. rw (lt-leb (length frame) (length room) l) (refl, refl, refl);
      writer_done = λ frame room l. rw (le-leb (length frame) (length room) l) (refl, refl);
      mark_first = refl;
      mark_sister = refl;
      bad_frame_asked = closed_asked;
      abandoned_asked = λ c body. refl;
      overlong_asked = λ c body l. rw (lt-leb (length body) limit l);
      bad_frame_called = bad_whole;
      bad_frame_waits = bad_without_room;
      question_waits_whole = question_waits;
      out_of_range_silent = closed_passed_over;
      out_of_range_called = passed_over_whole;
      refused_asked = closed_refused;
      refused_called = refused_whole;
      first_never_refused = λ o c. refl;
    }
