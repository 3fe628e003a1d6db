-- DEMAND 2. "Every good frame has the effect that document 01 takes from Application Note 1901, and no other effect. Key logs,
-- seconds and the question of a row are answered by its rules. What your writers write for a command reads back as that command."
-- Statements first. Assumes nothing.
use Rattle.std.specs.Prelude.{ℕ, ◌+◌, ◌*◌, ◌<◌, ◌≤◌, ◌⊎◌, ◌≢◌, ◌≡◌, refl, Bool, true, false, cond, not, List, [], ◌∷◌, ◌++◌, eqb, length, drop, get_or, Ok}
use Rattle.lists.specs.Every.{every}
use Rattle.record.specs.declared.Record.{Record}
use Rattle.record.specs.declared.Backlight.{Backlight}
use Rattle.record.specs.declared.Icons.{Icons}
use Rattle.record.specs.PowerOn.{power_on}
use Rattle.record.specs.Range.{large, cursor_in_range, in_range, backlight_in_range}
use Rattle.picture.specs.Data.{Bytes}
use Rattle.command.specs.declared.Command.{Command}
use Rattle.command.specs.declared.Side.{Side}
use Rattle.command.specs.declared.Side.TheVariants.{Left, Right}
use Rattle.command.specs.Order.{Order, plain, label, draw}
use Rattle.command.specs.Grammar.{form, Spells}
use Rattle.command.specs.Spell.{spell, spelling}
use Rattle.command.specs.InRange.{command_in_range, most_rows}
use Rattle.command.specs.OneSpelling.{NoData, one_frame}
use Rattle.command.proofs.OneSpelling.{no_data}
use Rattle.record.specs.Core.{Core, core_of}
use Rattle.effect.specs.Effect.{carry_out, store_text}
use Rattle.record.specs.Fields.{Field, text, large_line, read, fields_are_all}
use Rattle.effect.proofs.Untouched.{other_rows_stay, past_data_stays, rows_stay, line_stays}
use Rattle.parting.specs.Rules.{closed}
use Rattle.parting.specs.Meaning.{act}
use Rattle.stream.specs.Stream.{handset}
use Rattle.stream.specs.Demand.{fed_back}
use Rattle.key_entry.specs.Rules.{Entry}
use Rattle.key_log.specs.Steps.{listed_in, step_in}
use Rattle.key_log.specs.Log.{entries, outcome, handed_back, buffer_after}
use Rattle.key_log.specs.declared.Logged.{Logged}
use Rattle.key_log.specs.Laws.{LogDone, log_done, log_stops_exactly, log_done_fixes}
use Rattle.seconds.specs.Seconds.{passed, dimmed, light_passed, lowered}
use Rattle.seconds.specs.Laws.{second_done, light_done}
use Rattle.seen_panels.specs.Panels.{sms_panel, volume_panel, lit_as_before, flashing_pause}
use Rattle.seen_panels.specs.declared.Phase.{Phase}
use Rattle.seen_panels.specs.declared.Phase.TheVariants.{Lit, Pause}
use Rattle.seen_panels.specs.declared.SmsPanel.TheVariants as Sms
use Rattle.seen_owners.specs.Table.{owner_at, row_owner}
use Rattle.seen.specs.Columns.{place_of, column_read, column_seen}
use Rattle.seen_owners.specs.Sentences.{at_most_one, one_claim}
use Rattle.seen.specs.Agree.{columns_agree}
use Rattle.seen.specs.Rows.{contents, row_seen, sms_seen, volume_seen}
use Rattle.seen.specs.Laws.{seen_row, seen_column, panels_told, steady_unseen}
use Rattle.writer_ranges.specs.Fitting.{is_label, is_row}
use Rattle.writer.specs.ReadBack.{AfterZero, command_reads_back, label_reads_back, command_written, own_written, shared_written, label_written, row_written, own_spelling, shared_spelling}
use Rattle.writer.specs.Writing.{shared_in_range}
use Rattle.demands.specs.HeldKeys.{HeldKeys, held_keys}
use Rattle.demands.specs.Room.{AnswerRoom, answer_room}
use Rattle.demands.specs.Edition.{EditionStays, edition_never_changes}
use Rattle.demands.specs.Frames.{silent, SpellsFor, inside, said, answer_on, whole_frame, with_core, closed_obeyed, good_whole}
use Rattle.demands.specs.Sister.{HerAnswers, her_answers_are, asked_changes_nothing, restarts, restarts_called}
use Rattle.sister_command.specs.Order.{AnyOrder, first, own}
use Rattle.sister_command.specs.Grammar.{sister_form, form_in, never_spelt, SpellsIn}
use Rattle.sister_command.specs.InRange.{own_in_range}
use Rattle.sister_command.proofs.Agree.{one_order_in, one_frame_in}
use Rattle.sister_command.specs.declared.Question.{Question}
use Rattle.sister_command.specs.declared.SisterCommand.{SisterCommand}
use Rattle.sister_command.specs.declared.SisterCommand.TheVariants.{Asked}
use Rattle.sister_effect.specs.Effect.{stored_of}
use Rattle.sister_effect.specs.Obey.{carry_out_own, carry_out_any, effect_any, refused_any}
use Rattle.sister_effect.specs.Touched.{sets_any}
use Rattle.sister_effect.specs.Untouched.{stays_any}
use Rattle.record.specs.PowerOn.{sister_with}
use Prim.Native.Char.{code}
use Rattle.std.proofs.Math.Option.{some}
use Rattle.lists.specs.Codes.{ascii, escape, carriage_return, line_feed}
use Rattle.numeral.specs.Numeral.{decimal}
use Rattle.answer.specs.Answers.{is_silence}
use Rattle.command.specs.declared.Command.TheVariants.{ContrastAsked, HookAsked, VersionAsked}
use Rattle.effect.specs.Obey.{answer_for, answer_to}
use Rattle.effect.specs.Questions.{question_same, three_questions}
use Rattle.stream.specs.Stream.{written_over}
use Rattle.hook.specs.Hook.{hung, hooked}
use Rattle.hook.specs.Laws.{hook_done}

pub record Demand2 : Type 0 where
  -- A frame is good when the grammar of the edition has an order that it spells, and it spells no second one.
  pub one_meaning : (sister : Bool) (o other : AnyOrder) (frame : List ℕ) → SpellsIn sister o frame → SpellsIn sister other frame → o ≡ other
  -- The first edition's grammar is document 01's, and has no command of the sister's.
  pub first_grammar : (o : Order) → form_in false (first o) ≡ form o
  pub none_of_hers : (command : SisterCommand) (frame : List ℕ) → SpellsIn false (own command) frame → ⊥
  -- And an order that carries no picture data has one spelling (request T-02): two different good frames never mean the same command;
  -- so what the writers write for a command or a label is its only spelling.
  pub one_spelling : (sister : Bool) (o : AnyOrder) (frame other : List ℕ) → NoData (form_in sister o) → SpellsIn sister o frame → SpellsIn sister o other → frame ≡ other
  pub command_spelling : (c : Command) (frame : List ℕ) → command_in_range most_rows c ≡ true → Spells (plain c) frame → frame ≡ spelling (plain c)
  pub label_spelling : (side : Side) (codes frame : List ℕ) → is_label codes ≡ true → Spells (label side codes) frame → frame ≡ spelling (label side codes)
  -- A good frame in range has its order's effect, a question with its answer and any other in silence: as a part of the stream,
  pub obeyed : (c : Core) (frame : List ℕ) (o : AnyOrder) → SpellsFor c o frame → inside c o ≡ true → refused_any o c ≡ false → act handset c (closed frame) ≡ said c o (effect_any o c)
  -- and of the call on ESC, frame, CR, from a record in range with no frame open, with room for the answer, if there is one.
  pub obeyed_called : (r : Record) → in_range r ≡ true → r.frame.state ≡ 0 → (frame : List ℕ) (o : AnyOrder) → SpellsFor (core_of r) o frame → (lent : List ℕ) → inside (core_of r) o ≡ true → refused_any o (core_of r) ≡ false
      → length (answer_on (core_of r) o) ≤ length lent
      → fed_back r (whole_frame frame) lent
      ≡ record { after = with_core r (effect_any o (core_of r)); used = length (whole_frame frame); written = length (answer_on (core_of r) o); buffer = written_over (answer_on (core_of r) o) lent }
  -- The questions are IA, IH and &V, and their answers those of the note (request T-04); a question changes nothing.
  pub contrast_answer : (c : Core) → answer_on c (first (plain ContrastAsked)) ≡ (escape ∷ ascii "IA") ++ decimal c.settings.contrast ++ carriage_return ∷ []
  pub hook_answer : (c : Core) → answer_on c (first (plain HookAsked)) ≡ (escape ∷ ascii "IH") ++ cond c.settings.hook (code "H") (code "h") ∷ carriage_return ∷ []
  pub version_answer : (c : Core) → answer_on c (first (plain VersionAsked)) ≡ (escape ∷ ascii "&VHA209 V.01.01 11.07.2006") ++ carriage_return ∷ line_feed ∷ []
  pub no_other_answer : (o : Order) (c : Core) → is_silence (answer_to (some o)) ≡ false → (o ≡ plain ContrastAsked) ⊎ (o ≡ plain HookAsked) ⊎ (o ≡ plain VersionAsked)
  pub question_changes_nothing : (command : Command) (c : Core) → is_silence (answer_for command) ≡ false → carry_out (plain command) c ≡ c
  -- The sister's questions and answers are those of her note (request T-06), and they change nothing either.
  pub her_answers : HerAnswers
  pub her_questions_change_nothing : (question : Question) (c : Core) → carry_out_own (Asked question) c ≡ c
  -- A restart leaves her power-on record with the six numbers that she stores, with no answer; the parts after it are taken from there on.
  pub restart : (c : Core) → c.edition.sister ≡ true → act handset c (closed (ascii "&00")) ≡ silent (core_of (sister_with (stored_of c)))
  pub restart_called : (r : Record) → in_range r ≡ true → r.edition.sister ≡ true → r.frame.state ≡ 0 → (lent : List ℕ)
      → fed_back r (whole_frame (ascii "&00")) lent ≡ record { after = sister_with (stored_of (core_of r)); used = 5; written = 0; buffer = lent }
  -- How much room answers need (request T-09), in the first edition: where no frame is a question, a call writes at most as many question
  -- marks as ESC bytes are offered, and one more if a frame was open. It is reached. Picture data takes at most two bytes per column.
  pub room_for_answers : AnswerRoom
  -- A hook call sets the hook and nothing else.
  pub hook_set : (r : Record) (on : Bool) → in_range r ≡ true → (hooked r on).after ≡ hung r on
  -- And no other effect. A field that document 01's table does not name for the order is as it was.
  pub no_other : (o : AnyOrder) (f : Field) (c : Core) → sets_any o f ≡ false → read f (carry_out_any o c) ≡ read f c
  -- Of the picture, a picture frame leaves every column of the other rows as it was, and in its own row every column past the data.
  pub no_other_row : (r : ℕ) (columns : List ℕ) (c : Core) (other k : ℕ) → length columns ≤ 96 → k < 96 → other ≢ r
      → get_or (carry_out (draw r columns) c).picture (other * 96 + k) 0 ≡ get_or c.picture (other * 96 + k) 0
  pub none_past_the_data : (r : ℕ) (columns : List ℕ) (c : Core) (k : ℕ) → length columns ≤ k
      → get_or (carry_out (draw r columns) c).picture (r * 96 + k) 0 ≡ get_or c.picture (r * 96 + k) 0
  -- A text byte in mode 10 leaves the five rows of the text as they were, in any other mode the large line (request T-01).
  pub no_row_in_large_mode : (c : Core) (b : ℕ) → eqb c.settings.screen.mode large ≡ true → read text (store_text c b) ≡ read text c
  pub no_line_in_other_modes : (c : Core) (b : ℕ) → cursor_in_range c.settings.screen ≡ true → eqb c.settings.screen.mode large ≡ false
      → read large_line (store_text c b) ≡ read large_line c
  -- And the fields are all that a stream can change: where each is as it was, nothing has changed.
  pub no_other_field : (c d : Core) → ((f : Field) → read f c ≡ read f d) → c ≡ d
  -- A key log of listed edges is taken by the rules: record, counts and buffer, whatever was lent, are what its used entries do;
  pub logs : (r : Record) (ticks edges lent : List ℕ) → in_range r ≡ true → length ticks ≡ length edges → every (listed_in r.edition.sister) edges ≡ true
      → (let o = outcome r ticks edges (length lent) in LogDone r (entries ticks edges) lent (handed_back o) (buffer_after o lent))
  -- it stops exactly before the first entry whose code has no room;
  pub log_stops : (r : Record) (ticks edges lent : List ℕ) → in_range r ≡ true → length ticks ≡ length edges → every (listed_in r.edition.sister) edges ≡ true
      → (let back = handed_back (outcome r ticks edges (length lent)) in
      (back.used ≡ length (entries ticks edges))
      ⊎ ((next : Entry) × (rest : List Entry) × (drop back.used (entries ticks edges) ≡ next ∷ rest) × (length lent < back.written + length (step_in back.record next).answers)))
  -- and nothing else is a log taken by the rules.
  pub logs_only_so : {r : Record} {log : List Entry} {lent : List ℕ} {back other : Logged Record} {buffer buffer' : List ℕ}
      → LogDone r log lent back buffer → LogDone r log lent other buffer' → (back ≡ other) × (buffer ≡ buffer')
  -- At power-on Time2 is 0, so a key that is held down does not repeat (request T-05): the note's default of 12 no longer holds there.
  -- The record of the former defaults has it, differs in nothing else, and no stream in which no key times are set tells the two apart.
  pub no_repeat_at_power_on : power_on.settings.times.time2.0 ≡ 0
  pub former_defaults : HeldKeys
  -- Which handset it is stands in the record, and no stream, log, second or hook call changes it (request T-06).
  pub edition : EditionStays
  -- A second lowers the seconds left by one, not below 0: of a record, and of a backlight in place.
  pub seconds : (r : Record) → in_range r ≡ true → (passed r).after ≡ dimmed r
  pub seconds_in_place : (b : Backlight) → backlight_in_range b ≡ true → (light_passed b).backlight ≡ lowered b
  -- A row shows the contents of its owner; the panels' questions tell what the panels show, in either phase.
  pub rows : (r : Record) (row : ℕ) (phase : Phase) → in_range r ≡ true → row ≤ 6 → row_seen r row phase ≡ Ok (contents r phase (row_owner r row))
  -- A place of the display shows the contents of its owner, at most one sentence claims it, and a row tells what its columns do.
  pub places : (r : Record) (row column : ℕ) (phase : Phase) → in_range r ≡ true → row ≤ 6 → column ≤ 95 → column_seen r row column phase ≡ Ok (place_of r phase column (owner_at r row column))
  pub one_claim_each : (r : Record) → in_range r ≡ true → (column : ℕ) → at_most_one r.settings.screen column ≡ true
  pub rows_tell_columns : (r : Record) (row column : ℕ) (phase : Phase) → in_range r ≡ true → row ≤ 6 → column ≤ 95 → column_seen r row column phase ≡ column_read (row_seen r row phase) column
  pub panels : (r : Record) (phase : Phase) → in_range r ≡ true
      → (sms_seen r phase ≡ Ok (sms_panel r.settings.icons phase)) × (volume_seen r ≡ Ok (volume_panel r.settings.volume))
  -- The phase (request T-03): lit, the SMS panel is Unread if U is not 0, else Read if S is 1, else nothing, as it always was; with U
  -- 255 the pause shows it as U 0 does; and with U not 255 the phase changes nothing that is seen.
  pub lit_panel : (i : Icons) → sms_panel i Lit ≡ cond (not (eqb i.u 0)) Sms.Unread (cond (eqb i.s 1) Sms.Read Sms.Nothing)
  pub pause_panel : (i : Icons) → i.u ≡ 255 → sms_panel i Pause ≡ cond (eqb i.s 1) Sms.Read Sms.Nothing
  pub phase_unseen : (r : Record) (phase : Phase) → (r.settings.icons.u ≡ 255 → ⊥) → ((row : ℕ) → row_seen r row phase ≡ row_seen r row Lit) × ((row column : ℕ) → column_seen r row column phase ≡ column_seen r row column Lit) × (sms_seen r phase ≡ sms_seen r Lit)
  -- What is written for a command, a label or a picture row reads back as that: after number 0 the bytes counted part into one closed
  -- frame and one skipped LF, the frame spells that order, and the other places of the room are as they were.
  pub commands_read_back : (c : Command) (room : List ℕ) → AfterZero false (first (plain c)) (command_in_range most_rows c) (spelling (plain c)) room
  pub labels_read_back : (sister : Bool) (side : Side) (codes room : List ℕ) → AfterZero sister (first (label side codes)) (is_label codes) (spelling (label side codes)) room
  pub rows_read_back : (sister : Bool) (row : ℕ) (columns room : List ℕ) → Bytes columns → AfterZero sister (first (draw row columns)) (is_row row columns) (spelling (draw row columns)) room
  -- The sister's writers: of her own commands, and of those that she shares, in her spelling; it is the only one.
  pub own_commands_read_back : (c : SisterCommand) (room : List ℕ) → AfterZero true (own c) (own_in_range c) (spell (sister_form (own c))) room
  pub shared_commands_read_back : (c : Command) (room : List ℕ) → AfterZero true (first (plain c)) (shared_in_range c) (spell (sister_form (first (plain c)))) room
  pub own_command_spelling : (c : SisterCommand) (frame : List ℕ) → own_in_range c ≡ true → SpellsIn true (own c) frame → frame ≡ spell (sister_form (own c))
  pub shared_command_spelling : (c : Command) (frame : List ℕ) → shared_in_range c ≡ true → SpellsIn true (first (plain c)) frame → frame ≡ spell (sister_form (first (plain c)))

-- The proof ---------------------------------------------------------------------------------------------------------

label_once : (side : Side) (codes frame : List ℕ) → is_label codes ≡ true → Spells (label side codes) frame → frame ≡ spelling (label side codes)
label_once Left codes frame h s = one_frame (label Left codes) frame _ tt s (label_reads_back false Left codes h).spells
label_once Right codes frame h s = one_frame (label Right codes) frame _ tt s (label_reads_back false Right codes h).spells

pub demand2 : Demand2
demand2 =
    record {
      one_meaning = one_order_in;
      first_grammar = λ o. refl;
      none_of_hers = λ command frame s. never_spelt s;
      one_spelling = one_frame_in;
      command_spelling = λ c frame h s. one_frame (plain c) frame (spelling (plain c)) (no_data c) s (command_reads_back c h).spells;
      label_spelling = label_once;
      obeyed = closed_obeyed;
      obeyed_called = good_whole;
      contrast_answer = λ c. refl;
      hook_answer = λ c. refl;
      version_answer = λ c. refl;
      no_other_answer = three_questions;
      question_changes_nothing = question_same;
      her_answers = her_answers_are;
      her_questions_change_nothing = λ question c. asked_changes_nothing question c;
      restart = restarts;
      restart_called = restarts_called;
      room_for_answers = answer_room;
      hook_set = λ r on h. (hook_done r on h).1;
      no_other = stays_any;
      no_other_row = other_rows_stay;
      none_past_the_data = past_data_stays;
      no_row_in_large_mode = rows_stay;
      no_line_in_other_modes = line_stays;
      no_other_field = fields_are_all;
      logs = log_done;
      log_stops = log_stops_exactly;
      logs_only_so = log_done_fixes;
      no_repeat_at_power_on = refl;
      former_defaults = held_keys;
      edition = edition_never_changes;
      seconds = λ r h. (second_done r h).1;
      seconds_in_place = λ b h. (light_done b h).1;
      rows = seen_row;
      places = seen_column;
      one_claim_each = one_claim;
      rows_tell_columns = columns_agree;
      panels = panels_told;
      lit_panel = lit_as_before;
      pause_panel = flashing_pause;
      phase_unseen = steady_unseen;
      commands_read_back = command_written;
      labels_read_back = label_written;
      rows_read_back = row_written;
      own_commands_read_back = own_written;
      shared_commands_read_back = shared_written;
      own_command_spelling = own_spelling;
      shared_command_spelling = shared_spelling;
    }
