-- The turns of the log's loops, from what one entry promises to what the whole call has done. Assumes nothing.
use Rattle.std.specs.Prelude.{ℕ, ◌+◌, ◌-◌, ◌<◌, ◌≤◌, ◌≡◌, refl, true, false, List, [], ◌∷◌, leb, length, get_or, set, drop, Option, None, Some}
use Rattle.std.proofs.Common.{arith, sym, ◌∙◌, le-leb}
use Rattle.std.proofs.Math.Path.{ap}
use Rattle.record.specs.declared.Record.{Record}
use Rattle.record.specs.declared.Small.{Small}
use Rattle.record.specs.declared.Held.{Held}
use Rattle.record.specs.declared.Backlight.{Backlight}
use Rattle.record.specs.Number.{numbered}
use Rattle.record.specs.Parts.{together, small_of}
use Rattle.turns.specs.Room.{run}
use Rattle.turns.specs.Loop.{Account, Going, still}
use Rattle.turns.proofs.Loop.{go_quiet, go_one, go_on, go_stop, go_end}
use Rattle.turns.specs.Begins.{as_many, both_begin_with}
use Rattle.key_entry.specs.declared.Keyed.{Keyed}
use Rattle.key_log.specs.declared.Logged.{Logged}
use Rattle.key_entry.specs.Codes.{sent}
use Rattle.key_entry.specs.Rules.{Entry, entry, keyed, with_keys, taken, step}
use Rattle.answer.specs.Answers.{count_after, buffer_after}
use Rattle.sister_entry.specs.declared.SisterKeyed.{SisterKeyed}
use Rattle.sister_entry.specs.declared.Message.{Message}
use Rattle.sister_entry.specs.declared.Message.TheVariants.{False, Event}
use Rattle.sister_entry.specs.Rules.{keyed as herKeyed}
use Rattle.key_log.specs.Steps.{bytes_of, message_bytes, with_sister_keys, sister_taken, sister_step, step_in}
use Rattle.key_log.specs.Laws.{first_step, her_step}
use Rattle.key_log.specs.Log.{entries, Takes}

-- THE ENTRY THAT COMES NEXT, where so many are used
pub record Next (ticks edges : List ℕ) (used tick edge : ℕ) : Type 0 where
  pub more : used < length edges
  pub this : tick ≡ get_or ticks used 0
  pub that : edge ≡ get_or edges used 0

-- .. from what a turn over both slices says of it
pub next_of : {ticks edges : List ℕ} {used turns tick edge : ℕ} → used ≡ turns
    → (turns < length ticks) × (turns < length edges) × ((d : ℕ) → tick ≡ get_or ticks turns d) × ((d : ℕ) → edge ≡ get_or edges turns d)
    → Next ticks edges used tick edge
next_of e turn = rw e (record { more = turn.1; this = turn.2 0; that = turn.3 0 })

-- IN EITHER EDITION, from where the loop stands.
module _ {r state : Record} (ticks edges : List ℕ) {before : List ℕ} {used written : ℕ} {sent : List ℕ}
    (same : length ticks ≡ length edges) (going : Going step_in r (entries ticks edges) before state used written sent) where
  -- The loop's end.
  pub turns_end : length edges ≤ used → Account (run step_in r (entries ticks edges) (length before)) before (still state used written sent)
  turns_end none = go_end step_in going (omega (arith, as_many entry ticks edges same))

  begins : {tick edge : ℕ} → Next ticks edges used tick edge → drop used (entries ticks edges) ≡ entry tick edge ∷ drop (used + 1) (entries ticks edges)
  begins {tick} {edge} next =
      both_begin_with entry ticks edges used 0 0 (omega (arith, next.more)) next.more
      ∙ ap (λ (e : Entry). e ∷ drop (used + 1) (entries ticks edges)) (λ j. entry (sym next.this j) (sym next.that j))

-- THE FIRST EDITION'S: a code that is none sends nothing, and any other sends itself.
module _ {r : Record} (ticks edges : List ℕ) {before : List ℕ} {held : Held} {light : Backlight} {used written : ℕ} {codes : List ℕ}
    (same : length ticks ≡ length edges) (first : r.edition.sister ≡ false)
    (going : Going step_in r (entries ticks edges) before (with_keys r held light) used written codes) {tick edge : ℕ} (here : Next ticks edges used tick edge)
    (next : Keyed) (e : next ≡ keyed held r.settings.times light tick edge) where
  stepped : {code : Option ℕ} → next.code ≡ code
      → step_in (with_keys r held light) (entry tick edge) ≡ record { state = with_keys r next.held next.backlight; answers = sent code }
  unfolding step
  stepped told =
      first_step (with_keys r held light) (entry tick edge) first ∙ ap (taken r) (sym e)
      ∙ ap (λ (code : Option ℕ). record { state = with_keys r next.held next.backlight; answers = sent code }) told

  pub turn_quiet : next.code ≡ None
      → Going step_in r (entries ticks edges) before (with_keys r next.held next.backlight) (used + 1) written codes
  turn_quiet told =
      go_quiet step_in going (begins ticks edges same going here) (with_keys r next.held next.backlight) (stepped told)

  pub turn_sends : {code : ℕ} → next.code ≡ Some code → written < length codes
      → Going step_in r (entries ticks edges) before (with_keys r next.held next.backlight) (used + 1) (written + 1) (set codes written code)
  turn_sends {code} told room =
      go_one step_in going (begins ticks edges same going here) (with_keys r next.held next.backlight) code (stepped told) room

  pub turns_stop : {code : ℕ} → next.code ≡ Some code → length codes ≤ written
      → Account (run step_in r (entries ticks edges) (length before)) before (still (with_keys r held light) used written codes)
  turns_stop {code} told full =
      go_stop step_in going (begins ticks edges same going here) (record { state = with_keys r next.held next.backlight; answers = code ∷ [] })
      (stepped told) (omega arith)

-- Every message has six bytes.
six : (message : Message) → length (bytes_of message) ≡ 6
six False = refl
six (Event sign event) = refl

-- THE SISTER'S: a message is written whole, and none is nothing.
module _ {r : Record} (ticks edges : List ℕ) {before : List ℕ} (was : SisterKeyed) {used written : ℕ} {sent : List ℕ}
    (same : length ticks ≡ length edges) (hers : r.edition.sister ≡ true)
    (going : Going step_in r (entries ticks edges) before (with_sister_keys r was) used written sent) {tick edge : ℕ} (here : Next ticks edges used tick edge)
    (next : SisterKeyed) (e : next ≡ herKeyed was.keys r.settings.times was.backlight was.hook was.ptt tick edge) where
  her_stepped : {message : Option Message} → next.message ≡ message
      → step_in (with_sister_keys r was) (entry tick edge) ≡ record { state = with_sister_keys r next; answers = message_bytes message }
  unfolding sister_step
  her_stepped told =
      her_step (with_sister_keys r was) (entry tick edge) hers ∙ ap (sister_taken r) (sym e)
      ∙ ap (λ (message : Option Message). record { state = with_sister_keys r next; answers = message_bytes message }) told

  pub her_turn_quiet : next.message ≡ None → Going step_in r (entries ticks edges) before (with_sister_keys r next) (used + 1) written sent
  her_turn_quiet told = go_quiet step_in going (begins ticks edges same going here) (with_sister_keys r next) (her_stepped told)

  -- What is put where there is room is the message.
  pub turn_says : {message : Message} {bytes : List ℕ} {count : ℕ} {put : List ℕ} → next.message ≡ Some message → 6 ≤ length sent - written
      → bytes ≡ bytes_of message → count ≡ count_after sent written bytes → put ≡ buffer_after sent written bytes
      → Going step_in r (entries ticks edges) before (with_sister_keys r next) (used + 1) count put
  turn_says {message} told room spelt counted stored =
      let bytes = bytes_of message in
      let has : leb (written + length bytes) (length sent) ≡ true = le-leb (written + length bytes) (length sent) (omega (arith, going.room, six message)) in
      rw (counted, stored, spelt, has)
      (go_on step_in going (begins ticks edges same going here) (record { state = with_sister_keys r next; answers = bytes }) (her_stepped told) (omega (arith, room, six message)))

  pub her_turns_stop : {message : Message} → next.message ≡ Some message → length sent - written < 6
      → Account (run step_in r (entries ticks edges) (length before)) before (still (with_sister_keys r was) used written sent)
  her_turns_stop {message} told full =
      go_stop step_in going (begins ticks edges same going here) (record { state = with_sister_keys r next; answers = bytes_of message }) (her_stepped told)
      (omega (arith, full, six message))

-- WHATEVER THE ARRAYS HOLD. A loop is handed the small fields alone, so what holds at its head and at its end is said of every record
-- that has them; what its locals have changed of it is a function of that record.
abbrev pub Goes : Small → List ℕ → List ℕ → List ℕ → (Record → Record) → ℕ → ℕ → List ℕ → Type 0
Goes small ticks edges before changed used written sent =
    (text picture bytes : List ℕ) → (let r = together small text picture bytes in Going step_in r (entries ticks edges) before (changed r) used written sent)

abbrev pub Ends : Small → List ℕ → List ℕ → List ℕ → (Record → Record) → ℕ → ℕ → List ℕ → Type 0
Ends small ticks edges before changed used written sent =
    (text picture bytes : List ℕ)
    → (let r = together small text picture bytes in Account (run step_in r (entries ticks edges) (length before)) before (still (changed r) used written sent))

-- What a loop hands back is what the run of the rules has done.
pub takes : {small : Small} (ticks edges : List ℕ) {before : List ℕ} (changed : Record → Record) {used written : ℕ} {sent : List ℕ} (l : Logged Small)
    → ((text picture bytes : List ℕ) → l ≡ record { number = numbered 0; «record» = small_of (changed (together small text picture bytes)); used = used; written = written })
    → Ends small ticks edges before changed used written sent → Takes l small ticks edges before sent
takes ticks edges changed l e ends =
    record {
      back = λ text picture bytes.
          let account = ends text picture bytes in
          e text picture bytes ∙ (λ j. record { number = numbered 0; «record» = small_of (account.state j); used = account.used j; written = account.written j });
      buffer = λ text picture bytes. (ends text picture bytes).buffer;
    }
