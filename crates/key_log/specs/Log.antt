-- The key log call: its number, what it hands back and leaves in the lent buffer, for every input. Assumes nothing.
use Rattle.std.specs.Prelude.{ℕ, ◌≡◌, cond, not, eqb, length}
use mathlib.Core.List.{List, zip_with}
use Rattle.lists.specs.Every.{every}
use Rattle.record.specs.declared.Record.{Record}
use Rattle.record.specs.declared.Small.{Small}
use Rattle.record.specs.declared.Held.{Held}
use Rattle.record.specs.declared.Backlight.{Backlight}
use Rattle.record.specs.declared.Number.{Number}
use Rattle.record.specs.Number.{numbered}
use Rattle.record.specs.Range.{in_range}
use Rattle.record.specs.Parts.{together, small_of}
use Rattle.record.specs.With.{with_backlight, with_hook, with_ptt, with_keys}
use Rattle.turns.specs.Room.{Ran, run, stopped}
use Rattle.turns.specs.Loop.{holding}
use Rattle.key_log.specs.declared.Logged.{Logged}
use Rattle.key_entry.specs.Rules.{Entry, entry}
use Rattle.sister_entry.specs.declared.SisterKeyed.{SisterKeyed}
use Rattle.key_log.specs.Steps.{listed_in, step_in}

-- each tick reading with its edge byte
abbrev pub entries : List ℕ → List ℕ → List Entry
entries ticks edges = zip_with entry ticks edges

-- the number, and what was done
pub record Outcome : Type 0 where
  pub number : Number
  pub ran : Ran Record

-- a refusal does nothing
abbrev pub refused : Number → Record → Outcome
refused number r = record { number = number; ran = stopped r }

-- 1 a field out of range; 5 slices of unequal length; 4 an edge byte not listed in the record's edition, anywhere in the log; else the rules
-- of that edition, entry by entry
unfoldable pub outcome : Record → List ℕ → List ℕ → ℕ → Outcome
outcome r ticks edges room =
    cond (not (in_range r)) (refused (numbered 1) r)
    (cond (not (eqb (length ticks) (length edges))) (refused (numbered 5) r)
    (cond (not (every (listed_in r.edition.sister) edges)) (refused (numbered 4) r)
    (record { number = numbered 0; ran = run step_in r (entries ticks edges) room })))

-- what the call hands back
abbrev pub handed_back : Outcome → Logged Record
handed_back o = record { number = o.number; «record» = o.ran.state; used = o.ran.used; written = length o.ran.answers }

-- the whole buffer at exit: the codes or messages sent, and past them what was lent
abbrev pub buffer_after : Outcome → List ℕ → List ℕ
buffer_after o before = holding o.ran.answers before

-- THE KEY LOG CALL ON LENT ARRAYS is the same call, of the record that the small fields and the arrays make: what comes back is that
-- call's, but for the arrays, which stay as they are (Laws, lent-back)
abbrev pub lent_of : Logged Record → Logged Small
lent_of l = record { number = l.number; «record» = small_of l.record; used = l.used; written = l.written }

-- What the inner functions do -------------------------------------------------------------------------------------

-- a refusal hands the small fields back as they came
abbrev pub refused_with : Number → Small → Logged Small
refused_with number small = record { number = number; «record» = small; used = 0; written = 0 }

-- the work is done, with this held key and this backlight among the small fields
abbrev pub done_with : Small → Held → Backlight → ℕ → ℕ → Logged Small
done_with small held light used written =
    record {
      number = numbered 0;
      «record» = record { settings = with_backlight small.settings light; held = held; state = small.state; len = small.len; edition = small.edition };
      used = used;
      written = written;
    }

-- the same with what the sister's entries leave
abbrev pub sister_done_with : Small → SisterKeyed → ℕ → ℕ → Logged Small
sister_done_with small k used written =
    done_with
    (record { settings = with_hook small.settings k.hook; held = small.held; state = small.state; len = small.len; edition = with_ptt (with_keys small.edition k.keys) k.ptt })
    small.held k.backlight used written

-- a log that is taken by the rules
abbrev pub taken_by : Record → List ℕ → List ℕ → ℕ → Outcome
taken_by r ticks edges room = record { number = numbered 0; ran = run step_in r (entries ticks edges) room }

-- the loop's part of the promise: whatever the arrays hold, what it hands back and leaves in the buffer is the run of the rules
pub record Takes (l : Logged Small) (small : Small) (ticks edges before after : List ℕ) : Type 0 where
  pub back : (text picture bytes : List ℕ) → l ≡ lent_of (handed_back (taken_by (together small text picture bytes) ticks edges (length before)))
  pub buffer : (text picture bytes : List ℕ) → after ≡ buffer_after (taken_by (together small text picture bytes) ticks edges (length before)) before
