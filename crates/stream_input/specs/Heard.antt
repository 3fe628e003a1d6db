-- WHAT IS HEARD FROM AN INPUT: some bytes are read on from a record, in as many calls as it takes, and their answers are counted.
-- Which bytes they are only the input knows. Assumes nothing.
use Rattle.std.specs.Prelude.{ℕ, ◌+◌, min, ◌≡◌, true, false, cond, List, []}
use Rattle.record.specs.declared.Record.{Record}
use Rattle.record.specs.Range.{in_range}
use Rattle.picture.specs.Data.{Bytes}
use Rattle.parting.specs.Reading.{reading}
use Rattle.parting.specs.Room.{run}
use Rattle.answer.specs.Answers.{heads}
use Rattle.stream.specs.Stream.{handset, state_of, record_of, fed_of}
use Rattle.stream_input.specs.declared.Call.{Call}
use Rattle.stream_input.specs.declared.Heard.{Heard}

-- a count as far as its type, u64, reaches: the number itself, or the greatest of the type
abbrev pub greatest : ℕ
greatest = 18446744073709551615

abbrev pub capped : ℕ → ℕ
capped n = min n greatest

-- the record after these bytes; its held key stays
unfoldable pub record_after : Record → List ℕ → Record
record_after r bytes = record_of r.held (reading handset (state_of r) bytes).state

-- how many answers they get
unfoldable pub replies_to : Record → List ℕ → ℕ
replies_to r bytes = heads (reading handset (state_of r) bytes).answers

-- what a call answers: nothing from a record out of range
unfoldable pub answered : Record → List ℕ → ℕ → List ℕ
answered r bytes room = cond (in_range r) (run handset (state_of r) bytes room).answers []

-- A CALL, and how many answers it wrote
abbrev pub call_of : Record → List ℕ → ℕ → Call
call_of r bytes room = record { fed = fed_of r bytes room; replies = heads (answered r bytes room) }

-- the next record, with so many replies more
abbrev pub counted : Heard → Record → ℕ → Heard
counted before after replies = record { «record» = after; replies = capped (before.replies + replies); failed = before.failed }

-- THESE BYTES HEARD, behind what was heard before
abbrev pub heard_after : Heard → List ℕ → Heard
heard_after before bytes = counted before (record_after before.record bytes) (replies_to before.record bytes)

-- SOME BYTES HEARD, if the record is in range; one out of range stays as it is, and nothing is counted
pub record Hears (before after : Heard) : Type 0 where
  pub some : in_range before.record ≡ true → (bytes : List ℕ) × Bytes bytes × (after ≡ heard_after before bytes)
  pub none : in_range before.record ≡ false → after ≡ before
