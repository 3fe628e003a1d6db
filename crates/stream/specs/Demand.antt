-- DEMAND 3 FOR THE STREAM CALL ITSELF: what the parting's theory says of any handset, said of the record as it is kept and of what
-- a call writes into the room that it was lent. Assumes nothing.
-- The theorems are in proofs/Demand.antt.
use Rattle.std.specs.Prelude.{ℕ, suc, ◌≤◌, ◌<◌, ◌⊎◌, ◌≡◌, List, [], ◌∷◌, ◌++◌, length, take, replicate}
use Rattle.record.specs.declared.Held.{Held}
use Rattle.record.specs.declared.Record.{Record}
use Rattle.turns.specs.Room.{Ran}
use Rattle.turns.specs.Taking.{Taken}
use Rattle.turns.specs.Calls.{Session, session, taken_in}
use Rattle.parting.specs.Rules.{Parted, Parting, Stands}
use Rattle.parting.specs.Meaning.{State, taking}
use Rattle.parting.specs.Calls.{Call, offered}
use Rattle.parting.specs.Exactly.{ExactlyOne}
use Rattle.record.specs.Core.{Core, core_of}
use Rattle.stream.specs.Stream.{handset, state_of, record_of, fed_of, written_over, answers_after}

-- what a stream call hands back beside its number, and what then stands in the buffer that it was lent
pub record HandedBack : Type 0 where
  pub after : Record
  pub used : ℕ
  pub written : ℕ
  pub buffer : List ℕ

-- anything that takes a stream call: a record, bytes, and the buffer that is lent
abbrev pub Calling : Type 0
Calling = Record → List ℕ → List ℕ → HandedBack

-- THE STREAM CALL of this program
abbrev pub fed_back : Calling
fed_back r bytes lent =
    let fed = fed_of r bytes (length lent) in
    record { after = fed.record; used = fed.used; written = fed.written; buffer = answers_after r bytes lent }

-- the record and the answers of taking parts in order, from this record; its held key stays
abbrev pub taken_from : Record → Parted → Taken Record
taken_from r parted =
    let taken = taking handset (core_of r) parted in
    record { state = record_of r.held taken.state; answers = taken.answers }

-- what is handed back when so many bytes were used and these are their parts: the record; how many answer bytes there are; the
-- answers, and behind them what stood in the buffer
abbrev pub parts_taken : Record → Parted → ℕ → List ℕ → HandedBack
parts_taken r parted used lent =
    let taken = taken_from r parted in
    record { after = taken.state; used = used; written = length taken.answers; buffer = written_over taken.answers lent }

-- CALLS IN ORDER: each is offered what the one before left unused, then its own bytes. What a call writes does not depend on what
-- stood in its buffer (`in_order` below), so here zeros stand there.
abbrev pub ran_of : Calling → Record → List ℕ → ℕ → Ran Record
ran_of call r bytes room =
    let back = call r bytes (replicate room 0) in
    record { state = back.after; used = back.used; answers = take back.written back.buffer }

abbrev pub in_calls : Calling → Record → List Call → Session Record ℕ
in_calls call r calls = session (ran_of call) r [] calls

-- THE STATEMENT. In all of it the record is in range and `before` is what its open frame stands for.
pub record FeedDemand3 (call : Calling) (r : Record) (before : List ℕ) : Type 0 where
  -- Any byte stream, the open frame standing first, parts in exactly one way.
  pub one_parting : (bytes : List ℕ) → ExactlyOne (before ++ bytes)
  -- The record and the answers of a call are those of taking the parts of its used bytes in order; so is the written count,
  -- and the buffer, whatever was lent.
  pub in_order : (bytes lent : List ℕ) {parted : Parted} → Parting (before ++ take (call r bytes lent).used bytes) parted
      → call r bytes lent ≡ parts_taken r parted (call r bytes lent).used lent
  -- It uses no more than it was offered, writes no more than there is room for, and stops nowhere but before a byte whose whole
  -- answer does not fit.
  pub within : (bytes lent : List ℕ) → (call r bytes lent).used ≤ length bytes
  pub fits : (bytes lent : List ℕ) → (call r bytes lent).written ≤ length lent
  pub stops : (bytes lent : List ℕ) {parted : Parted} → Parting (before ++ take (suc (call r bytes lent).used) bytes) parted
      → ((call r bytes lent).used ≡ length bytes) ⊎ (length lent < length (taken_from r parted).answers)
  -- Cutting the stream elsewhere changes nothing, if each call's unused bytes are offered again first and none is left in the end;
  pub anywhere : (calls : List Call) {parted : Parted} → Parting (before ++ offered calls) parted → (in_calls call r calls).unused ≡ []
      → taken_in (in_calls call r calls) ≡ taken_from r parted
  -- and none is left if the room in the end takes the answers that are still to come: `waiting` is what the frame that is then open
  -- stands for.
  pub none_left : (calls : List Call) (last : Call) {waiting : List ℕ} {parted : Parted}
      → (let s = in_calls call r calls in
      Stands (state_of s.state).frame waiting → Parting (waiting ++ (s.unused ++ last.entries)) parted → length (taken_from s.state parted).answers ≤ last.room
      → (in_calls call r (calls ++ last ∷ [])).unused ≡ [])

-- What comes back of a run, with the held key and the buffer that was lent.
abbrev pub ran_back : Held → Ran (State Core) → List ℕ → HandedBack
ran_back held ran lent = record { after = record_of held ran.state; used = ran.used; written = length ran.answers; buffer = written_over ran.answers lent }

-- and as the record shows it.
abbrev pub shown_ran : Ran Record → Ran (State Core)
shown_ran ran = record { state = state_of ran.state; used = ran.used; answers = ran.answers }
