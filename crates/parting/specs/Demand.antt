-- DEMAND 3 as one statement, over any handset and anything that answers its stream calls. It names no reader: only the rules of
-- the parting and what parts mean. Below it: that the reader meets it, and that nothing else does. Assumes nothing.
-- The theorems are in proofs/Demand.antt.
use Rattle.std.specs.Prelude.{ℕ, suc, ◌≤◌, ◌<◌, ◌⊎◌, ◌≡◌, List, [], ◌∷◌, ◌++◌, length, take}
use Rattle.turns.specs.Room.{taken_of}
use Rattle.parting.specs.Rules.{Parted, Parting, Frame, Stands}
use Rattle.parting.specs.Meaning.{Meaning, State, taking}
use Rattle.parting.specs.Exactly.{ExactlyOne}
use Rattle.parting.specs.Room.{Ran}
use Rattle.parting.specs.Calls.{Call, offered, session, taken_in}

-- In all of it `before` is what the record's open frame stands for.
pub record Demand3 (M : Meaning) (call : State M.Core → List ℕ → ℕ → Ran M.Core) : Type 0 where
  -- Any byte stream, the open frame standing first, parts in exactly one way.
  pub one_parting : {frame : Frame} {before : List ℕ} (bytes : List ℕ) → Stands frame before → ExactlyOne (before ++ bytes)
  -- The record and the answers are those of taking the parts of the used bytes in order.
  pub in_order : (state : State M.Core) {before : List ℕ} (bytes : List ℕ) (room : ℕ) {parted : Parted} → Stands state.frame before
      → Parting (before ++ take (call state bytes room).used bytes) parted → taken_of (call state bytes room) ≡ taking M state.core parted
  -- A call uses no more than it was offered, and writes no more than there is room for.
  pub within : (state : State M.Core) (bytes : List ℕ) (room : ℕ) → (call state bytes room).used ≤ length bytes
  pub fits : (state : State M.Core) (bytes : List ℕ) (room : ℕ) → length (call state bytes room).answers ≤ room
  -- It stops nowhere but before a byte whose whole answer does not fit.
  pub stops : (state : State M.Core) {before : List ℕ} (bytes : List ℕ) (room : ℕ) {parted : Parted} → Stands state.frame before
      → Parting (before ++ take (suc (call state bytes room).used) bytes) parted
      → ((call state bytes room).used ≡ length bytes) ⊎ (room < length (taking M state.core parted).answers)
  -- Cutting the stream elsewhere changes nothing, if each call's unused bytes are offered again first and none is left in the end.
  pub anywhere : (state : State M.Core) {before : List ℕ} (calls : List Call) {parted : Parted} → Stands state.frame before
      → Parting (before ++ offered calls) parted → (session call state [] calls).unused ≡ [] → taken_in (session call state [] calls) ≡ taking M state.core parted
  -- And none is left if the room in the end takes the answers that are still to come: `waiting` is what the frame that is then open
  -- stands for.
  pub none_left : (state : State M.Core) (calls : List Call) (last : Call) {waiting : List ℕ} {parted : Parted}
      → (let s = session call state [] calls in
      Stands s.state.frame waiting → Parting (waiting ++ (s.unused ++ last.entries)) parted → length (taking M s.state.core parted).answers ≤ last.room
      → (session call state [] (calls ++ last ∷ [])).unused ≡ [])
