-- The reader meets demand 3, whatever the handset, and nothing else does.
-- What it speaks of is in specs/Demand.antt. Assumes nothing.
use Rattle.std.specs.Prelude.{ℕ, zero, suc, ◌≤◌, ◌≡◌, List, [], ◌++◌, length, take, replicate}
use Rattle.std.proofs.Common.{arith, sym, ◌∙◌, subst}
use Rattle.std.proofs.lemmas.List.{length-replicate}
use Rattle.lists.specs.Codes.{blank}
use Rattle.turns.proofs.Room.{run_stops, only_one}
use Rattle.turns.proofs.Calls.{cuts_do_not_matter, last_takes_all}
use Rattle.parting.specs.Rules.{Body, empty, collect, Frame, no_frame, open_frame, overlong, limit, Stands, none_stands, open_stands, overlong_stands, FrameInRange}
use Rattle.parting.specs.Meaning.{Meaning, State, Taken}
use Rattle.parting.proofs.Exactly.{exactly_one}
use Rattle.parting.specs.Reading.{step}
use Rattle.parting.proofs.Stream.{stream}
use Rattle.parting.specs.Room.{Ran, run}
use Rattle.parting.specs.Calls.{session}
use Rattle.parting.specs.Demand.{Demand3}

-- THE READER MEETS DEMAND 3, whatever the handset.
pub demand3 : (M : Meaning) → Demand3 M (run M)
demand3 M =
    record {
      one_parting = exactly_one;
      in_order = λ state bytes room standing p. (run_stops (step M) state bytes room).does ∙ stream M state _ standing p;
      within = λ state bytes room. (run_stops (step M) state bytes room).within;
      fits = λ state bytes room. (run_stops (step M) state bytes room).fits;
      stops = λ state bytes room standing p. rw (← stream M state _ standing p) (run_stops (step M) state bytes room).stops;
      anywhere = λ state calls standing p none. cuts_do_not_matter (step M) state calls none ∙ stream M state _ standing p;
      none_left = λ state calls last standing p room.
          let s = session (run M) state [] calls in
          last_takes_all (step M) state [] calls last (subst (λ (t : Taken M.Core). length t.answers ≤ last.room) (sym (stream M s.state (s.unused ++ last.entries) standing p)) room);
    }

-- some bytes for each frame in range
filled : (n : ℕ) → Body (replicate n blank)
filled zero = empty
filled (suc n) = collect {b = blank} (record { not_escape = λ e. omega arith; not_return = λ e. omega arith }) (filled n)

-- EVERY FRAME IN RANGE STANDS FOR SOME BYTES, so what is said of them is said of every record in range.
pub stands_for_some : (frame : Frame) → FrameInRange frame → (before : List ℕ) × Stands frame before
stands_for_some no_frame h = (_, none_stands)
stands_for_some (open_frame body) h = (_, open_stands h.0 h.1)
stands_for_some overlong h = (_, overlong_stands (filled (suc limit)) (omega (arith, length-replicate (suc limit) blank)))

-- DEMAND 3 FIXES the answer: from a record in range nothing else meets it, in record, used, or answers.
pub demand3_fixes : (M : Meaning) (call : State M.Core → List ℕ → ℕ → Ran M.Core) → Demand3 M call
    → (state : State M.Core) → FrameInRange state.frame → (bytes : List ℕ) (room : ℕ) → call state bytes room ≡ run M state bytes room
demand3_fixes M call demand state range bytes room =
    let stands = (stands_for_some state.frame range).1 in
    let now = exactly_one (take (call state bytes room).used bytes) stands in
    let next = exactly_one (take (suc (call state bytes room).used) bytes) stands in
    only_one (step M)
    (record {
      within = demand.within state bytes room;
      does = demand.in_order state bytes room stands now.parting ∙ sym (stream M state _ stands now.parting);
      fits = demand.fits state bytes room;
      stops = rw (stream M state _ stands next.parting) (demand.stops state bytes room stands next.parting);
    })
    (run_stops (step M) state bytes room)
