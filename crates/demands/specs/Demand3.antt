-- DEMAND 3. "From a record within its ranges, its open frame standing first, any byte stream parts in exactly one way into text
-- bytes, skipped bytes, closed frames, abandoned frames and at most one unfinished tail. The rules of that parting, and of the good
-- frames, are written without the reader. The record and the question marks at the end are those of taking the parts in order. With
-- no key, clock or power-on call between, cutting the stream elsewhere changes nothing, if each call's unused bytes are offered again
-- first and the room for answers in the end takes them all." Since request T-04 the answers of questions count with the question marks,
-- and a hook call with the calls that may not fall between. The rules are parting's Rules and command's Grammar. Assumes nothing.
use Rattle.std.specs.Prelude.{ℕ, ◌≡◌, true, List}
use Rattle.record.specs.declared.Record.{Record}
use Rattle.record.specs.Range.{in_range}
use Rattle.parting.specs.Rules.{Stands}
use Rattle.stream.specs.Stream.{state_of, fed_of}
use Rattle.stream.specs.Demand.{Calling, fed_back, FeedDemand3}
use Rattle.stream.proofs.Demand.{feed_demand3, feed_demand3_fixes, fed_in_range, stands_for_bytes}

-- `FeedDemand3 call r before` has the letter's sentences one by one, of anything that takes stream calls.
pub record Demand3 : Type 0 where
  -- Whatever the frame in a record in range is, there are bytes that it stands for;
  pub standing_first : (r : Record) → in_range r ≡ true → (before : List ℕ) × Stands (state_of r).frame before
  -- the stream call meets the sentences;
  pub streams : (r : Record) (before : List ℕ) → in_range r ≡ true → Stands (state_of r).frame before → FeedDemand3 fed_back r before
  -- nothing else does: neither another record nor another used or written count nor another buffer;
  pub only_so : (r : Record) (before : List ℕ) → in_range r ≡ true → Stands (state_of r).frame before
      → (call : Calling) → FeedDemand3 call r before → (bytes lent : List ℕ) → call r bytes lent ≡ fed_back r bytes lent
  -- and the record comes back within its ranges, so that it holds of the next call too.
  pub in_range_again : (r : Record) (bytes : List ℕ) (room : ℕ) → in_range r ≡ true → in_range (fed_of r bytes room).record ≡ true

pub demand3 : Demand3
demand3 = record { standing_first = stands_for_bytes; streams = feed_demand3; only_so = feed_demand3_fixes; in_range_again = fed_in_range }
