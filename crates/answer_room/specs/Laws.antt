-- What the count is made of, and that it is small. Assumes nothing.
use Rattle.std.specs.Prelude.{ℕ, ◌+◌, ◌≤◌, ◌≡◌, Bool, true, false, cond, List, eqb, length, Ok, Err}
use Rattle.std.proofs.Common.{ap, ◌∙◌}
use Rattle.lists.specs.Counted.{counted_most}
use Rattle.lists.specs.Tests.{by_test}
use Rattle.record.specs.Range.{in_range}
use Rattle.record.specs.declared.Record.{Record}
use Rattle.record.specs.declared.Refusal.TheVariants.{FieldOutOfRange}
use Rattle.parting.specs.Count.{is_escape, escapes, waiting}
use Rattle.stream.specs.Stream.{frame_in, state_of}
use Rattle.answer_room.specs.Needed.{room_for, room_needed}

-- The frame's state tells whether a frame waits.
pub waiting_state : (r : Record) → waiting (state_of r).frame ≡ cond (eqb r.frame.state 0) 0 1
unfolding frame_in
waiting_state r = by_test (eqb r.frame.state 0) (λ e. rw e) (λ e. rw e (by_test (eqb r.frame.state 1) (λ f. rw f) (λ f. rw f)))

-- There are no more ESC bytes than bytes: so a count of them, and one more, is a usize.
pub escapes_at_most : (bytes : List ℕ) → escapes bytes ≤ length bytes
unfolding escapes
escapes_at_most = counted_most is_escape

-- A record in range gets the count,
pub room_counted : (r : Record) (bytes : List ℕ) → in_range r ≡ true → room_needed r bytes ≡ Ok (room_for r.edition.sister (escapes bytes + waiting (state_of r).frame))
unfolding room_needed
room_counted r bytes h = rw h

-- in the first edition a byte for each mark;
pub room_of_first : (r : Record) (bytes : List ℕ) → in_range r ≡ true → r.edition.sister ≡ false → room_needed r bytes ≡ Ok (escapes bytes + waiting (state_of r).frame)
room_of_first r bytes h first =
    room_counted r bytes h ∙ ap (λ (sister : Bool). Ok (room_for sister (escapes bytes + waiting (state_of r).frame))) first

-- any other is refused.
pub room_refused : (r : Record) (bytes : List ℕ) → in_range r ≡ false → room_needed r bytes ≡ Err FieldOutOfRange
unfolding room_needed
room_refused r bytes h = rw h
