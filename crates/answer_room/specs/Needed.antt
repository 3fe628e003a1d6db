-- HOW MUCH ROOM FOR ANSWERS a stream call can need (request T-09): the count that is made before the call. Assumes nothing.
use Rattle.std.specs.Prelude.{ℕ, ◌+◌, ◌*◌, min, Bool, true, false, not, cond, List, length, Result, Ok, Err}
use Rattle.record.specs.Range.{in_range}
use Rattle.record.specs.declared.Record.{Record}
use Rattle.record.specs.declared.Refusal.{Refusal}
use Rattle.record.specs.declared.Refusal.TheVariants.{FieldOutOfRange}
use Rattle.parting.specs.Count.{escapes, waiting}
use Rattle.sister_effect.specs.Obey.{mark_of}
use Rattle.stream.specs.Stream.{state_of}

-- the greatest of the count's type, usize
abbrev pub greatest : ℕ
greatest = 18446744073709551615

-- the room for so many marks: in the first edition a byte for each; the sister's has more, and is told as far as the type reaches
abbrev pub room_for : Bool → ℕ → ℕ
room_for false marks = marks
room_for true marks = min (marks * length (mark_of true)) greatest

-- refused for any field out of range; else room for as many marks as ESC bytes are offered, and one for a frame that is open or overlong
unfoldable pub room_needed : Record → List ℕ → Result ℕ Refusal
room_needed r bytes =
    cond (not (in_range r)) (Err FieldOutOfRange)
    (Ok (room_for r.edition.sister (escapes bytes + waiting (state_of r).frame)))
