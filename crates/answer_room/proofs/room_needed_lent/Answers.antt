-- `answer_room::room_needed_lent` keeps its promise. Assumes nothing.
use Rattle.std.proofs.Common.{arith, sym, ap, ◌∙◌, ne_eqb, eq-eqb}
use Rattle.std.specs.Prelude.{◌+◌, ◌≡◌, Ok}
use Rattle.record.specs.Parts.{whole}
use Rattle.parting.specs.Count.{escapes, waiting}
use Rattle.stream.specs.Stream.{state_of}
use Rattle.answer_room.specs.Needed.{room_for, room_needed}
use Rattle.answer_room.specs.Laws.{waiting_state, escapes_at_most, room_counted}
use Rattle.answer_room.proofs.room_needed_lent.Goals as goal
use Rattle.answer_room.proofs.room_needed_lent.Goals.{then-parts-ne-NO_FRAME, else-parts-ne-NO_FRAME}

pub overflow_add-marks : goal.overflow_add-marks
unfolding room_needed
overflow_add-marks c = omega (arith, c.escapes_in-marks.ensures.same, escapes_at_most c.args.bytes.now)

pub returns : goal.returns
unfolding room_needed
returns c = record {
  same = let start = c.args in
      let r = whole start.parts in
      let good = sym c.in_range_lent.ensures.same ∙ c.if-not-in_range_lent.false in
      let escaped = c.escapes_in-marks.ensures.same in
      let marks : c.if-parts-ne-NO_FRAME.marks ≡ escapes start.bytes.now + waiting (state_of r).frame =
      elim c.if-parts-ne-NO_FRAME.branch [
        | then-parts-ne-NO_FRAME w ↦ w.marks-is ∙ omega (arith, escaped, rw (ne_eqb r.frame.state 0 w.if-parts-ne-NO_FRAME.true) at (waiting_state r))
        | else-parts-ne-NO_FRAME w ↦ w.marks-is ∙ omega (arith, escaped, rw (eq-eqb r.frame.state 0 w.if-parts-ne-NO_FRAME.false) at (waiting_state r))
      ] in
      ap Ok (c.room_for.ensures.same ∙ ap (room_for start.parts.small.edition.sister) marks) ∙ sym (room_counted r start.bytes.now good);
}
