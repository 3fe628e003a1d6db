-- `record_ranges::frame_in_range` keeps its promise. Assumes nothing.
use Rattle.std.proofs.Common.{rules, sym, ap, ◌∙◌, eq-eqb}
use Rattle.std.proofs.Math.Bool.{and_assoc}
use Rattle.std.specs.Prelude.{Bool, ◌&&◌, ◌||◌, ◌≡◌, eqb, leb, length}
use Rattle.record.specs.Range.{is_frame_byte, frame_in_range}
use Rattle.record_ranges.specs.Scan.{in_two}
use Rattle.record_ranges.proofs.frame_in_range.Goals as goal

pub returns : goal.returns
unfolding frame_in_range
returns c = let start = c.args in
    let full : length start.frame.now ≡ 250 = search rules in
    let counts = leb start.len 250 && leb start.state 2 && (eqb start.state 1 || eqb start.len 0) in
    rw (eq-eqb _ _ full)
    (ap (λ (kept : Bool). counts && kept) (c.bytes_in_range.ensures ∙ in_two is_frame_byte start.len 250 start.frame.now full) ∙ sym (and_assoc counts _ _))
