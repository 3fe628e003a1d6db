-- What a label and a picture row in range are, and what the count and the room then say. Assumes nothing.
use Rattle.std.specs.Prelude.{ℕ, ◌≤◌, Bool, true, false, cond, List, ◌++◌, ◌≡◌, refl, leb, length, take, drop, Result, Ok, Err}
use Rattle.std.proofs.Common.{arith, drop_at, leb-true}
use Rattle.std.proofs.Math.Seq.{take-append_seam}
use Rattle.lists.specs.Both.{both}
use Rattle.lists.specs.Every.{every}
use Rattle.record.specs.Range.{is_code}
use Rattle.record.specs.Number.{numbered, ended}
use Rattle.record.specs.declared.Refusal.{Refusal}
use Rattle.record.specs.declared.Refusal.TheVariants.{CommandOutOfRange, NoRoom}
use Rattle.writer_ranges.specs.Fitting.{is_label, is_row}
use Rattle.writer.specs.Writing.{written_of, count_of, room_after}

pub label_told : (codes : List ℕ) → is_label codes ≡ true → (length codes ≤ 7) × (every is_code codes ≡ true)
unfolding is_label
label_told codes h = let w = both h in (leb-true (length codes) 7 w.0, w.1)

pub record RowTold (row : ℕ) (columns : List ℕ) : Type 0 where
  pub least : 1 ≤ length columns
  pub most : length columns ≤ 96
  pub low : row ≤ 6

pub row_told : (row : ℕ) (columns : List ℕ) → is_row row columns ≡ true → RowTold row columns
unfolding is_row
row_told row columns h =
    let w = both (both h).0 in
    let v = both w.0 in
    record { least = leb-true 1 (length columns) v.0; most = leb-true (length columns) 96 v.1; low = leb-true row 6 w.1 }

-- Where a writer ends with number 0, the order was in range, the count is the frame's length, the first count bytes of the room are
-- the frame, and the others are as they were.
pub record Wrote (ok : Bool) (frame room : List ℕ) (back : Result ℕ Refusal) (after : List ℕ) : Type 0 where
  pub in_range_lem : ok ≡ true
  pub count : count_of back ≡ length frame
  pub first : take (count_of back) after ≡ frame
  pub others : drop (count_of back) after ≡ drop (count_of back) room

pub done_told : (ok : Bool) (frame room : List ℕ) → ended (written_of ok frame room) ≡ numbered 0 → Wrote ok frame room (written_of ok frame room) (room_after ok frame room)
unfolding written_of room_after
done_told ok frame room h = cases ok (leb (length frame) (length room)) h
  where
    cases : (inside fits : Bool) → ended (cond inside (cond fits (Ok (length frame)) (Err NoRoom)) (Err CommandOutOfRange)) ≡ numbered 0
        → Wrote inside frame room (cond inside (cond fits (Ok (length frame)) (Err NoRoom)) (Err CommandOutOfRange)) (cond inside (cond fits (frame ++ drop (length frame) room) room) room)
    cases true true h =
        record { in_range_lem = refl; count = refl; first = take-append_seam frame (drop (length frame) room); others = drop_at frame (drop (length frame) room) (length frame) refl }
    cases true false h = let z : ◌≡◌ {A = ℕ} 0 1 = cc in absurd (omega arith)
    cases false fits h = let z : ◌≡◌ {A = ℕ} 0 1 = cc in absurd (omega arith)
