-- Worked cases of the room that a call can need, computed from the definition. Assumes nothing.
use Rattle.std.specs.Prelude.{ℕ, ◌≡◌, refl, true, List, [], ◌∷◌, ◌++◌, map, replicate, Result, Ok, Err}
use Rattle.lists.specs.Codes.{ascii, escape, carriage_return, line_feed}
use Rattle.lists.specs.Padded.{padded}
use Rattle.record.specs.PowerOn.{power_on, sister_power_on}
use Rattle.record.specs.Range.{in_range, text_in_range, label_in_range, picture_in_range, inverse_in_range, frame_in_range}
use Rattle.record.specs.With.{with_frame}
use Rattle.record.specs.declared.Frame.{Frame}
use Rattle.record.specs.declared.Refusal.{Refusal}
use Rattle.record.specs.declared.Refusal.TheVariants.{FieldOutOfRange}
use Rattle.parting.specs.Rules.{no_frame, open_frame, overlong}
use Rattle.parting.specs.Count.{escapes}
use Rattle.stream.specs.Stream.{kept_frame, frame_in}
use Rattle.answer_room.specs.Needed.{greatest, room_for, room_needed}

-- of the power-on record with this frame, on these bytes
abbrev of : Frame → List ℕ → Result ℕ Refusal
of frame bytes = room_needed (with_frame power_on frame) bytes

-- of the sister's
abbrev hers : Frame → List ℕ → Result ℕ Refusal
hers frame bytes = room_needed (with_frame sister_power_on frame) bytes

-- a bad frame and a good one, each with CR LF
abbrev two_frames : List ℕ
two_frames = (escape ∷ ascii "Q") ++ (carriage_return ∷ line_feed ∷ escape ∷ ascii "IK1Keep") ++ carriage_return ∷ line_feed ∷ []

-- each case: what the definition gives, and what request T-09 asks for
abbrev pub table : List (Result ℕ Refusal × Result ℕ Refusal)
table =
    (of (kept_frame no_frame) [], Ok 0)
    ∷ (of (kept_frame no_frame) (ascii "no frame at all" ++ carriage_return ∷ []), Ok 0)
    ∷ (of (kept_frame no_frame) (escape ∷ carriage_return ∷ []), Ok 1)
    ∷ (of (kept_frame no_frame) (escape ∷ escape ∷ carriage_return ∷ []), Ok 2)
    -- a good frame is counted with the bad ones
    ∷ (of (kept_frame no_frame) two_frames, Ok 2)
    -- a frame that is open, or overlong, is one more
    ∷ (of (kept_frame (open_frame [])) [], Ok 1)
    ∷ (of (kept_frame (open_frame (ascii "IK1Ke"))) (ascii "ep" ++ carriage_return ∷ []), Ok 1)
    ∷ (of (kept_frame (open_frame (ascii "IK1Ke"))) two_frames, Ok 3)
    ∷ (of (kept_frame overlong) [], Ok 1)
    ∷ (of (kept_frame overlong) two_frames, Ok 3)
    -- a frame's state is none, open or overlong
    ∷ (of (record { state = 3; len = 0; bytes = replicate 250 0 }) two_frames, Err FieldOutOfRange)
    -- the sister's mark is three bytes
    ∷ (hers (kept_frame no_frame) [], Ok 0)
    ∷ (hers (kept_frame no_frame) two_frames, Ok 6)
    ∷ (hers (kept_frame (open_frame (ascii "IK1Ke"))) two_frames, Ok 9)
    ∷ (hers (kept_frame overlong) [], Ok 3)
    ∷ (hers (record { state = 3; len = 0; bytes = replicate 250 0 }) two_frames, Err FieldOutOfRange)
    ∷ []

-- No bytes in memory are so many that her count is capped: the room for marks alone, at the type's end and past it.
pub capped : (room_for true 6148914691236517205 ≡ greatest) × (room_for true 6148914691236517206 ≡ greatest)
capped = (refl, refl)

pub cases : map (λ (c : Result ℕ Refusal × Result ℕ Refusal). c.0) table ≡ map (λ (c : Result ℕ Refusal × Result ℕ Refusal). c.1) table
unfolding room_needed escapes frame_in in_range text_in_range label_in_range picture_in_range inverse_in_range frame_in_range padded
cases = refl
