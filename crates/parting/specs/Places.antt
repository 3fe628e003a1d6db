-- THE PLACE OF EACH PART: at the place that is told stand the part's own bytes. Assumes nothing.
use Rattle.std.specs.Prelude.{ℕ, ◌+◌, ◌≡◌, length, take, drop}
use mathlib.Core.List.Memᴰ
use mathlib.Core.List.{List, [], ◌∷◌, ◌++◌, append_assoc, Memᴰ}
use Rattle.std.proofs.Common.{length-append}
use Rattle.std.proofs.Math.Seq.{take-append_seam, drop-append_seam}
use Rattle.parting.specs.Rules.{Part, bytes_of, Parted, then, Parting, ends, waits, goes_on, Placed, places, tail_place, tail_bytes}

-- the bytes from that place on begin with the part's own
abbrev pub StandsAt : List ℕ → Placed → Type 0
StandsAt stream placed = take (length (bytes_of placed.part)) (drop placed.place stream) ≡ bytes_of placed.part

-- Each part stands at its place, and from the tail's place on stands the tail.
pub record Told (stream : List ℕ) (at : ℕ) (parted : Parted) : Type 0 where
  pub parts : (placed : Placed) → Memᴰ placed (places at parted) → StandsAt stream placed
  pub tail : drop (tail_place at parted) stream ≡ tail_bytes parted

-- one part more, behind bytes that are parted already
told_more : (before : List ℕ) (part : Part) (rest : List ℕ) (parted : Parted) → Told ((before ++ bytes_of part) ++ rest) (length (before ++ bytes_of part)) parted
    → Told (before ++ (bytes_of part ++ rest)) (length before) (then part parted)
unfolding places tail_place
told_more before part rest parted told = record { parts = parts; tail = next.tail }
  where
    next : Told (before ++ (bytes_of part ++ rest)) (length before + length (bytes_of part)) parted
    next = rw (append_assoc before (bytes_of part) rest, length-append before (bytes_of part)) at told

    parts : (placed : Placed) → Memᴰ placed (record { place = length before; part = part } ∷ places (length before + length (bytes_of part)) parted) → StandsAt (before ++ (bytes_of part ++ rest)) placed
    parts placed (Memᴰ.head e) = rw e (rw (drop-append_seam before (bytes_of part ++ rest)) (take-append_seam (bytes_of part) rest))
    parts placed (Memᴰ.tail m) = next.parts placed m

told_behind : (before : List ℕ) {stream : List ℕ} {parted : Parted} → Parting stream parted → Told (before ++ stream) (length before) parted
unfolding places tail_place
told_behind before ends = record { parts = λ placed m. absurd (Memᴰ.not-nil m); tail = drop-append_seam before [] }
told_behind before (waits {body} h) = record { parts = λ placed m. absurd (Memᴰ.not-nil m); tail = drop-append_seam before _ }
told_behind before (goes_on {part} {rest} {parted} l f p) = told_more before part rest parted (told_behind (before ++ bytes_of part) p)

-- The place of each part of a stream can be told.
pub told : {stream : List ℕ} {parted : Parted} → Parting stream parted → Told stream 0 parted
told p = told_behind [] p
