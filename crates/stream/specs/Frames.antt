-- The record's frame and the parting's frame are the same thing, told twice. Assumes nothing.
use Rattle.std.specs.Prelude.{ℕ, zero, suc, ◌-◌, ◌≡◌, refl, Bool, true, false, cond, ◌||◌, List, [], ◌∷◌, ◌++◌, eqb, length, take, drop, replicate}
use Rattle.std.proofs.Common.{arith, sym, ap, ◌∙◌, length-drop, take-append-drop, take_all, length-take-le, eqb-true, eq-eqb, ne_eqb, leb-true, le-leb}
use Rattle.std.proofs.Math.Seq.{drop-append_seam}
use Rattle.std.proofs.lemmas.Bool.{eqb-false, not-true}
use Rattle.lists.specs.Codes.{escape, carriage_return}
use Rattle.lists.specs.Both.{both, and_both}
use Rattle.lists.specs.Every.{every}
use Rattle.lists.specs.Padded.{padded, length_padded, held}
use Rattle.record.specs.declared.Frame.{Frame as KeptFrame}
use Rattle.record.specs.Range.{is_frame_byte, is_unused, frame_in_range}
use Rattle.parting.specs.Rules.{Body, empty, collect, Frame, no_frame, open_frame, overlong, limit, FrameInRange}
use Rattle.stream_places.specs.Places.{emptied_of}
use Rattle.stream.specs.Stream.{kept_frame, frame_in, Fits}
use Rattle.stream.specs.Turns.{coded}

-- A body of a frame is bytes that the record's frame may hold, and the other way round.
pub body_of : (bytes : List ℕ) → every is_frame_byte bytes ≡ true → Body bytes
body_of [] h = empty
body_of (b ∷ rest) h =
    let e = both h in
    let f = both e.0 in
    collect (record { not_escape = eqb-false b escape (not-true _ f.0); not_return = eqb-false b carriage_return (not-true _ f.1) }) (body_of rest e.1)

pub frame_bytes : {body : List ℕ} → Body body → every is_frame_byte body ≡ true
frame_bytes empty = refl
frame_bytes (collect {b} {body} p rest) = rw (ne_eqb b escape p.not_escape, ne_eqb b carriage_return p.not_return) (frame_bytes rest)

-- what the range says of the frame's places
pub record Places (f : KeptFrame) : Type 0 where
  pub fits : Fits f.state f.len f.bytes
  pub used : every is_frame_byte (take f.len f.bytes) ≡ true
  pub unused : every is_unused (drop f.len f.bytes) ≡ true

one_or_empty : (state len : ℕ) → (eqb state 1 || eqb len 0) ≡ true → (state ≡ 1 → ⊥) → len ≡ 0
one_or_empty state len h n = eqb-true len 0 (rw (ne_eqb state 1 n) at h)

pub places_of : (f : KeptFrame) → frame_in_range f ≡ true → Places f
unfolding frame_in_range
places_of f h =
    let a = both h in
    let b = both a.0 in
    let c = both b.0 in
    let d = both c.0 in
    let e = both d.0 in
    let full : length f.bytes ≡ limit = eqb-true (length f.bytes) limit e.0 in
    record {
      fits = record { known = leb-true f.state 2 d.1; short = leb-true f.len limit e.1; none = one_or_empty f.state f.len c.1; full = full };
      used = b.1;
      unused = rw (take_all limit f.bytes (omega arith)) at a.1;
    }

-- The record's frame, read, is a frame in its range.
pub frame_read : (f : KeptFrame) → frame_in_range f ≡ true → FrameInRange (frame_in f.state f.len f.bytes)
unfolding frame_in
frame_read f h = go (eqb f.state 0) (eqb f.state 1)
  where
    places : Places f
    places = places_of f h

    short : length (take f.len f.bytes) ≡ f.len
    short = length-take-le f.len f.bytes (omega (arith, places.fits.full, places.fits.short))

    go : (x y : Bool) → FrameInRange (cond x no_frame (cond y (open_frame (take f.len f.bytes)) overlong))
    go true y = tt
    go false true = (body_of (take f.len f.bytes) places.used, omega (arith, short, places.fits.short))
    go false false = tt

-- A frame that is kept is read back.
pub frame_back : (frame : Frame) → frame_in (kept_frame frame).state (kept_frame frame).len (kept_frame frame).bytes ≡ frame
unfolding frame_in
frame_back no_frame = refl
frame_back (open_frame body) = ap open_frame (held limit body)
frame_back overlong = refl

unused_zeros : (n : ℕ) → every is_unused (replicate n 0) ≡ true
unused_zeros zero = refl
unused_zeros (suc n) = unused_zeros n

zeros_of : (xs : List ℕ) → every is_unused xs ≡ true → xs ≡ replicate (length xs) 0
zeros_of [] h = refl
zeros_of (x ∷ xs) h = let e = both h in λ j. eqb-true x 0 e.0 j ∷ zeros_of xs e.1 j

-- A frame in its range is kept in the record's range.
pub frame_kept : (frame : Frame) → FrameInRange frame → frame_in_range (kept_frame frame) ≡ true
unfolding frame_in_range padded
frame_kept no_frame h = refl
frame_kept (open_frame body) h =
    let full : length (padded limit body) ≡ limit = length_padded limit body h.1 in
    let used : take (length body) (padded limit body) ≡ body = held limit body in
    let unused : drop (length body) (take limit (padded limit body)) ≡ replicate (limit - length body) 0 =
    ap (drop (length body)) (take_all limit (padded limit body) (omega arith)) ∙ drop-append_seam body (replicate (limit - length body) 0)
    in
    and_both (and_both (and_both (and_both (and_both (eq-eqb _ _ full) (le-leb _ _ h.1)) refl) refl) (rw used (frame_bytes h.0)))
    (rw unused (unused_zeros (limit - length body)))
frame_kept overlong h = refl

-- A record's frame in range, read and kept again, is itself.
pub frame_same : (f : KeptFrame) → frame_in_range f ≡ true → kept_frame (frame_in f.state f.len f.bytes) ≡ f
frame_same f h =
    let places = places_of f h in
    let rest : length (drop f.len f.bytes) ≡ limit - f.len = length-drop f.len f.bytes ∙ ap (λ (n : ℕ). n - f.len) places.fits.full in
    let zeros : drop f.len f.bytes ≡ replicate (limit - f.len) 0 = zeros_of _ places.unused ∙ ap (λ (n : ℕ). replicate n 0) rest in
    let whole : take f.len f.bytes ++ replicate (limit - f.len) 0 ≡ f.bytes =
    ap (λ (t : List ℕ). take f.len f.bytes ++ t) (sym zeros) ∙ take-append-drop f.len f.bytes
    in
    sym (coded f.state f.len f.bytes places.fits) ∙ (λ j. record { state = f.state; len = f.len; bytes = (emptied_of f.bytes f.len places.fits.full ∙ whole) j })
