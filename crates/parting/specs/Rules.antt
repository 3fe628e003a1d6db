-- THE RULES of the parting, and nothing else: no reader, no handset. Hold this page against document 01, "How a stream is parted".
-- A stream is a list of codes; a code above 0xFF never comes. Assumes nothing.
use Rattle.std.specs.Prelude.{ℕ, ◌+◌, ◌≤◌, ◌<◌, ◌≡◌, Bool, cond, List, [], ◌∷◌, ◌++◌, leb, length}
use Rattle.lists.specs.Codes.{escape, carriage_return, blank}

-- a byte that a frame collects: all but ESC and CR
pub record Plain (b : ℕ) : Type 0 where
  pub not_escape : b ≡ escape → ⊥
  pub not_return : b ≡ carriage_return → ⊥

-- the body of a frame, what follows its ESC: plain bytes, of any number
pub data Body : List ℕ → Type 0 where
  empty : Body []
  collect : {b : ℕ} {body : List ℕ} → Plain b → Body body → Body (b ∷ body)

-- the parts; a frame is given by its body
pub data Part : Type 0 where
  text : ℕ → Part
  skipped : ℕ → Part
  closed : List ℕ → Part
  abandoned : List ℕ → Part

-- which of them there are: text from 0x20 on; skipped are all other codes but ESC; a frame holds plain bytes
abbrev pub Lawful : Part → Type 0
Lawful (text b) = blank ≤ b
Lawful (skipped b) = (b < blank) × (b ≡ escape → ⊥)
Lawful (closed body) = Body body
Lawful (abandoned body) = Body body

-- which bytes each stands for: the ESC that abandons a frame is the next frame's own
abbrev pub bytes_of : Part → List ℕ
bytes_of (text b) = b ∷ []
bytes_of (skipped b) = b ∷ []
bytes_of (closed body) = escape ∷ body ++ carriage_return ∷ []
bytes_of (abandoned body) = escape ∷ body

-- what may follow what: behind an abandoned frame a frame opens, behind the others anything may stand
pub data Opens : List ℕ → Type 0 where
  opens : {rest : List ℕ} → Opens (escape ∷ rest)

abbrev pub MayFollow : Part → List ℕ → Type 0
MayFollow (text b) rest = Unit {0}
MayFollow (skipped b) rest = Unit {0}
MayFollow (closed body) rest = Unit {0}
MayFollow (abandoned body) rest = Opens rest

-- parts in order, and at most one unfinished tail: a frame that waits for its end
pub data Parted : Type 0 where
  done : Parted
  unfinished : List ℕ → Parted
  then : Part → Parted → Parted

-- THE PARTING of a stream
pub data Parting : List ℕ → Parted → Type 0 where
  ends : Parting [] done
  waits : {body : List ℕ} → Body body → Parting (escape ∷ body) (unfinished body)
  goes_on : {part : Part} {rest : List ℕ} {parted : Parted} → Lawful part → MayFollow part rest → Parting rest parted
      → Parting (bytes_of part ++ rest) (then part parted)

-- where each part stands: so many bytes lie before it
pub record Placed : Type 0 where
  pub place : ℕ
  pub part : Part

unfoldable pub places : ℕ → Parted → List Placed
places at done = []
places at (unfinished body) = []
places at (then part parted) = record { place = at; part = part } ∷ places (at + length (bytes_of part)) parted

-- where the unfinished tail stands, or else the stream's end
unfoldable pub tail_place : ℕ → Parted → ℕ
tail_place at done = at
tail_place at (unfinished body) = at
tail_place at (then part parted) = tail_place (at + length (bytes_of part)) parted

abbrev pub tail_bytes : Parted → List ℕ
tail_bytes done = []
tail_bytes (unfinished body) = escape ∷ body
tail_bytes (then part parted) = tail_bytes parted

-- The frame in the record: none, open with at most 250 bytes, or overlong.
abbrev pub limit : ℕ
limit = 250

pub data Frame : Type 0 where
  no_frame : Frame
  open_frame : List ℕ → Frame
  overlong : Frame

abbrev pub in_limit : List ℕ → Bool
in_limit body = leb (length body) limit

-- what the record keeps of an unfinished tail: the 251st byte makes it overlong
unfoldable pub keep : List ℕ → Frame
keep body = cond (in_limit body) (open_frame body) overlong

-- which bytes the record's frame stands for, before the new ones: an overlong one for any body that is too long
pub data Stands : Frame → List ℕ → Type 0 where
  none_stands : Stands no_frame []
  open_stands : {body : List ℕ} → Body body → length body ≤ limit → Stands (open_frame body) (escape ∷ body)
  overlong_stands : {body : List ℕ} → Body body → limit < length body → Stands overlong (escape ∷ body)

-- the frame's range in the record
abbrev pub FrameInRange : Frame → Type 0
FrameInRange no_frame = Unit {0}
FrameInRange (open_frame body) = Body body × (length body ≤ limit)
FrameInRange overlong = Unit {0}
