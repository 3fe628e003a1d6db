-- LAWS OF THE PART AT A PLACE, by the rules of the parting. In all of them `Parting (drop place bytes) parted` says how the bytes from the
-- place on are parted; place 0 is the whole stream. Assumes nothing.
use Rattle.std.specs.Prelude.{ℕ, zero, suc, ◌+◌, ◌-◌, ◌≤◌, ◌<◌, ◌≡◌, refl, ltb, length, take, drop, Option, Some, None, is_none, unwrap_or}
use Rattle.std.proofs.Common.{arith, sym, ap, ◌∙◌, subst, true≢false, length-append, length-drop, drop_of_length-le, drop-drop, drop_at, take-add, length-take-le, ltb-true, ltb-false}
use mathlib.Core.List.Memᴰ
use mathlib.Core.List.{List, [], ◌∷◌, ◌++◌, map, append_assoc, append-nil, Memᴰ}
use Rattle.std.proofs.Math.Seq.{slice, drop-append_seam, take-append_seam}
use Rattle.lists.specs.Codes.{escape, carriage_return}
use Rattle.lists.specs.Tests.{by_test}
use Rattle.parting.specs.Rules.{Part, text, skipped, closed, abandoned, bytes_of, Parted, done, unfinished, then, Parting, ends, waits, goes_on, Placed, places, tail_place}
use Rattle.parting.specs.Cut.{outside, cut}
use Rattle.parting.proofs.Cut.{exists, only_cut}
use Rattle.parts.specs.declared.PartAt.{PartAt}
use Rattle.parts.specs.Parts.{body_of, tail_at, standing, first_part, part_at}

-- What is told is the first part of the parting, whichever parting that is.
pub tells_first : (bytes : List ℕ) (place : ℕ) {parted : Parted} → Parting (drop place bytes) parted → part_at bytes place ≡ first_part place parted
unfolding part_at
tells_first bytes place p = ap (first_part place) (sym (only_cut p))

-- the same, where those bytes are known by an equation
told_there : (bytes : List ℕ) (place : ℕ) {stream : List ℕ} {parted : Parted} → Parting stream parted → drop place bytes ≡ stream → part_at bytes place ≡ first_part place parted
told_there bytes place {parted} p e = tells_first bytes place (subst (λ (rest : List ℕ). Parting rest parted) (sym e) p)

-- Behind the first part ---------------------------------------------------------------------------------------------------

-- what stands behind a parting's first part
pub record Behind (stream : List ℕ) (part : Part) (parted : Parted) : Type 0 where
  pub rest : List ℕ
  pub stream_is : stream ≡ bytes_of part ++ rest
  pub parting : Parting rest parted

behind : {stream : List ℕ} {part : Part} {parted : Parted} → Parting stream (then part parted) → Behind stream part parted
behind (goes_on {rest} l f p) = record { rest = rest; stream_is = refl; parting = p }

-- the bytes behind those first ones
drop_on : (bytes : List ℕ) (place : ℕ) (first rest : List ℕ) → drop place bytes ≡ first ++ rest → drop (place + length first) bytes ≡ rest
drop_on bytes place first rest e = sym (drop-drop (length first) place bytes) ∙ ap (drop (length first)) e ∙ drop-append_seam first rest

-- what is told where one is told
same_part : {told other : PartAt} {found : Option PartAt} → found ≡ Some told → found ≡ Some other → told ≡ other
same_part {told} e f = ap (λ (o : Option PartAt). unwrap_or o told) (sym e ∙ f)

none_is_some : {told : PartAt} → ◌≡◌ {A = Option PartAt} None (Some told) → ⊥
none_is_some e = true≢false (ap (λ (found : Option PartAt). is_none found) e)

-- Behind a part the rest is parted on.
pub parted_on : (bytes : List ℕ) (place : ℕ) {part : Part} {parted : Parted} {told : PartAt} → Parting (drop place bytes) (then part parted) → part_at bytes place ≡ Some told
    → Parting (drop told.end bytes) parted
parted_on bytes place {part} {parted} p e =
    let b = behind p in
    subst (λ (rest : List ℕ). Parting rest parted)
    (sym (ap (λ (told : PartAt). drop told.end bytes) (same_part e (tells_first bytes place p)) ∙ drop_on bytes place (bytes_of part) b.rest b.stream_is)) b.parting

-- THE PARTS ONE AFTER THE OTHER -------------------------------------------------------------------------------------------

-- what is found at a place
pub record Found : Type 0 where
  pub place : ℕ
  pub part : PartAt

-- what is found at a place, and more from its end on; or nothing
abbrev pub found_then : ℕ → Option PartAt → (ℕ → List Found) → List Found
found_then place None more = []
found_then place (Some part) more = record { place = place; part = part } ∷ more part.end

-- from a place on, each asked for where the one before ends, until none is there, and at most so many
unfoldable pub parts_from : ℕ → List ℕ → ℕ → List Found
parts_from zero bytes place = []
parts_from (suc most) bytes place = found_then place (part_at bytes place) (parts_from most bytes)

-- from the stream's beginning on; there are no more parts than bytes
abbrev pub parts_of : List ℕ → List Found
parts_of bytes = parts_from (length bytes) bytes 0

-- a part of the parting at its place, and its tail
abbrev pub found_of : Placed → Found
found_of placed = record { place = placed.place; part = standing placed.place placed.part }

abbrev pub tail_found : ℕ → Parted → List Found
tail_found at done = []
tail_found at (unfinished body) = record { place = at; part = tail_at at body } ∷ []
tail_found at (then part parted) = tail_found at parted

none_more : (most : ℕ) (bytes : List ℕ) (place : ℕ) → drop place bytes ≡ [] → parts_from most bytes place ≡ []
unfolding parts_from
none_more zero bytes place e = refl
none_more (suc most) bytes place e = rw (told_there bytes place ends e)

-- a part has a byte
pub some_bytes : (part : Part) → 1 ≤ length (bytes_of part)
some_bytes (text b) = omega arith
some_bytes (skipped b) = omega arith
some_bytes (closed body) = omega arith
some_bytes (abandoned body) = omega arith

parts_from_lem : {stream : List ℕ} {parted : Parted} → Parting stream parted → (most : ℕ) (bytes : List ℕ) (place : ℕ) → drop place bytes ≡ stream → length stream ≤ most
    → parts_from most bytes place ≡ map found_of (places place parted) ++ tail_found (tail_place place parted) parted
unfolding parts_from places tail_place
parts_from_lem ends most bytes place e l = none_more most bytes place e
parts_from_lem (waits {body} h) zero bytes place e l = absurd (omega arith)
parts_from_lem (waits {body} h) (suc most) bytes place e l =
    rw (told_there bytes place (waits h) e)
    (ap (λ (more : List Found). record { place = place; part = tail_at place body } ∷ more) (none_more most bytes _ (drop_on bytes place (escape ∷ body) [] (e ∙ sym (append-nil (escape ∷ body))))))
parts_from_lem (goes_on {part} {rest} {parted} l f p) zero bytes place e m = absurd (omega (arith, some_bytes part, length-append (bytes_of part) rest))
parts_from_lem (goes_on {part} {rest} {parted} l f p) (suc most) bytes place e m =
    rw (told_there bytes place (goes_on {part = part} {parted = parted} l f p) e)
    (ap (λ (more : List Found). record { place = place; part = standing place part } ∷ more)
    (parts_from_lem p most bytes (place + length (bytes_of part)) (drop_on bytes place (bytes_of part) rest e) (omega (arith, some_bytes part, length-append (bytes_of part) rest))))

-- ALL THE PARTS, TOLD ONE AFTER THE OTHER, ARE THE PARTING: each at its place, with its kind, its end and its body; the tail, if there is
-- one, is the last, at its own place; and there are no others.
pub all_parts : {bytes : List ℕ} {parted : Parted} → Parting bytes parted → parts_of bytes ≡ map found_of (places 0 parted) ++ tail_found (tail_place 0 parted) parted
all_parts {bytes} p = parts_from_lem p (length bytes) bytes 0 refl (omega arith)

-- The same of the computed parting, which every stream has.
pub all_parts_cut : (bytes : List ℕ) → parts_of bytes ≡ map found_of (places 0 (cut outside bytes)) ++ tail_found (tail_place 0 (cut outside bytes)) (cut outside bytes)
all_parts_cut bytes = all_parts (exists bytes outside tt)

-- As many as there are bytes left is enough to find all: who asks for more finds no more.
pub more_finds_no_more : (most : ℕ) (bytes : List ℕ) (place : ℕ) → length bytes - place ≤ most → parts_from most bytes place ≡ parts_from (length bytes - place) bytes place
more_finds_no_more most bytes place enough =
    let p = exists (drop place bytes) outside tt in
    parts_from_lem p most bytes place refl (omega (arith, length-drop place bytes))
    ∙ sym (parts_from_lem p (length bytes - place) bytes place refl (omega (arith, length-drop place bytes)))

-- the tail alone
abbrev pub tail_of : Parted → Parted
tail_of done = done
tail_of (unfinished body) = unfinished body
tail_of (then part parted) = tail_of parted

-- At each place of the parting stands its part, and at the tail's place the tail, or none.
pub record Stand (bytes : List ℕ) (at : ℕ) (parted : Parted) : Type 0 where
  pub parts : (placed : Placed) → Memᴰ placed (places at parted) → part_at bytes placed.place ≡ Some (standing placed.place placed.part)
  pub tail : part_at bytes (tail_place at parted) ≡ first_part (tail_place at parted) (tail_of parted)

stand_from : {stream : List ℕ} {parted : Parted} → Parting stream parted → (bytes : List ℕ) (place : ℕ) → drop place bytes ≡ stream → Stand bytes place parted
unfolding places tail_place
stand_from ends bytes place e = record { parts = λ placed m. absurd (Memᴰ.not-nil m); tail = told_there bytes place ends e }
stand_from (waits h) bytes place e = record { parts = λ placed m. absurd (Memᴰ.not-nil m); tail = told_there bytes place (waits h) e }
stand_from (goes_on {part} {rest} {parted} l f p) bytes place e =
    let next = stand_from p bytes (place + length (bytes_of part)) (drop_on bytes place (bytes_of part) rest e) in
    record { parts = parts next; tail = next.tail }
  where
    parts : Stand bytes (place + length (bytes_of part)) parted
        → (placed : Placed) → Memᴰ placed (record { place = place; part = part } ∷ places (place + length (bytes_of part)) parted) → part_at bytes placed.place ≡ Some (standing placed.place placed.part)
    parts next placed (Memᴰ.head same) = rw same (told_there bytes place (goes_on {part = part} {parted = parted} l f p) e)
    parts next placed (Memᴰ.tail m) = next.parts placed m

pub stand : {bytes : List ℕ} {parted : Parted} → Parting bytes parted → Stand bytes 0 parted
stand {bytes} p = stand_from p bytes 0 refl

-- Bounds ------------------------------------------------------------------------------------------------------------------

-- At the stream's end and past it there is none.
pub none_at_end : (bytes : List ℕ) (place : ℕ) → length bytes ≤ place → part_at bytes place ≡ None
none_at_end bytes place l = told_there bytes place ends (drop_of_length-le bytes {i = place} l)

-- A part has a byte or more and lies within the stream.
pub record Advances (bytes : List ℕ) (place : ℕ) (told : PartAt) : Type 0 where
  pub further : place < told.end
  pub within : told.end ≤ length bytes

-- one that stands at a place, and does
pub record Advancing (bytes : List ℕ) (place : ℕ) (found : Option PartAt) : Type 0 where
  pub told : PartAt
  pub some : found ≡ Some told
  pub goes : Advances bytes place told

advances_first : {stream : List ℕ} {parted : Parted} → Parting stream parted → (bytes : List ℕ) (place : ℕ) → drop place bytes ≡ stream → place < length bytes → Advancing bytes place (first_part place parted)
advances_first ends bytes place e before = absurd (omega (arith, length-drop place bytes, ap length e))
advances_first (waits {body} h) bytes place e before =
    let left : length bytes - place ≡ length (escape ∷ body) = sym (length-drop place bytes) ∙ ap length e in
    record { told = tail_at place body; some = refl; goes = record { further = omega arith; within = omega arith } }
advances_first (goes_on {part} {rest} l f p) bytes place e before =
    let left : length bytes - place ≡ length (bytes_of part ++ rest) = sym (length-drop place bytes) ∙ ap length e in
    record {
      told = standing place part;
      some = refl;
      goes = record { further = omega (arith, some_bytes part); within = omega (arith, some_bytes part, length-append (bytes_of part) rest) };
    }

-- Before the stream's end there is one.
pub advances : (bytes : List ℕ) (place : ℕ) → place < length bytes → Advancing bytes place (part_at bytes place)
advances bytes place before = let p = exists (drop place bytes) outside tt in subst (Advancing bytes place) (sym (tells_first bytes place p)) (advances_first p bytes place refl before)

-- So wherever there is one the next place lies further on, within the stream.
pub progress : (bytes : List ℕ) (place : ℕ) {told : PartAt} → part_at bytes place ≡ Some told → Advances bytes place told
progress bytes place e =
    by_test (ltb place (length bytes))
    (λ before. let a = advances bytes place (ltb-true place (length bytes) before) in subst (Advances bytes place) (same_part a.some e) a.goes)
    (λ behind. absurd (none_is_some (sym (none_at_end bytes place (ltb-false place (length bytes) behind)) ∙ e)))

-- The body lies within the part, behind its first byte.
pub record Lies (place : ℕ) (told : PartAt) : Type 0 where
  pub begins : place ≤ told.body
  pub in_order : told.body ≤ told.body_end
  pub stops : told.body_end ≤ told.end

lies_tail : (place : ℕ) (body : List ℕ) → Lies place (tail_at place body)
lies_tail place body = record { begins = omega arith; in_order = omega arith; stops = omega arith }

lies_standing : (place : ℕ) (part : Part) → Lies place (standing place part)
lies_standing place (text b) = record { begins = omega arith; in_order = omega arith; stops = omega arith }
lies_standing place (skipped b) = record { begins = omega arith; in_order = omega arith; stops = omega arith }
lies_standing place (closed body) = record { begins = omega arith; in_order = omega arith; stops = omega (arith, length-append body (carriage_return ∷ [])) }
lies_standing place (abandoned body) = record { begins = omega arith; in_order = omega arith; stops = omega arith }

lies_first : (place : ℕ) (parted : Parted) {told : PartAt} → first_part place parted ≡ Some told → Lies place told
lies_first place done e = absurd (none_is_some e)
lies_first place (unfinished body) e = subst (Lies place) (same_part refl e) (lies_tail place body)
lies_first place (then part parted) e = subst (Lies place) (same_part refl e) (lies_standing place part)

pub lies : (bytes : List ℕ) (place : ℕ) {told : PartAt} → part_at bytes place ≡ Some told → Lies place told
unfolding part_at
lies bytes place e = lies_first place (cut outside (drop place bytes)) e

-- The body ----------------------------------------------------------------------------------------------------------------

-- so many bytes behind the first
slice_behind : (bytes : List ℕ) (place first : ℕ) (body more : List ℕ) → drop place bytes ≡ first ∷ (body ++ more) → slice (place + 1) (place + 1 + length body) bytes ≡ body
slice_behind bytes place first body more e =
    let left : length bytes - place ≡ length (first ∷ (body ++ more)) = sym (length-drop place bytes) ∙ ap length e in
    ap (drop (place + 1)) (take-add (place + 1) (length body) bytes)
    ∙ drop_at (take (place + 1) bytes) (take (length body) (drop (place + 1) bytes)) (place + 1) (length-take-le (place + 1) bytes (omega arith))
    ∙ ap (take (length body)) (drop_on bytes place (first ∷ []) (body ++ more) e)
    ∙ take-append_seam body more

waiting : {stream body : List ℕ} → Parting stream (unfinished body) → stream ≡ escape ∷ body
waiting (waits h) = refl

-- what is told to be the body
abbrev pub body_told : List ℕ → PartAt → List ℕ
body_told bytes told = slice told.body told.body_end bytes

body_standing : (bytes : List ℕ) (place : ℕ) (part : Part) (rest : List ℕ) → drop place bytes ≡ bytes_of part ++ rest → body_told bytes (standing place part) ≡ body_of part
body_standing bytes place (text b) rest e = slice_behind bytes place b [] rest e
body_standing bytes place (skipped b) rest e = slice_behind bytes place b [] rest e
body_standing bytes place (closed body) rest e = slice_behind bytes place escape body (carriage_return ∷ rest) (e ∙ ap (λ (more : List ℕ). escape ∷ more) (append_assoc body (carriage_return ∷ []) rest))
body_standing bytes place (abandoned body) rest e = slice_behind bytes place escape body rest e

-- The bytes from `body` to `body_end` are the body of the part,
pub body_told_lem : (bytes : List ℕ) (place : ℕ) {part : Part} {parted : Parted} {told : PartAt} → Parting (drop place bytes) (then part parted) → part_at bytes place ≡ Some told
    → body_told bytes told ≡ body_of part
body_told_lem bytes place {part} p e = let b = behind p in ap (body_told bytes) (same_part e (tells_first bytes place p)) ∙ body_standing bytes place part b.rest b.stream_is

-- and of the tail.
pub tail_body_told : (bytes : List ℕ) (place : ℕ) {body : List ℕ} {told : PartAt} → Parting (drop place bytes) (unfinished body) → part_at bytes place ≡ Some told → body_told bytes told ≡ body
tail_body_told bytes place {body} p e =
    ap (body_told bytes) (same_part e (tells_first bytes place p)) ∙ slice_behind bytes place escape body [] (waiting p ∙ ap (λ (more : List ℕ). escape ∷ more) (sym (append-nil body)))
