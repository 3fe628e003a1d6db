-- THE PART AT A PLACE: the first part of the parting of the bytes from that place on. Assumes nothing.
use Rattle.std.specs.Prelude.{ℕ, ◌+◌, List, [], ◌∷◌, length, drop, Bool, eqb, ◌||◌, Option, Some, None}
use Rattle.lists.specs.Codes.{escape, carriage_return}
use Rattle.parting.specs.Rules.{Part, text, skipped, closed, abandoned, bytes_of, Parted, done, unfinished, then}
use Rattle.parting.specs.Cut.{outside, cut}
use Rattle.parts.specs.declared.Kind.{Kind}
use Rattle.parts.specs.declared.Kind.TheVariants as Kinds
use Rattle.parts.specs.declared.PartAt.{PartAt}

abbrev pub kind_of : Part → Kind
kind_of (text b) = Kinds.Text
kind_of (skipped b) = Kinds.Skipped
kind_of (closed body) = Kinds.Closed
kind_of (abandoned body) = Kinds.Abandoned

-- a text or skipped byte has no body
abbrev pub body_of : Part → List ℕ
body_of (text b) = []
body_of (skipped b) = []
body_of (closed body) = body
body_of (abandoned body) = body

-- what stands at a place: of this kind, with these bytes, and with this body behind the first of them
abbrev told : ℕ → Kind → List ℕ → List ℕ → PartAt
told place kind bytes body = record { kind = kind; end = place + length bytes; body = place + 1; body_end = place + 1 + length body }

abbrev pub tail_at : ℕ → List ℕ → PartAt
tail_at place body = told place Kinds.Tail (escape ∷ body) body

abbrev pub standing : ℕ → Part → PartAt
standing place part = told place (kind_of part) (bytes_of part) (body_of part)

-- what a frame's body ends before
abbrev pub ends_body : ℕ → Bool
ends_body b = eqb b escape || eqb b carriage_return

-- the first part of a parting that begins at this place; at the stream's end there is none
abbrev pub first_part : ℕ → Parted → Option PartAt
first_part place done = None
first_part place (unfinished body) = Some (tail_at place body)
first_part place (then part parted) = Some (standing place part)

-- THE PART AT A PLACE of a stream
unfoldable pub part_at : List ℕ → ℕ → Option PartAt
part_at bytes place = first_part place (cut outside (drop place bytes))
