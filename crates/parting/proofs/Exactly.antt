-- EVERY STREAM parts in exactly one way.
-- What it speaks of is in specs/Exactly.antt. Assumes nothing.
use Rattle.std.specs.Prelude.{ℕ, List, ◌++◌}
use Rattle.std.proofs.Common.{sym, ◌∙◌}
use Rattle.parting.specs.Rules.{Frame, Stands, none_stands, open_stands, overlong_stands}
use Rattle.parting.specs.Cut.{Side, outside, inside, Fine, front, cut}
use Rattle.parting.proofs.Cut.{exists, only_cut}
use Rattle.parting.specs.Exactly.{ExactlyOne}

one : (side : Side) (stream : List ℕ) → Fine side → ExactlyOne (front side ++ stream)
one side stream fine = let p = exists stream side fine in record { parted = cut side stream; parting = p; only = λ other q. only_cut q ∙ sym (only_cut p) }

-- EVERY STREAM, with the record's open frame standing first, parts in exactly one way.
pub exactly_one : {frame : Frame} {before : List ℕ} (stream : List ℕ) → Stands frame before → ExactlyOne (before ++ stream)
exactly_one stream none_stands = one outside stream tt
exactly_one stream (open_stands {body} h l) = one (inside body) stream h
exactly_one stream (overlong_stands {body} h l) = one (inside body) stream h
