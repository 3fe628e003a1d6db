-- `stream_places::empty_from` keeps its promise. Assumes nothing.
use Rattle.std.proofs.Common.{arith, sym, ◌∙◌, length-set}
use Rattle.stream_places.specs.Places.{empty_more, empty_end}
use Rattle.stream_places.proofs.empty_from.Goals as goal

pub loop-i-preserved : goal.loop-i-preserved
loop-i-preserved c = let v = c.loop-i in (length-set v.bytes _ _ ∙ v.invariant.0, v.invariant.1 ∙ empty_more v.bytes v.i (omega arith))

pub returns : goal.returns
returns c = record { buffer = let v = c.loop-i in sym (v.invariant.1 ∙ empty_end v.bytes v.i (omega arith)) }
