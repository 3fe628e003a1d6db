-- `key_entry::all_listed` keeps its promise. Assumes nothing.
use Rattle.std.proofs.Math.Seq.{slice}
use Rattle.std.specs.Prelude.{◌&&◌, ◌≡◌, length}
use Rattle.lists.specs.Every.{every}
use Rattle.key_entry.specs.Rules.{listed_up_to}
use Rattle.key_entry.proofs.all_listed.Given as goal

abbrev pub invariant-loop-edge : goal.invariant-loop-edge
invariant-loop-edge l = every (listed_up_to l.last) (slice 0 (length l.edges) l.edges) ≡ (l.ok && every (listed_up_to l.last) (slice l.edge-index (length l.edges) l.edges))
