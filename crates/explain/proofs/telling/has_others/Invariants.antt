-- All codes before the one that is looked at are line ends. Assumes nothing.
use Rattle.std.proofs.Common.{◌≡◌, drop}
use Rattle.lists.specs.Every.{every}
use Rattle.explain.specs.Changes.{is_line_end}
use Rattle.explain.proofs.telling.has_others.Given as goal

abbrev pub invariant-loop-code : goal.invariant-loop-code
invariant-loop-code l = every is_line_end l.codes ≡ every is_line_end (drop l.code-index l.codes)
