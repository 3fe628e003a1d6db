-- What is looked for in bytes: how many have changed, and whether any is no line end. Assumes nothing.
use Rattle.std.specs.Prelude.{ℕ, Bool, not, ◌||◌, List, ◌==◌, count_by, zip}
use Rattle.lists.specs.Codes.{carriage_return, line_feed}
use Rattle.lists.specs.Every.{every}

-- at how many places two lists differ, as far as both go
abbrev pub differing : List ℕ → List ℕ → ℕ
differing before after = count_by (λ p. not (p.0 == p.1)) (zip before after)

abbrev pub is_line_end : ℕ → Bool
is_line_end code = code == carriage_return || code == line_feed

-- whether any code is no line end
abbrev pub has_others : List ℕ → Bool
has_others codes = not (every is_line_end codes)
