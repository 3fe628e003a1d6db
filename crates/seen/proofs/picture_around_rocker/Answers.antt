-- `seen::picture_around_rocker` keeps its promise. Assumes nothing.
use Rattle.std.proofs.Common.{rules, sym, ap, ◌∙◌, ◌≡◌, List, ℕ, ◌++◌, length, take, drop, append_assoc, drop-drop}
use Rattle.std.specs.Prelude.{replicate}
use Rattle.seen.specs.Rows.{around_rocker}
use Rattle.seen.proofs.picture_around_rocker.Goals as goal

pub returns : goal.returns
returns c =
    let columns = c.picture_row-columns.result in
    let full : length columns ≡ 96 = search rules in
    let zeros : c.fill.new.self ≡ replicate 12 0 = search rules in
    ap (λ (cells : List ℕ). take 42 columns ++ (cells ++ drop 12 (drop 42 columns))) zeros
    ∙ ap (λ (rest : List ℕ). take 42 columns ++ (replicate 12 0 ++ rest)) (drop-drop 12 42 columns)
    ∙ sym (append_assoc (take 42 columns) (replicate 12 0) (drop 54 columns))
    ∙ ap around_rocker c.picture_row-columns.ensures
