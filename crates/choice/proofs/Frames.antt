-- The sign of a frame by what was read of it. Assumes nothing.
use Prim.Native.Nat.{ℕ, ◌-◌, ◌<◌}
use native.Mathlib.Omega.{arith}
use mathlib.Core.List.{List}
use mathlib.Core.Option.{none}
use mathlib.Core.Path.{◌≡◌, sym, ◌∙◌}
use lib.Dec.{ltb}
use lib.ListN.{length, drop, length-drop}
use borrow.Author.Tests.{ltb-true, ltb-false, lt-ltb, le-ltb}
use Rattle.lists.specs.Tests.{by_test}
use Rattle.command.specs.Reading.{order_of}
use Rattle.command.proofs.Agree.{bad_frame}
use Rattle.command.specs.Plain.{spells_within}
use Rattle.choice.specs.Signs.{has_codes}

-- More than 250 bytes spell nothing.
pub too_long : (frame : List ℕ) → 250 < length frame → order_of frame ≡ none
too_long frame long = (bad_frame frame).1 (λ o s. omega (arith, (spells_within o s).most))

-- A label has codes where its frame goes on behind IK1 or IK2.
pub codes_behind : (frame : List ℕ) → ltb 3 (length frame) ≡ has_codes (drop 3 frame)
codes_behind frame =
    let left : length (drop 3 frame) ≡ length frame - 3 = length-drop 3 frame in
    by_test (ltb 3 (length frame))
    (λ e. e ∙ sym (lt-ltb 0 (length (drop 3 frame)) (omega (arith, ltb-true 3 (length frame) e))))
    (λ e. e ∙ sym (le-ltb 0 (length (drop 3 frame)) (omega (arith, ltb-false 3 (length frame) e))))
