-- What a number does to the screen and to the volume: parts of document 01's third column ("The good frames"). Assumes nothing.
use Rattle.std.specs.Prelude.{ℕ, true, false, cond, eqb}
use Rattle.record.specs.declared.Screen.{Screen}
use Rattle.record.specs.declared.Volume.{Volume}
use Rattle.record.specs.With.{with_mode, with_overlay, with_row, with_column, with_which, with_level, with_hidden}
use Rattle.command.specs.InRange.{is_overlay}

-- cursor position row, column
abbrev pub at : Screen → ℕ → ℕ → Screen
at s row column = with_column (with_row s row) column

-- text mode n, overlay none, cursor position 0,0
abbrev pub in_mode : Screen → ℕ → Screen
in_mode s n = at (with_overlay (with_mode s n) 0) 0 0

-- IDn: 11 to 18 are overlays, which leave the cursor untouched; the other numbers are text modes
abbrev pub to_mode : Screen → ℕ → Screen
to_mode s n = cond (is_overlay n) (with_overlay s n) (in_mode s n)

-- above 0: private or handsfree at n, hidden no. 0: none, hidden yes. Mute stays.
abbrev pub at_level : Volume → ℕ → ℕ → Volume
at_level v which n = cond (eqb n 0) (with_hidden (with_level (with_which v 0) 0) true) (with_hidden (with_level (with_which v which) n) false)
