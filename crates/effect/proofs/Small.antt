-- The numbers of a command in range are bytes. Assumes nothing.
use Prim.Native.Nat.{ℕ, ◌*◌, ◌≤◌, ◌<◌}
use native.Mathlib.Omega.{arith}
use mathlib.Core.Bool.{Bool, true, false, true≢false, cond, ◌&&◌, ◌||◌, and-false}
use mathlib.Core.Path.{◌≡◌, refl, sym, subst, ◌∙◌}
use lib.Dec.{leb, ltb, eqb}
use borrow.Author.Tests.{leb-true, leb-false, lt-leb, ltb-true, eqb-true, ne_eqb}
use Rattle.lists.specs.Both.{both}
use Rattle.record.specs.Range.{large, line_start, row_start_of, mode_in_range, icon_u_in_range, time1_in_range, time2_in_range}
use Rattle.command.specs.InRange.{is_overlay, is_column, rows_named, command_in_range}
use Rattle.command.specs.declared.Command.{Command}
use Rattle.command.specs.declared.Command.TheVariants.{Position, KeyTimes, Contrast, Inverse}

-- a test that no number above 255 passes
small_by : (test : ℕ → Bool) → ((n : ℕ) → 255 < n → test n ≡ false) → (n : ℕ) → test n ≡ true → n < 256
small_by test high n h = cases (leb n 255) refl
  where
    cases : (b : Bool) → leb n 255 ≡ b → n < 256
    cases true e = omega (arith, leb-true n 255 e)
    cases false e = absurd (true≢false (sym h ∙ high n (leb-false n 255 e)))

pub at_most : (most n : ℕ) → most ≤ 255 → leb n most ≡ true → n < 256
at_most most n l h = omega (arith, leb-true n most h)

pub small_mode : (n : ℕ) → (mode_in_range n || is_overlay n) ≡ true → n < 256
small_mode =
    small_by (λ n. mode_in_range n || is_overlay n)
    (λ n h. simp (ne_eqb n 0 (λ e. omega arith), ne_eqb n 1 (λ e. omega arith), ne_eqb n 5 (λ e. omega arith), ne_eqb n 6 (λ e. omega arith), ne_eqb n 10 (λ e. omega arith), lt-leb n 18 (omega arith), and-false (leb 11 n)))

pub small_icon_u : (n : ℕ) → icon_u_in_range n ≡ true → n < 256
small_icon_u = small_by icon_u_in_range (λ n h. simp (ne_eqb n 0 (λ e. omega arith), ne_eqb n 1 (λ e. omega arith), ne_eqb n 255 (λ e. omega arith)))

-- 0, or a number from the least to the most
pub small_from : (least most n : ℕ) → most ≤ 255 → (eqb n 0 || (leb least n && leb n most)) ≡ true → n < 256
small_from least most n l h = cases (eqb n 0) refl h
  where
    cases : (b : Bool) → eqb n 0 ≡ b → (b || (leb least n && leb n most)) ≡ true → n < 256
    cases true e k = omega (arith, eqb-true n 0 e)
    cases false e k = at_most most n l (both {a = leb least n} k).1

-- a row of a text mode and a column
pub small_position : {k : Command} {row column : ℕ} (mode : ℕ) → k ≡ Position row column → command_in_range (rows_named mode) k ≡ true → (row < 256) × (column < 256)
small_position {k} {row} {column} mode e h =
    let b = both {a = ltb row (rows_named mode)} {b = is_column column} (subst (λ (x : Command). command_in_range (rows_named mode) x ≡ true) e h) in
    (cases (leb mode 1) (eqb mode large) (ltb-true row (rows_named mode) b.0), at_most 15 column (omega arith) b.1)
  where
    cases : (few line : Bool) → row < cond line 0 (cond few 4 (cond line 1 5)) → row < 256
    cases few true l = omega arith
    cases true false l = omega arith
    cases false false l = omega arith

-- a contrast
pub small_contrast : {k : Command} {n : ℕ} (rows : ℕ) → k ≡ Contrast n → command_in_range rows k ≡ true → n < 256
small_contrast {k} {n} rows e h = at_most 20 n (omega arith) (both {a = leb 1 n} (subst (λ (x : Command). command_in_range rows x ≡ true) e h)).1

-- where a row begins
pub small_start : (mode row : ℕ) → row < 256 → row_start_of mode row < 65536
small_start mode row h = cases (eqb mode large)
  where
    cases : (line : Bool) → cond line line_start (row * 16) < 65536
    cases true = omega arith
    cases false = omega arith

-- a row whose mark is set
pub small_mark : {k : Command} {n : ℕ} (mode : ℕ) → k ≡ Inverse n → command_in_range (rows_named mode) k ≡ true → n ≤ 5
small_mark {k} {n} mode e h = cases (leb mode 1) (eqb mode large) (leb-true n (rows_named mode) (subst (λ (x : Command). command_in_range (rows_named mode) x ≡ true) e h))
  where
    cases : (few line : Bool) → n ≤ cond line 0 (cond few 4 (cond line 1 5)) → n ≤ 5
    cases few true l = omega arith
    cases true false l = omega arith
    cases false false l = omega arith

-- Time1 and Time2
pub small_times : {k : Command} {time1 time2 : ℕ} (rows : ℕ) → k ≡ KeyTimes time1 time2 → command_in_range rows k ≡ true → (time1 < 256) × (time2 < 256)
small_times {k} {time1} {time2} rows e h =
    let b = both {a = time1_in_range time1} {b = time2_in_range time2} (subst (λ (x : Command). command_in_range rows x ≡ true) e h) in
    (at_most 50 time1 (omega arith) (both {a = leb 4 time1} b.0).1, small_from 4 50 time2 (omega arith) b.1)
