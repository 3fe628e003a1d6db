-- Which codes of the large line are small and which are big (request T-01, note 3.5.29). Assumes nothing.
use Rattle.std.specs.Prelude.{ℕ, suc, ◌+◌, ◌-◌, max, cond, List, [], ◌∷◌, ◌++◌, eqb, take, replicate}
use Rattle.std.proofs.Math.Seq.{slice}
use Rattle.lists.specs.Codes.{blank}
use Rattle.record.specs.Range.{line_of}
use Rattle.record.specs.declared.Record.{Record}

-- the place after the last code that is not 0x20
unfoldable pub after_last : List ℕ → ℕ
after_last [] = 0
after_last (b ∷ more) = cond (eqb (after_last more) 0) (cond (eqb b blank) 0 1) (suc (after_last more))

-- how many codes the line has: those before the column, and those up to the last that is not 0x20. So a line that is kept stays seen.
-- It is the one thing seen that rests on the cursor.
abbrev pub codes_in : ℕ → List ℕ → ℕ
codes_in column line = max column (after_last line)

-- with the ninth code the first becomes small, and so on: all but the last eight are small
abbrev pub small_in : ℕ → List ℕ → ℕ
small_in column line = codes_in column line - 8

-- the 16 cells of the small codes, from the left; those not used are 0x20
unfoldable pub small_cells : ℕ → List ℕ → List ℕ
small_cells column line = take (small_in column line) line ++ replicate (16 - small_in column line) blank

-- the 8 cells of the big codes, from the left: the last eight codes, or as many as there are and then the line's own 0x20
unfoldable pub big_cells : ℕ → List ℕ → List ℕ
big_cells column line = slice (small_in column line) (small_in column line + 8) line

-- of a record
abbrev pub small_line : Record → List ℕ
small_line r = small_cells r.settings.screen.column (line_of r.text)

abbrev pub big_line : Record → List ℕ
big_line r = big_cells r.settings.screen.column (line_of r.text)
