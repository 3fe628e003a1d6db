-- The last two numbers of a frame, told by its bytes alone. Assumes nothing.
use Rattle.std.specs.Prelude.{ℕ, ◌+◌, ◌*◌, ◌-◌, ◌%◌, ◌<◌, Bool, true, cond, ◌&&◌, List, [], ◌∷◌, ◌++◌, ◌≡◌, refl, eqb}
use Prim.Native.Char.{code}
use Rattle.std.proofs.Common.{mod-eq_of_lt, arith, true≢false, sym, ap, ◌∙◌, eqb-true, le-leb}
use Rattle.lists.specs.Both.{both}
use Rattle.numeral.specs.Spelt.{Spelt, one, two, three, digit_code}
use Rattle.numeral.specs.Numeral.{is_digit}
use Rattle.frame_table.specs.declared.Numbers.{Numbers}
use Rattle.frame_table.specs.Pieces.{Piece, sign, number, digit, text, columns, Matches, end, signs, digits, one_digit, codes, data_of}
use Rattle.frame_table.specs.Spelling.{is_plain}

abbrev pub pair : ℕ → ℕ → Numbers
pair m n = record { before = m; last = n }

-- a digit goes to the last number, a ';' begins another; no table takes a number that runs over
abbrev pub with_digit : ℕ → ℕ → ℕ
with_digit n x = (n * 10 + x) % 65536

unfoldable pub numbers_after : ℕ → Numbers → Numbers
numbers_after b r = cond (is_digit b) (pair r.before (with_digit r.last (b - code "0"))) (cond (eqb b (code ";")) (pair r.last 0) r)

abbrev pub numbers_from : Numbers → List ℕ → Numbers
numbers_from r [] = r
numbers_from r (b ∷ f) = numbers_from (numbers_after b r) f

-- the numbers of pieces, and whether each number begins where the last one is 0
unfoldable pub numbers_told : Numbers → List Piece → Numbers
numbers_told r [] = r
numbers_told r (sign s ∷ ps) = numbers_told (numbers_from r s) ps
numbers_told r (number q n ∷ ps) = numbers_told (pair r.before n) ps
numbers_told r (digit q n ∷ ps) = numbers_told r ps
numbers_told r (text t ∷ ps) = numbers_told r ps
numbers_told r (columns cs ∷ ps) = numbers_told r ps

unfoldable pub begins_each : Numbers → List Piece → Bool
begins_each r [] = true
begins_each r (sign s ∷ ps) = begins_each (numbers_from r s) ps
begins_each r (number q n ∷ ps) = eqb r.last 0 && begins_each (pair r.before n) ps
begins_each r (digit q n ∷ ps) = begins_each r ps
begins_each r (text t ∷ ps) = begins_each r ps
begins_each r (columns cs ∷ ps) = begins_each r ps

numbers_append : (r : Numbers) (s f : List ℕ) → numbers_from r (s ++ f) ≡ numbers_from (numbers_from r s) f
numbers_append r [] f = refl
numbers_append r (b ∷ s) f = numbers_append (numbers_after b r) s f

digit_read : (m v x : ℕ) → v < 100 → x < 10 → numbers_after (digit_code x) (pair m v) ≡ pair m (v * 10 + x)
unfolding numbers_after
digit_read m v x h l =
    let same : digit_code x - code "0" ≡ x = omega arith in
    rw (le-leb (code "0") (digit_code x) (omega arith), le-leb (digit_code x) (code "9") (omega arith), same, mod-eq_of_lt {n = v * 10 + x} {m = 65536} (omega arith))

spelt_read : {n : ℕ} {d : List ℕ} (m : ℕ) → Spelt n d → numbers_from (pair m 0) d ≡ pair m n
spelt_read m (one {z} l) = digit_read m 0 z (omega arith) l ∙ ap (pair m) (omega arith)
spelt_read m (two {y} {z} p k l) =
    rw (digit_read m 0 y (omega arith) k) (digit_read m (0 * 10 + y) z (omega arith) l ∙ ap (pair m) (omega arith))
spelt_read m (three {x} {y} {z} p j k l) =
    rw (digit_read m 0 x (omega arith) j, digit_read m (0 * 10 + x) y (omega arith) k)
    (digit_read m ((0 * 10 + x) * 10 + y) z (omega arith) l ∙ ap (pair m) (omega arith))

-- What a frame says is what its pieces say.
pub numbers_read : (r : Numbers) {ps : List Piece} {f : List ℕ} → is_plain ps ≡ true → begins_each r ps ≡ true → Matches ps f → numbers_from r f ≡ numbers_told r ps
unfolding numbers_told begins_each
numbers_read r h e end = refl
numbers_read r h e (signs s {f = f} m) = numbers_append r s f ∙ numbers_read (numbers_from r s) h e m
numbers_read r h e (digits {n} {d} {ps} {f} s m) =
    let w = both {a = eqb r.last 0} e in
    let fresh : r ≡ pair r.before 0 = ap (pair r.before) (eqb-true r.last 0 w.0) in
    numbers_append r d f
    ∙ ap (λ (q : Numbers). numbers_from q f) (ap (λ (q : Numbers). numbers_from q d) fresh ∙ spelt_read r.before s)
    ∙ numbers_read (pair r.before n) h w.1 m
numbers_read r h e (one_digit l m) = absurd (true≢false (sym h))
numbers_read r h e (codes l k m) = absurd (true≢false (sym h))
numbers_read r h e (data_of d m) = absurd (true≢false (sym h))
