-- `seen::codes_in` keeps its promise. The loop goes from the end of the line: what is left of it has the same last code. Assumes nothing.
use Rattle.std.proofs.Common.{arith, sym, ap, ◌∙◌, subst, take_all, get_or-drop, length-take}
use Rattle.std.proofs.Math.Nat.{max-eq_left, max-eq_right}
use Rattle.std.specs.Prelude.{ℕ, suc, ◌+◌, ◌-◌, ◌<◌, ◌≡◌, List, get_or, ◌≤◌, length, take}
use Rattle.lists.specs.Codes.{blank}
use Rattle.record.specs.Range.{line_of}
use Rattle.seen.specs.Line.{after_last, codes_in}
use Rattle.seen.specs.LineLaws.{line_length, after_within, cut_blank, cut_written}
use Rattle.seen.proofs.codes_in.Goals as goal

-- the code before place i of the line, as the text has it
code_before : (text : List ℕ) (i : ℕ) → 1 ≤ i → get_or text (80 + i - 1) 0 ≡ get_or (line_of text) (i - 1) 0
code_before text i h =
    let e : 80 + i - 1 ≡ 80 + (i - 1) = omega arith in
    rw e (sym (get_or-drop 80 text (i - 1) 0))

-- At a code that is not blank the line has as many codes as are before it, and itself.
found : (text : List ℕ) (column i : ℕ) → length text ≡ 104 → i ≤ 24 → column < i → after_last (take i (line_of text)) ≡ after_last (line_of text)
    → (get_or text (80 + i - 1) 0 ≡ blank → ⊥) → i ≡ codes_in column (line_of text)
found text column i l h k same n =
    let there : i - 1 < length (line_of text) = omega (arith, line_length text l) in
    let one : suc (i - 1) ≡ i = omega arith in
    let last : after_last (take i (line_of text)) ≡ i = subst (λ (j : ℕ). after_last (take j (line_of text)) ≡ j) one (cut_written (line_of text) (i - 1) there (λ e. n (code_before text i (omega arith) ∙ e))) in
    let e : after_last (line_of text) ≡ i = sym same ∙ last in
    rw e (sym (max-eq_right (omega arith)))

-- A blank is cut off.
cut : (text : List ℕ) (i : ℕ) → length text ≡ 104 → i ≤ 24 → 1 ≤ i → after_last (take i (line_of text)) ≡ after_last (line_of text)
    → get_or text (80 + i - 1) 0 ≡ blank → after_last (take (i - 1) (line_of text)) ≡ after_last (line_of text)
cut text i l h k same e =
    let there : i - 1 < length (line_of text) = omega (arith, line_length text l) in
    let one : suc (i - 1) ≡ i = omega arith in
    let fewer : after_last (take i (line_of text)) ≡ after_last (take (i - 1) (line_of text)) = subst (λ (j : ℕ). after_last (take j (line_of text)) ≡ after_last (take (i - 1) (line_of text))) one (cut_blank (line_of text) (i - 1) there (sym (code_before text i k) ∙ e)) in
    sym fewer ∙ same

-- No code past the column: the line has as many as are before it.
no_code_past : (text : List ℕ) (column i : ℕ) → i ≤ column → after_last (take i (line_of text)) ≡ after_last (line_of text) → column ≡ codes_in column (line_of text)
no_code_past text column i h same =
    let within : after_last (line_of text) ≤ column = omega (arith, after_within (take i (line_of text)), length-take i (line_of text)) in
    sym (max-eq_left within)

pub loop-i-init : goal.loop-i-init
loop-i-init c = let text = c.args.text.now in
    (omega arith, ap after_last (take_all 24 (line_of text) (omega (arith, line_length text c.requires))))

pub returns-then-text-i-ne-BLANK : goal.returns-then-text-i-ne-BLANK
returns-then-text-i-ne-BLANK c = let start = c.args in
    let loop = c.loop-i in
    found start.text.now start.column loop.i c.requires loop.invariant.0 (omega arith) loop.invariant.1 c.if-text-i-ne-BLANK.true

pub loop-i-preserved : goal.loop-i-preserved
loop-i-preserved c = let text = c.args.text.now in
    let loop = c.loop-i in
    (omega arith, cut text loop.i c.requires loop.invariant.0 (omega arith) loop.invariant.1 c.if-text-i-ne-BLANK.false)

pub returns : goal.returns
returns c = let start = c.args in
    let loop = c.loop-i in
    no_code_past start.text.now start.column loop.i (omega arith) loop.invariant.1
