-- The order that the reader's findings give, and the promise of obeying it. Assumes nothing.
use Prim.Native.Nat.{ℕ}
use mathlib.Core.Bool.{Bool, true, false, cond}
use mathlib.Core.List.{List}
use mathlib.Core.Option.{Option}
use mathlib.Core.Path.{◌≡◌, refl, sym, ap, ◌∙◌}
use Rattle.command.specs.Order.{Order, draw}
use Rattle.command.specs.InRange.{is_picture_row, rows_named, command_in_range}
use Rattle.command.specs.declared.Command.{Command}
use Rattle.effect.specs.declared.Obeyed.{Obeyed}
use Rattle.record.specs.Core.{Core, on_picture}
use Rattle.effect.specs.Effect.{drawn, carry_out}
use Rattle.effect.specs.Obey.{obey_order, answer_to, Obeys}

pub obeys : {order found : Option Order} {before after : Core} {obeyed : Obeyed}
    → order ≡ found → obeyed.answer ≡ answer_to found → after ≡ obey_order before found → Obeys order before obeyed after
obeys {before = before} e g s = record { answer = g ∙ ap answer_to (sym e); same = s ∙ ap (obey_order before) (sym e) }

-- what was asked of the ranges, in the text mode's rows
pub judged : {rows : ℕ} {ok : Bool} (mode : ℕ) (c : Command) (b : Bool) → rows ≡ rows_named mode → ok ≡ command_in_range rows c → ok ≡ b → command_in_range (rows_named mode) c ≡ b
judged mode c b e h t = ap (λ (n : ℕ). command_in_range n c) (sym e) ∙ sym h ∙ t

-- a drawn row is the order carried out
pub row_drawn : (before : Core) (picture : List ℕ) (row : ℕ) (columns : List ℕ)
    → picture ≡ cond (is_picture_row row) (drawn before.picture row columns) before.picture → on_picture before picture ≡ carry_out (draw row columns) before
unfolding carry_out
row_drawn before picture row columns e = ap (on_picture before) e ∙ cases (is_picture_row row)
  where
    cases : (b : Bool) → on_picture before (cond b (drawn before.picture row columns) before.picture) ≡ cond b (on_picture before (drawn before.picture row columns)) before
    cases true = refl
    cases false = refl
