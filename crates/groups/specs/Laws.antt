-- ORDERS WITH NO GROUP IN COMMON: which comes first makes no difference, neither to the core nor to what each is answered. Assumes nothing.
-- The theorems are in proofs/Laws.antt.
use Rattle.std.specs.Prelude.{ℕ, ◌≤◌, List, ◌≡◌, length}
use Rattle.std.proofs.Math.Option.{some}
use Rattle.record.specs.Core.{Core}
use Rattle.command.specs.Order.{plain, label, draw}
use Rattle.sister_command.specs.Order.{AnyOrder, first, own}
use Rattle.sister_effect.specs.Obey.{carry_out_any, answers_to}
use Rattle.groups.specs.Groups.{every_row, rows_drawn}

-- WHAT IS SHOWN of two orders on a core
pub record Commutes (o p : AnyOrder) (c : Core) : Type 0 where
  -- one core, whichever comes first
  pub same : carry_out_any o (carry_out_any p c) ≡ carry_out_any p (carry_out_any o c)
  -- each is answered after the other as it would be before it
  pub one : answers_to (carry_out_any p c) (some o) ≡ answers_to c (some o)
  pub other : answers_to (carry_out_any o c) (some p) ≡ answers_to c (some p)

-- Picture frames ------------------------------------------------------------------------------------------------------

-- an order is a picture frame, or what it touches of the picture is all of it
pub data Draws : AnyOrder → Type 0 where
  frame_of : (m : ℕ) (a : List ℕ) → Draws (first (draw m a))
  no_frame_lem : {o : AnyOrder} → rows_drawn o ≡ every_row → Draws o

-- a picture frame has at most 96 columns
abbrev pub Fits : AnyOrder → Type 0
Fits (first (draw m a)) = length a ≤ 96
Fits (first (plain command)) = Unit {0}
Fits (first (label side codes)) = Unit {0}
Fits (own command) = Unit {0}
