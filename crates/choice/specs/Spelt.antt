-- The signs by the grammar: what a closed frame is to the rules is said by the order that it spells, and by there being none. Assumes
-- nothing.
use Rattle.std.specs.Prelude.{ℕ, List, ◌≡◌}
use Rattle.std.proofs.Common.{ap}
use Rattle.command.specs.Order.{Order}
use Rattle.command.specs.Grammar.{Spells}
use Rattle.command.proofs.Agree.{agree, bad_frame}
use Rattle.parting.specs.Rules.{closed}
use Rattle.choice.specs.declared.Sign.TheVariants.{Asked}
use Rattle.choice.specs.Signs.{order_sign, frame_sign, part_sign}

pub good_sign : (o : Order) (body : List ℕ) → Spells o body → part_sign (closed body) ≡ order_sign o
good_sign o body s = ap frame_sign ((agree o body).1 s)

pub bad_sign : (body : List ℕ) → ((o : Order) → Spells o body → ⊥) → part_sign (closed body) ≡ Asked
bad_sign body bad = ap frame_sign ((bad_frame body).1 bad)
