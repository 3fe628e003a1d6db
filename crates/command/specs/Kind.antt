-- OF WHAT KIND A COMMAND IS, whatever its numbers: by its place among the kinds (First.antt). So what speaks of few commands names these
-- alone. Assumes nothing.
use Rattle.std.specs.Prelude.{ℕ, Bool, true, ◌≡◌, eqb}
use Rattle.std.proofs.Math.Option.{some}
use Rattle.std.proofs.Common.{eqb-true}
use Rattle.frame_table.specs.Kinds.{made}
use Rattle.command.specs.First.{kinds, kind}
use Rattle.command.specs.declared.Command.{Command}

abbrev pub place : Command → ℕ
place c = (kind c).place

-- the first of a command's numbers
abbrev pub first_number : Command → ℕ
first_number c = (kind c).m

abbrev pub same_kind : Command → Command → Bool
same_kind c d = eqb (place c) (place d)

-- A command of the kind of one that has no number is that one.
pub that_one : (c d : Command) → ((m n : ℕ) → made kinds (place d) m n ≡ some d) → same_kind c d ≡ true → c ≡ d
that_one c d numberless h =
    let e : made kinds (place d) (kind c).m (kind c).n ≡ some c = rw (eqb-true (place c) (place d) h) at (kind c).same in
    let f = numberless (kind c).m (kind c).n in
    cc
