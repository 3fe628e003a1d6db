-- What the code's forms stand for: the pieces of her line for a command of the first edition. Assumes nothing.
use Rattle.std.specs.Prelude.{List, [], ◌∷◌}
use Rattle.lists.specs.Codes.{ascii}
use Rattle.frame_table.specs.Pieces.{Piece, sign, number}
use Rattle.command.specs.Order.{plain}
use Rattle.command.specs.Grammar.{form}
use Rattle.command.specs.Ranges.{of_row, of_column}
use Rattle.command.specs.declared.Command.{Command}
use Rattle.sister_command.specs.Grammar.{never}
use Rattle.sister_form.specs.declared.SharedForm.{SharedForm}
use Rattle.sister_form.specs.declared.SharedForm.TheVariants.{Same, TwoSigns, FourSigns, Place, Never}

abbrev pub pieces : Command → SharedForm → List Piece
pieces c Same = form (plain c)
pieces c (TwoSigns a b) = sign (a ∷ b ∷ []) ∷ []
pieces c (FourSigns x y z w) = sign (x ∷ y ∷ z ∷ w ∷ []) ∷ []
pieces c (Place row column) = sign (ascii "&H") ∷ number of_row row ∷ sign (ascii ";") ∷ number of_column column ∷ []
pieces c Never = never
