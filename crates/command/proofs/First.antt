-- The tests of the first edition's table and kinds.
-- What it speaks of is in specs/First.antt. Assumes nothing.
use Rattle.std.specs.Prelude.{ℕ, true, map, ◌≡◌, refl}
use Rattle.frame_table.specs.Numbers.{numbers_after, numbers_told, begins_each}
use Rattle.frame_table.specs.Table.{right, state_right, targets_valid}
use Rattle.frame_table.specs.Reader.{forms_of, test, passed, Tested}
use Rattle.command.specs.Pick.{with_number, display_of, light_of, contrast_of, after_i, cursor_sign, after_bracket, command_of}
use Rattle.command.specs.Table.{classes, next_states, table, examples}
use Rattle.command.specs.First.{kinds, kind, first}

-- THE TEST OF THE WHOLE TABLE: every target is a state, and every entry leads to what may come next.
pub table_right : right (forms_of first) examples table ≡ true
unfolding right state_right targets_valid classes next_states
table_right = refl

-- THE TEST OF EVERY KIND: its form is in the table, and its first bytes pick it.
kinds_right : (m n : ℕ) → map (test first m n) kinds ≡ map (passed first m n) kinds
unfolding numbers_after numbers_told begins_each with_number display_of light_of contrast_of after_i cursor_sign after_bracket command_of
kinds_right m n = refl

pub tested : Tested first
tested = record { table_right = table_right; kinds_right = kinds_right; kind = λ c f s. kind c }
