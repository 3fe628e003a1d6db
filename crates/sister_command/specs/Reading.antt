-- What a frame orders in either edition, by the readers. Assumes nothing.
use Rattle.std.specs.Prelude.{ℕ, Bool, true, false, cond, ◌||◌, List, Some, None}
use Rattle.std.specs.Prelude as std
use Rattle.std.proofs.Math.Option.{Option, none, some}
use Rattle.frame_table.specs.Reader.{reading}
use Rattle.command.specs.Order.{Order}
use Rattle.command.specs.First.{opens_label}
use Rattle.command.specs.Reading.{read_with, read_of, opens_picture, order_of}
use Rattle.command.specs.declared.Reading.{Reading}
use Rattle.command.specs.declared.Reading.TheVariants.{Plain}
use Rattle.sister_command.specs.Order.{AnyOrder, first, own}
use Rattle.sister_command.specs.Sister.{ordered, sister}
use Rattle.sister_command.specs.declared.SisterReading.{SisterReading}
use Rattle.sister_command.specs.declared.SisterReading.TheVariants.{Shared, Own}

-- the command of a frame of hers, by her table
unfoldable pub sister_read : List ℕ → std.Option SisterReading
sister_read f = reading sister f

abbrev pub order_said : std.Option SisterReading → Option AnyOrder
order_said None = none
order_said (Some reading) = some (ordered reading)

abbrev pub as_first : Option Order → Option AnyOrder
as_first none = none
as_first (some o) = some (first o)

-- a label and a picture are the first edition's
unfoldable pub sister_order_of : List ℕ → Option AnyOrder
sister_order_of f = cond (opens_picture f || opens_label f) (as_first (order_of f)) (order_said (sister_read f))

-- EITHER EDITION
abbrev pub order_in : Bool → List ℕ → Option AnyOrder
order_in true f = sister_order_of f
order_in false f = as_first (order_of f)

-- A frame of hers read as the first edition's: a label, or a command that both have. A command of her own is none of them
abbrev pub as_reading : std.Option SisterReading → std.Option Reading
as_reading None = None
as_reading (Some (Shared c)) = Some (Plain c)
as_reading (Some (Own c)) = None

unfoldable pub shared_read : List ℕ → std.Option Reading
shared_read f = cond (opens_label f) (read_of f) (as_reading (sister_read f))

-- read in its edition, in the first by two tables
abbrev pub read_in : Bool → List ℕ → List ℕ → List ℕ → std.Option Reading
read_in true class next f = shared_read f
read_in false class next f = read_with class next f

-- a command of her own, and whether it is one
abbrev pub own_said : std.Option SisterReading → Option AnyOrder
own_said None = none
own_said (Some (Shared c)) = none
own_said (Some (Own c)) = some (own c)

abbrev pub own_found : List ℕ → Option AnyOrder
own_found f = own_said (sister_read f)

abbrev pub is_own_reading : std.Option SisterReading → Bool
is_own_reading None = false
is_own_reading (Some (Shared c)) = false
is_own_reading (Some (Own c)) = true

abbrev pub is_own : List ℕ → Bool
is_own f = is_own_reading (sister_read f)
