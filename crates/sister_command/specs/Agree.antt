-- THE READERS AND THE GRAMMARS AGREE IN EITHER EDITION, and what follows: one order a frame, one frame an order, short and plain frames.
-- All of it is the reader's and the first edition's. Assumes nothing.
-- The theorems are in proofs/Agree.antt.
use Rattle.std.specs.Prelude.{Bool, true}
use Rattle.command.specs.declared.Command.{Command}
use Rattle.sister_command.specs.declared.SisterReading.{SisterReading}
use Rattle.sister_command.specs.declared.SisterReading.TheVariants.{Shared, Own}

-- Her commands, shared and own, by kinds -------------------------------------------------------------------------------

abbrev pub if_shared : (Command → Bool) → SisterReading → Bool
if_shared test (Shared c) = test c
if_shared test (Own c) = true
