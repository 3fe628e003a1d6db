-- What a good frame orders in either edition: an order of the first edition, which the sister may share, or a command of her own.
-- Assumes nothing.
use Rattle.command.specs.Order.{Order}
use Rattle.sister_command.specs.declared.SisterCommand.{SisterCommand}

pub data AnyOrder : Type 0 where
  first : Order → AnyOrder
  own : SisterCommand → AnyOrder
