-- The record in parts: its three arrays kept apart from all that is small. Assumes nothing.
use Rattle.std.specs.Prelude.{ℕ, List}
use Rattle.record.specs.declared.Record.{Record}
use Rattle.record.specs.declared.Small.{Small}
use Rattle.record.specs.declared.InParts.{InParts}

-- put together of the small fields, the text, the picture and the frame's bytes
abbrev pub together : Small → List ℕ → List ℕ → List ℕ → Record
together small text picture bytes =
    record { settings = small.settings; text = text; picture = picture; held = small.held; frame = record { state = small.state; len = small.len; bytes = bytes }; edition = small.edition }

-- the record whose parts these are
abbrev pub whole : InParts → Record
whole parts = together parts.small parts.text.now parts.picture.now parts.frame.now

abbrev pub small_of : Record → Small
small_of r = record { settings = r.settings; held = r.held; state = r.frame.state; len = r.frame.len; edition = r.edition }
