-- A line of codes: what it holds, codes added behind that, and its way into a room. Assumes nothing.
use Rattle.std.specs.Prelude.{ℕ, ◌+◌, Bool, cond, ◌&&◌, List, ◌++◌, leb, length, take, drop, replicate}
use Rattle.std.proofs.lemmas.List.Edits.{sets}
use Rattle.line.specs.declared.Line.{Line}

-- as many codes as a line has places for
abbrev pub most_codes : ℕ
most_codes = 200

-- the codes that a line holds
abbrev pub held : Line → List ℕ
held line = take line.len line.bytes

abbrev pub empty_line : Line
empty_line = record { len = 0; bytes = replicate most_codes 0 }

-- codes behind those that a line holds; where they find no room there, the line as it was
unfoldable pub added : Line → List ℕ → Line
added line codes = cond (leb (line.len + length codes) most_codes) (record { len = line.len + length codes; bytes = sets line.bytes line.len codes }) line

-- whether all that a line holds finds room
unfoldable pub finds_room : Line → List ℕ → Bool
finds_room line room = leb line.len most_codes && leb line.len (length room)

-- what it holds, and behind that the rest of the room as it was; where it finds no room, the room as it was
unfoldable pub room_with : Line → List ℕ → List ℕ
room_with line room = cond (finds_room line room) (held line ++ drop line.len room) room
