-- What the writers write and hand back: document 01, "The good frames" and "Numbers handed back". Numbers stand without leading
-- zeros, and the frame ends with CR LF. Assumes nothing.
use Rattle.std.specs.Prelude.{ℕ, Bool, cond, ◌&&◌, List, [], ◌∷◌, ◌++◌, leb, length, drop, Result, Ok, Err}
use Rattle.lists.specs.Codes.{escape, carriage_return, line_feed}
use Rattle.record.specs.declared.Refusal.{Refusal}
use Rattle.record.specs.declared.Refusal.TheVariants.{CommandOutOfRange, NoRoom}
use Rattle.command.specs.InRange.{command_in_range, most_rows}
use Rattle.command.specs.declared.Command.{Command}
use Rattle.sister_command.specs.Grammar.{is_shared}

-- A frame is ESC, the spelling of the order (`spell` of its form, command/specs/Spell.antt), CR LF ---------------------

unfoldable pub frame_of : List ℕ → List ℕ
frame_of body = escape ∷ (body ++ carriage_return ∷ line_feed ∷ [])

-- What is handed back, how many bytes are written or why none is, and what then stands in the room: first 2, then 3 --
-- what is in range: a command by command_in_range most_rows, one of the sister's own by own_in_range, a label by is_label, a picture row by isRow;
-- and of the first edition's commands those that she has, with its ranges
abbrev pub shared_in_range : Command → Bool
shared_in_range c = is_shared c && command_in_range most_rows c

unfoldable pub written_of : Bool → List ℕ → List ℕ → Result ℕ Refusal
written_of in_range frame room =
    cond in_range
    (cond (leb (length frame) (length room)) (Ok (length frame)) (Err NoRoom))
    (Err CommandOutOfRange)

-- how many bytes that are; none where there is a refusal
abbrev pub count_of : Result ℕ Refusal → ℕ
count_of (Ok n) = n
count_of (Err refusal) = 0

-- the frame, and behind it the rest of the room as it was
unfoldable pub room_after : Bool → List ℕ → List ℕ → List ℕ
room_after in_range frame room =
    cond in_range
    (cond (leb (length frame) (length room)) (frame ++ drop (length frame) room) room)
    room
