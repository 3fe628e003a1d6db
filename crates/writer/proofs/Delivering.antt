-- What is handed back and left in the room, by what the writer's tests said. Assumes nothing.
use Prim.Native.Nat.{ℕ, ◌+◌, ◌≤◌}
use native.Mathlib.Omega.{arith}
use mathlib.Core.Bool.{Bool, true, false}
use mathlib.Core.List.{List, [], ◌∷◌, ◌++◌}
use Rattle.std.specs.Prelude.{Result, Ok, Err}
use mathlib.Core.Path.{◌≡◌, refl, ◌∙◌, ap, sym}
use lib.Dec.{leb}
use lib.ListN.{length}
use Rattle.lists.specs.Codes.{escape, carriage_return, line_feed}
use Rattle.record.specs.declared.Refusal.{Refusal}
use Rattle.record.specs.declared.Refusal.TheVariants.{CommandOutOfRange, NoRoom}
use Rattle.line.specs.declared.Line.{Line}
use Rattle.line.specs.Lines.{held, empty_line, added, finds_room, room_with}
use Rattle.line.specs.Laws.{Added, adding, then, held_added, held_from_empty, length_from_empty, length_held, finds_room_lem, room_with_lem}
use Rattle.writer.specs.Writing.{frame_of, written_of, room_after}

-- what is handed back and a room that are the right ones
abbrev pub Right : Bool → List ℕ → List ℕ → Result ℕ Refusal → List ℕ → Type 0
Right ok frame room written after = (written ≡ written_of ok frame room) × (after ≡ room_after ok frame room)

pub refused : (frame room : List ℕ) (ok : Bool) → ok ≡ false → Right ok frame room (Err CommandOutOfRange) room
unfolding written_of room_after
refused frame room ok e = (rw e, rw e)

-- a line to which CR LF was added
pub ended : (line : Line) {next : Line} → length line.bytes ≡ 200 → line.len + 2 ≤ 200 → next ≡ added line (carriage_return ∷ line_feed ∷ [])
    → (held next ≡ held line ++ carriage_return ∷ line_feed ∷ []) × (next.len ≤ 200)
ended line places h e =
    let few = (adding 2 e (omega arith)).longer in
    (ap held e ∙ held_added line (carriage_return ∷ line_feed ∷ []) places h, omega arith)

-- a line that was copied or found no room
module _ (line : Line) (room : List ℕ) (places : length line.bytes ≡ 200) (few : line.len ≤ 200) {found : Bool} {after : List ℕ}
    (finds : found ≡ finds_room line room) (left : after ≡ room_with line room) where
  fits : found ≡ leb (length (held line)) (length room)
  fits = finds ∙ finds_room_lem line room places few

  stands : after ≡ room_after true (held line) room
  unfolding room_after
  stands = left ∙ room_with_lem line room places few

  pub no_room : found ≡ false → Right true (held line) room (Err NoRoom) after
  unfolding written_of
  no_room e = (rw (sym fits ∙ e), stands)

  pub wrote : found ≡ true → Right true (held line) room (Ok line.len) after
  unfolding written_of
  wrote e = (rw (sym fits ∙ e, length_held line room places few), stands)

-- what a line holds that began with ESC, with its CR LF
pub framed : {start line : Line} {k : ℕ} (body : List ℕ) → Added empty_line (escape ∷ []) 1 start → Added start body k line → k ≤ 197
    → held line ++ carriage_return ∷ line_feed ∷ [] ≡ frame_of body
unfolding frame_of
framed body p q h =
    let all = then p q (omega arith) in
    ap (λ (x : List ℕ). x ++ carriage_return ∷ line_feed ∷ []) (ap held all.same ∙ held_from_empty (escape ∷ body) (omega (arith, all.most)))

-- a body in a line of its own
pub body_held : (codes : List ℕ) (line : Line) → length codes ≤ 197 → line ≡ added empty_line codes → (held line ≡ codes) × (line.len ≤ 197)
body_held codes line h e =
    let size : line.len ≡ length codes = ap (λ (x : Line). x.len) e ∙ length_from_empty codes (omega arith) in
    (ap held e ∙ held_from_empty codes (omega arith), omega arith)

-- a frame in range that was delivered
pub delivered : (ok : Bool) (line body room : List ℕ) {written : Result ℕ Refusal} {after : List ℕ} → ok ≡ true → line ≡ frame_of body
    → Right true line room written after → Right ok (frame_of body) room written after
delivered ok line body room p e r = rw (p, ← e) r

-- the frame of a body, if it is in range
pub body_delivered : (ok : Bool) (codes room : List ℕ) {good : Bool} {line : Line} {written : Result ℕ Refusal} {after : List ℕ} → good ≡ ok → line ≡ added empty_line codes → (ok ≡ true → length codes ≤ 197)
    → Right good (frame_of (held line)) room written after → Right ok (frame_of codes) room written after
unfolding written_of room_after
body_delivered true codes room {line = line} e l few r = rw (e, (body_held codes line (few refl) l).0) at r
body_delivered false codes room e l few r = rw e at r
