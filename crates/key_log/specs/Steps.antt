-- What an entry does by the record's edition, and which edges are listed in it. Assumes nothing.
use Rattle.std.specs.Prelude.{ℕ, Bool, cond, List, [], ◌∷◌, Option, None, Some}
use Prim.Native.Char.{code}
use Rattle.lists.specs.Codes.{escape, carriage_return, line_feed}
use Rattle.record.specs.declared.Record.{Record}
use Rattle.record.specs.With.{with_settings, with_backlight, with_hook, with_edition, with_ptt, with_keys}
use Rattle.turns.specs.Taking.{Taken}
use Rattle.key_entry.specs.Rules.{Entry, last_key, listed_up_to, step}
use Rattle.sister_entry.specs.declared.SisterKeyed.{SisterKeyed}
use Rattle.sister_entry.specs.declared.Message.{Message}
use Rattle.sister_entry.specs.declared.Message.TheVariants.{False, Event}
use Rattle.sister_entry.specs.Rules.{ptt_number, keyed}

-- in the first edition the numbers end with key 18, in the sister's with PTT
abbrev pub last_in : Bool → ℕ
last_in sister = cond sister ptt_number last_key

abbrev pub listed_in : Bool → ℕ → Bool
listed_in sister edge = listed_up_to (last_in sister) edge

-- THE SISTER'S MESSAGES: nothing; ESC K F x CR LF; ESC K, the sign, the event, CR LF
abbrev pub bytes_of : Message → List ℕ
bytes_of False = escape ∷ code "K" ∷ code "F" ∷ code "x" ∷ carriage_return ∷ line_feed ∷ []
bytes_of (Event sign event) = escape ∷ code "K" ∷ sign ∷ event ∷ carriage_return ∷ line_feed ∷ []

abbrev pub message_bytes : Option Message → List ℕ
message_bytes None = []
message_bytes (Some message) = bytes_of message

-- the record with her keys, her backlight, her hook and her PTT, and all else as it was
abbrev pub with_sister_keys : Record → SisterKeyed → Record
with_sister_keys r k =
    with_edition (with_settings r (with_hook (with_backlight r.settings k.backlight) k.hook)) (with_ptt (with_keys r.edition k.keys) k.ptt)

-- what her entry does to the record, and the message that it sends
abbrev pub sister_taken : Record → SisterKeyed → Taken Record
sister_taken r k = record { state = with_sister_keys r k; answers = message_bytes k.message }

unfoldable pub sister_step : Record → Entry → Taken Record
sister_step r e =
    sister_taken r (keyed r.edition.keys r.settings.times r.settings.backlight r.settings.hook r.edition.ptt e.tick e.edge)

-- AN ENTRY, by the edition of the record
unfoldable pub step_in : Record → Entry → Taken Record
step_in r e = cond r.edition.sister (sister_step r e) (step r e)
