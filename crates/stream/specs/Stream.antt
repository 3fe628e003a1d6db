-- The handset's meaning for the parting's theory, how the record keeps a frame, and what the stream call hands back. Assumes nothing.
use Rattle.std.specs.Prelude.{ℕ, ◌+◌, ◌≤◌, ◌≡◌, Bool, true, false, cond, ◌&&◌, List, [], ◌++◌, eqb, ltb, length, take, drop, set}
use Rattle.lists.specs.Codes.{carriage_return}
use Rattle.lists.specs.Padded.{padded}
use Rattle.record.specs.Number.{numbered}
use Rattle.record.specs.declared.Settings.{Settings}
use Rattle.record.specs.declared.Edition.{Edition}
use Rattle.record.specs.declared.Held.{Held}
use Rattle.record.specs.declared.Frame.{Frame as KeptFrame}
use Rattle.record.specs.declared.Record.{Record}
use Rattle.record.specs.Range.{line_start, in_range}
use Rattle.record.specs.Parts.{together, small_of}
use Rattle.parting.specs.Rules.{Frame, no_frame, open_frame, overlong, limit}
use Rattle.parting.specs.Meaning.{Answered, Meaning, State, Taken}
use Rattle.parting.specs.Reading.{step}
use Rattle.parting.specs.Room.{Ran, run}
use Rattle.turns.specs.Loop.{Account, still}
use Rattle.record.specs.Core.{Core, core_of}
use Rattle.effect.specs.Effect.{store_text}
use Rattle.sister_answer.specs.Told.{told_bytes, is_silence as untold}
use Rattle.sister_command.specs.Reading.{order_in, is_own}
use Rattle.sister_effect.specs.declared.SisterObeyed.{SisterObeyed}
use Rattle.sister_effect.specs.Obey.{obey_any, answers_to, mark_of}
use Rattle.effect.specs.declared.Obeyed.{Obeyed}
use Rattle.answer.specs.Answers.{answer_bytes, is_silence}
use Rattle.answer.specs.declared.Answer.{Answer}
use Rattle.effect.specs.Obey.{core}
use Rattle.effect.specs.Keeps.{CoreInRange}
use Rattle.stream.specs.declared.Fed.{Fed}
use Rattle.stream.specs.declared.FedLent.{FedLent}
use Rattle.stream.specs.declared.AfterBytes.{AfterBytes}

-- THE HANDSET, by the record's edition: a text byte is stored; a good frame is obeyed, a question answered and any other in silence; a bad
-- frame changes nothing and gets one '?'
abbrev pub obey_frame : Core → List ℕ → Answered Core
obey_frame c frame = let found = order_in c.edition.sister frame in record { core = obey_any c found; answers = answers_to c found }

abbrev pub handset : Meaning
handset = record { Core = Core; store = store_text; obey = obey_frame; bad_answer = λ c. mark_of c.edition.sister }

-- How the record keeps a frame: states none 0, open 1, overlong 2; unused places hold zero.
abbrev pub kept_frame : Frame → KeptFrame
kept_frame no_frame = record { state = 0; len = 0; bytes = padded limit [] }
kept_frame (open_frame body) = record { state = 1; len = length body; bytes = padded limit body }
kept_frame overlong = record { state = 2; len = 0; bytes = padded limit [] }

-- and which frame is kept so
unfoldable pub frame_in : ℕ → ℕ → List ℕ → Frame
frame_in state len bytes = cond (eqb state 0) no_frame (cond (eqb state 1) (open_frame (take len bytes)) overlong)

-- the record with its frame apart, and put together again; the held key is no concern of a stream
abbrev pub state_of : Record → State Core
state_of r = record { core = core_of r; frame = frame_in r.frame.state r.frame.len r.frame.bytes }

abbrev pub record_of : Held → State Core → Record
record_of held s = record { settings = s.core.settings; text = s.core.text; picture = s.core.picture; held = held; frame = kept_frame s.frame; edition = s.core.edition }

-- THE STREAM CALL: number 1 and the record as it came for one out of range; else number 0 and the run
abbrev pub fed_by : Held → Ran Core → Fed
fed_by held ran = record { number = numbered 0; «record» = record_of held ran.state; used = ran.used; written = length ran.answers }

abbrev pub refused : Record → Fed
refused r = record { number = numbered 1; «record» = r; used = 0; written = 0 }

unfoldable pub fed_of : Record → List ℕ → ℕ → Fed
fed_of r bytes room = cond (in_range r) (fed_by r.held (run handset (state_of r) bytes room)) (refused r)

-- the buffer for answers afterwards: places past the written count stay
abbrev pub written_over : List ℕ → List ℕ → List ℕ
written_over answers before = answers ++ drop (length answers) before

unfoldable pub answers_after : Record → List ℕ → List ℕ → List ℕ
answers_after r bytes before = cond (in_range r) (written_over (run handset (state_of r) bytes (length before)).answers before) before

-- THE STREAM CALL ON LENT ARRAYS is the same call: the record is put together of the small fields and what is lent, and what comes
-- back is that call's, with text, picture and the frame's bytes in the arrays
abbrev pub lent_of : Fed → FedLent
lent_of f = record { number = f.number; small = small_of f.record; used = f.used; written = f.written }

-- so what comes back, put together with the arrays, is that call's record
pub lent_back : {f : FedLent} {fed : Fed} {text picture bytes : List ℕ} → f ≡ lent_of fed → text ≡ fed.record.text → picture ≡ fed.record.picture → bytes ≡ fed.record.frame.bytes
    → together f.small text picture bytes ≡ fed.record
lent_back e t g b = λ j. together (e j).small (t j) (g j) (b j)

-- What the inner functions do -------------------------------------------------------------------------------------

-- a column of a row that begins at a place of the text, or the end of that row
pub record InRow (start column end : ℕ) : Type 0 where
  pub within : column ≤ end
  pub kept : start + end ≤ line_start + 24

-- what a text byte at a cursor does, in a row that begins at a place of the text and ends at column `end`
abbrev pub column_after : ℕ → ℕ → ℕ
column_after end column = cond (ltb column end) (column + 1) column

abbrev pub text_after : ℕ → List ℕ → ℕ → ℕ → ℕ → List ℕ
text_after end text start column b = cond (ltb column end) (set text (start + column) b) text

-- the state that the loop's locals stand for
abbrev pub standing : Settings → List ℕ → List ℕ → Edition → ℕ → ℕ → List ℕ → State Core
standing settings text picture edition state len bytes = record { core = core settings text picture edition; frame = frame_in state len bytes }

pub record Fits (state len : ℕ) (bytes : List ℕ) : Type 0 where
  pub known : state ≤ 2
  pub short : len ≤ limit
  pub none : (state ≡ 1 → ⊥) → len ≡ 0
  pub full : length bytes ≡ limit

-- what may be read on from
pub record Ready (settings : Settings) (text picture : List ℕ) (edition : Edition) (state len : ℕ) (bytes : List ℕ) : Type 0 where
  pub range : CoreInRange (core settings text picture edition)
  pub fits : Fits state len bytes

-- a byte that is answered with nothing, and one that is answered
abbrev pub quietly : State Core → Taken Core
quietly state = record { state = state; answers = [] }

abbrev pub saying : List ℕ → State Core → Taken Core
saying answer state = record { state = state; answers = answer }

-- what a frame is answered, from these settings
abbrev pub answer_from : Settings → Answer → List ℕ
answer_from settings answer = answer_bytes answer settings.contrast settings.hook

-- CR in a frame of which so much is collected: it is obeyed in silence, or answered and nothing changed
abbrev pub collecting : ℕ → List ℕ → Frame
collecting state body = cond (eqb state 1) (open_frame body) overlong

pub record Closes (before : Core) (state : ℕ) (body : List ℕ) (silent : Bool) (answer : List ℕ) (after : Core) : Type 0 where
  pub quiet : silent ≡ true → step handset (record { core = before; frame = collecting state body }) carriage_return ≡ quietly (record { core = after; frame = no_frame })
  pub loud : silent ≡ false → step handset (record { core = before; frame = collecting state body }) carriage_return ≡ saying answer (record { core = after; frame = no_frame })
  pub keeps : silent ≡ false → before ≡ after
  pub range : CoreInRange before → CoreInRange after

-- CR closes a frame that spells a command of the sister's own
abbrev pub closes_own : ℕ → Bool → List ℕ → Bool
closes_own state sister body = eqb state 1 && sister && is_own body

-- what any other is answered, if it is: in her edition it is no question
abbrev pub reply_of : Bool → Answer → ℕ → Bool → List ℕ
reply_of true answer contrast hook = mark_of true
reply_of false answer contrast hook = answer_bytes answer contrast hook

abbrev pub SharedCloses : Settings → List ℕ → List ℕ → Edition → ℕ → List ℕ → Obeyed → List ℕ → List ℕ → Type 0
SharedCloses settings text picture edition state body obeyed text' picture' =
    Closes (core settings text picture edition) state body (is_silence obeyed.answer) (reply_of edition.sister obeyed.answer obeyed.settings.contrast obeyed.settings.hook)
    (core obeyed.settings text' picture' edition)

abbrev pub OwnCloses : Settings → List ℕ → List ℕ → Edition → ℕ → List ℕ → SisterObeyed → List ℕ → List ℕ → Type 0
OwnCloses settings text picture edition state body obeyed text' picture' =
    Closes (core settings text picture edition) state body (untold obeyed.told) (told_bytes obeyed.told) (core obeyed.settings text' picture' obeyed.edition)

-- what the loop leaves
pub record Reads (start : State Core) (bytes before : List ℕ) (done : AfterBytes) (text picture frame after : List ℕ) : Type 0 where
  pub account : Account (run handset start bytes (length before)) before (still (standing done.settings text picture done.edition done.state done.len frame) done.used done.written after)
  pub fits : Fits done.state done.len frame
