-- What the sister handset answers, byte for byte (request T-06; AN1900, 3.5). Assumes nothing.
use Rattle.std.specs.Prelude.{ℕ, Bool, true, false, cond, List, [], ◌∷◌, ◌++◌}
use Prim.Native.Char.{code}
use Rattle.lists.specs.Codes.{ascii, escape, carriage_return, line_feed, question_mark}
use Rattle.numeral.specs.Numeral.{decimal}
use Rattle.sister_answer.specs.declared.Told.{Told}
use Rattle.sister_answer.specs.declared.Told.TheVariants.{Silence, Mark, Version, Place, Mode, Light, Contrast, Brightness, Speaker, Times, Hook, Ptt}

abbrev pub version : List ℕ
version = ascii "HA400 V.01.00 25.09.2006"

-- what stands before the value: ESC, the question's letters, a colon, a blank
abbrev pub opening : List ℕ → List ℕ
opening letters = escape ∷ (letters ++ ascii ": ")

-- AN ANSWER: the value behind that, and CR LF
abbrev pub answer : List ℕ → List ℕ → List ℕ
answer letters value = opening letters ++ value ++ carriage_return ∷ line_feed ∷ []

-- two numbers, a semicolon between them
abbrev pub pair : ℕ → ℕ → List ℕ
pair m n = decimal m ++ code ";" ∷ decimal n

-- nothing; '?' CR LF to a bad frame; each answer by the letters of its question, with numbers that have no leading zeros; H is on-hook
-- and h off-hook, P pressed and p released
abbrev pub told_bytes : Told → List ℕ
told_bytes Silence = []
told_bytes Mark = question_mark ∷ carriage_return ∷ line_feed ∷ []
told_bytes Version = answer (ascii "&V") version
told_bytes (Place row column) = answer (ascii "&H") (pair row column)
told_bytes (Mode n) = answer (ascii "IDM") (decimal n)
told_bytes (Light mode duration) = answer (ascii "IE") (pair mode duration)
told_bytes (Contrast n) = answer (ascii "IA") (decimal n)
told_bytes (Brightness n) = answer (ascii "IN") (decimal n)
told_bytes (Speaker n) = answer (ascii "IV") (decimal n)
told_bytes (Times time1 time2) = answer (ascii "IT") (pair time1 time2)
told_bytes (Hook onHook) = answer (ascii "KH") (cond onHook (code "H") (code "h") ∷ [])
told_bytes (Ptt pressed) = answer (ascii "KP") (cond pressed (code "P") (code "p") ∷ [])

-- no answer at all
abbrev pub is_silence : Told → Bool
is_silence Silence = true
is_silence Mark = false
is_silence Version = false
is_silence (Place row column) = false
is_silence (Mode n) = false
is_silence (Light mode duration) = false
is_silence (Contrast n) = false
is_silence (Brightness n) = false
is_silence (Speaker n) = false
is_silence (Times time1 time2) = false
is_silence (Hook onHook) = false
is_silence (Ptt pressed) = false
