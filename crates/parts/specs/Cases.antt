-- SMALL CASES, computed: whole streams, part by part, and places past the end. One table, one statement. Assumes nothing.
use Rattle.std.specs.Prelude.{ℕ, ◌≡◌, refl, List, [], ◌∷◌, ◌++◌, map}
use Rattle.lists.specs.Codes.{ascii, escape, carriage_return, line_feed}
use Rattle.parting.specs.Cut.{cut}
use Rattle.parts.specs.declared.Kind.{Kind}
use Rattle.parts.specs.declared.Kind.TheVariants.{Text, Skipped, Closed, Abandoned, Tail}
use Rattle.parts.specs.Parts.{part_at}
use Rattle.parts.specs.Laws.{Found, found_then, parts_from, parts_of}

-- a part at its place: its kind and end, where its body begins and ends
abbrev at : ℕ → Kind → ℕ → ℕ → ℕ → Found
at place kind end body bodyEnd = record { place = place; part = record { kind = kind; end = end; body = body; body_end = bodyEnd } }

-- what is found at one place, if anything
abbrev asked : List ℕ → ℕ → List Found
asked bytes place = found_then place (part_at bytes place) (λ end. [])

abbrev crlf : List ℕ
crlf = carriage_return ∷ line_feed ∷ []

abbrev esc : List ℕ → List ℕ
esc bytes = escape ∷ bytes

pub record Case : Type 0 where
  pub found : List Found
  pub expected : List Found

abbrev gives : List Found → List Found → Case
gives found expected = record { found = found; expected = expected }

abbrev cases : List Case
cases =
    -- an empty stream, text, CR LF
    gives (parts_of []) []
    ∷ gives (parts_of (ascii "Hi")) (at 0 Text 1 1 1 ∷ at 1 Text 2 2 2 ∷ [])
    ∷ gives (parts_of crlf) (at 0 Skipped 1 1 1 ∷ at 1 Skipped 2 2 2 ∷ [])
    -- 0x1F is skipped, 0x20 is text
    ∷ gives (parts_of (0x1F ∷ 0x20 ∷ [])) (at 0 Skipped 1 1 1 ∷ at 1 Text 2 2 2 ∷ [])
    -- CR closes a frame, the LF behind it is skipped
    ∷ gives (parts_of (esc (ascii "ID0" ++ crlf))) (at 0 Closed 5 1 4 ∷ at 5 Skipped 6 6 6 ∷ [])
    -- half a frame, and a lone ESC
    ∷ gives (parts_of (ascii "A" ++ esc (ascii "IK1Ke"))) (at 0 Text 1 1 1 ∷ at 1 Tail 7 2 7 ∷ [])
    ∷ gives (parts_of (esc [])) (at 0 Tail 1 1 1 ∷ [])
    -- the ESC that abandons a frame is the next one's own
    ∷ gives (parts_of (esc (ascii "X" ++ esc (ascii "K1" ++ carriage_return ∷ [])))) (at 0 Abandoned 2 1 2 ∷ at 2 Closed 6 3 5 ∷ [])
    ∷ gives (parts_of (esc (esc (carriage_return ∷ [])))) (at 0 Abandoned 1 1 1 ∷ at 1 Closed 3 2 2 ∷ [])
    -- LF inside a frame belongs to it; a second CR belongs to none
    ∷ gives (parts_of (esc (ascii "K" ++ line_feed ∷ carriage_return ∷ carriage_return ∷ []))) (at 0 Closed 4 1 3 ∷ at 4 Skipped 5 5 5 ∷ [])
    -- at the end there is none, and past it
    ∷ gives (asked [] 0) []
    ∷ gives (asked (ascii "Hi") 2) []
    ∷ gives (asked (ascii "Hi") 9) []
    -- inside a frame the rest is parted by itself
    ∷ gives (asked (esc (ascii "K" ++ carriage_return ∷ [])) 1) (at 1 Text 2 2 2 ∷ [])
    ∷ []

-- Each case gives what is expected.
pub table : map (λ (c : Case). c.found) cases ≡ map (λ (c : Case). c.expected) cases
unfolding cut part_at parts_from
table = refl
