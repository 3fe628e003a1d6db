-- WHAT A BYTE TELLS of the part at a place: one law for each way that the code may go. Assumes nothing.
use Prim.Native.Nat.{ℕ, suc, ◌+◌, ◌-◌, ◌≤◌, ◌<◌}
use native.Mathlib.Omega.{arith}
use native.Mathlib.Numerals.{add-one}
use mathlib.Core.Bool.{true, false, not}
use mathlib.Core.Path.{◌≡◌, refl, sym, ap, ◌∙◌}
use mathlib.Core.List.{List, [], ◌∷◌, ◌++◌, append_assoc}
use borrow.Author.Tests.{eqb-true, ne_eqb}
use lib.ListN.{length, take, drop, get_or, length-append, length-drop}
use lib.Seq.{drop-cons, length-take-le}
use Rattle.std.proofs.Common.{Option, Some}
use Rattle.std.proofs.lemmas.List.{get_or-drop, take_all}
use Rattle.std.specs.List.{position_or_len, before_first, after_first}
use Rattle.std.proofs.lemmas.List.Sums.{prefix_len-le-length, passes_at_first, split_at_first}
use Rattle.lists.specs.Codes.{escape, carriage_return, blank}
use Rattle.parting.specs.Rules.{Plain, Body, empty, collect, closed, abandoned, Parted, Parting, waits, goes_on, opens}
use Rattle.parting.specs.Cut.{outside, inside, cut, Inside, abandoning, closing, collecting}
use Rattle.parting.proofs.Cut.{inside_of, cut_opening, cut_letter, cut_skipping, exists, only_cut}
use Rattle.parts.specs.declared.Kind.{Kind}
use Rattle.parts.specs.declared.Kind.TheVariants as Kinds
use Rattle.parts.specs.declared.PartAt.{PartAt}
use Rattle.parts.specs.Parts.{ends_body, first_part, part_at}

-- the numbers of what is told may be reckoned in another way
reckoned : (kind : Kind) {end body bodyEnd end' bodyEnd' : ℕ} → end ≡ end' → bodyEnd ≡ bodyEnd'
    → ◌≡◌ {A = Option PartAt} (Some (record { kind = kind; end = end; body = body; body_end = bodyEnd })) (Some (record { kind = kind; end = end'; body = body; body_end = bodyEnd' }))
reckoned kind e f = rw (e, f)

-- Outside a frame -----------------------------------------------------------------------------------------------------

module _ (bytes : List ℕ) (place : ℕ) where
  at_a_byte : place < length bytes → {parted : Parted} → cut outside (get_or bytes place 0 ∷ drop (suc place) bytes) ≡ parted → first_part place parted ≡ part_at bytes place
  unfolding part_at
  at_a_byte l e = ap (first_part place) (sym e) ∙ ap (λ (rest : List ℕ). first_part place (cut outside rest)) (sym (drop-cons bytes place 0 l))

  pub frame_opens : place < length bytes → get_or bytes place 0 ≡ escape → first_part place (cut (inside []) (drop (place + 1) bytes)) ≡ part_at bytes place
  frame_opens l e = ap (λ (n : ℕ). first_part place (cut (inside []) (drop n bytes))) (add-one place) ∙ at_a_byte l (cut_opening _ _ e)

  pub text_stands : place < length bytes → blank ≤ get_or bytes place 0 → Some (record { kind = Kinds.Text; end = place + 1; body = place + 1; body_end = place + 1 }) ≡ part_at bytes place
  text_stands l e = reckoned Kinds.Text refl (omega arith) ∙ at_a_byte l (cut_letter _ _ e)

  pub skipped_stands : place < length bytes → get_or bytes place 0 < blank → (get_or bytes place 0 ≡ escape → ⊥)
      → Some (record { kind = Kinds.Skipped; end = place + 1; body = place + 1; body_end = place + 1 }) ≡ part_at bytes place
  skipped_stands l e n = reckoned Kinds.Skipped refl (omega arith) ∙ at_a_byte l (cut_skipping _ _ e n)

-- Inside a frame ------------------------------------------------------------------------------------------------------

-- what ends no body is plain, and what ends one is an ESC or a CR
plain_goes_on : {b : ℕ} → Plain b → ends_body b ≡ false
plain_goes_on {b} p = rw (ne_eqb b escape p.not_escape, ne_eqb b carriage_return p.not_return)

ends_other : (b : ℕ) → ends_body b ≡ true → (b ≡ escape → ⊥) → b ≡ carriage_return
ends_other b ends n = eqb-true b carriage_return (rw (ne_eqb b escape n) at ends)

-- what stands before the first of these is a body
body_before : (behind : List ℕ) → Body (before_first ends_body behind)
body_before [] = empty
body_before (b ∷ rest) = go (inside_of b) (body_before rest)
  where
    go : Inside b → Body (before_first ends_body rest) → Body (before_first ends_body (b ∷ rest))
    go (abandoning e) more = rw e empty
    go (closing e) more = rw e empty
    go (collecting p) more =
        let next : 1 + position_or_len ends_body rest ≡ suc (position_or_len ends_body rest) = omega arith in
        rw (plain_goes_on p, next) (collect p more)

-- a parting of the ESC and what is behind it is how the frame is parted
cut_frame : {behind : List ℕ} {parted : Parted} → Parting (escape ∷ behind) parted → cut (inside []) behind ≡ parted
cut_frame {behind} p = sym (only_cut p ∙ cut_opening escape behind refl)

module _ (bytes : List ℕ) (place stop : ℕ) (within : place < length bytes) (found : stop ≡ position_or_len ends_body (take (length bytes - (place + 1)) (drop (place + 1) bytes))) where
  abbrev behind : List ℕ
  behind = drop (place + 1) bytes

  first : stop ≡ position_or_len ends_body behind
  first = found ∙ ap (position_or_len ends_body) (take_all (length bytes - (place + 1)) behind (omega (arith, length-drop (place + 1) bytes)))

  abbrev body : List ℕ
  body = before_first ends_body behind

  in_behind : stop ≤ length behind
  in_behind = omega (arith, first, prefix_len-le-length (λ b. not (ends_body b)) behind)

  pub stop_within : place + 1 + stop ≤ length bytes
  stop_within = omega (arith, in_behind, length-drop (place + 1) bytes)

  body_length : length body ≡ stop
  body_length = length-take-le (position_or_len ends_body behind) behind (omega (arith, first, in_behind)) ∙ sym first

  pub tail_told : length bytes ≤ place + 1 + stop → Some (record { kind = Kinds.Tail; end = place + 1 + stop; body = place + 1; body_end = place + 1 + stop }) ≡ first_part place (cut (inside []) behind)
  tail_told e =
      let all : body ≡ behind = take_all (position_or_len ends_body behind) behind (omega (arith, first, length-drop (place + 1) bytes)) in
      reckoned Kinds.Tail (omega (arith, body_length)) (omega (arith, body_length))
      ∙ ap (first_part place) (sym (ap (cut (inside [])) (sym all) ∙ cut_frame (waits (body_before behind))))

  module _ (l : place + 1 + stop < length bytes) where
    abbrev after : List ℕ
    after = after_first ends_body behind

    at_stop : get_or behind (position_or_len ends_body behind) 0 ≡ get_or bytes (place + 1 + stop) 0
    at_stop = rw (← first) (get_or-drop (place + 1) bytes stop 0)

    before_end : position_or_len ends_body behind < length behind
    before_end = omega (arith, first, length-drop (place + 1) bytes)

    split : behind ≡ body ++ get_or bytes (place + 1 + stop) 0 ∷ after
    split = split_at_first ends_body behind 0 before_end ∙ ap (λ (b : ℕ). body ++ b ∷ after) at_stop

    pub abandoned_told : get_or bytes (place + 1 + stop) 0 ≡ escape
        → Some (record { kind = Kinds.Abandoned; end = place + 1 + stop; body = place + 1; body_end = place + 1 + stop }) ≡ first_part place (cut (inside []) behind)
    abandoned_told e =
        let p = goes_on {part = abandoned body} (body_before behind) opens (exists after (inside []) empty) in
        let whole : behind ≡ body ++ escape ∷ after = split ∙ ap (λ (b : ℕ). body ++ b ∷ after) e in
        reckoned Kinds.Abandoned (omega (arith, body_length)) (omega (arith, body_length)) ∙ ap (first_part place) (sym (ap (cut (inside [])) whole ∙ cut_frame p))

    pub closed_told : (get_or bytes (place + 1 + stop) 0 ≡ escape → ⊥)
        → Some (record { kind = Kinds.Closed; end = place + 1 + stop + 1; body = place + 1; body_end = place + 1 + stop }) ≡ first_part place (cut (inside []) behind)
    closed_told n =
        let p = goes_on {part = closed body} (body_before behind) tt (exists after outside tt) in
        let is_return = ends_other (get_or bytes (place + 1 + stop) 0) (ap ends_body (sym at_stop) ∙ passes_at_first ends_body behind 0 before_end) n in
        let whole : behind ≡ (body ++ carriage_return ∷ []) ++ after = split ∙ ap (λ (b : ℕ). body ++ b ∷ after) is_return ∙ sym (append_assoc body (carriage_return ∷ []) after) in
        reckoned Kinds.Closed (omega (arith, body_length, length-append body (carriage_return ∷ []))) (omega (arith, body_length))
        ∙ ap (first_part place) (sym (ap (cut (inside [])) whole ∙ cut_frame p))
