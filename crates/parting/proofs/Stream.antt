-- THE STREAM THEOREM: reading is taking the parts in order. Assumes nothing.
use Rattle.std.specs.Prelude.{ℕ, ◌<◌, ◌≡◌}
use Rattle.std.proofs.Common.{arith, sym, ap, ◌∙◌}
use Rattle.std.proofs.Math.Path.{refl}
use mathlib.Core.List.{List, [], ◌∷◌, ◌++◌}
use Rattle.std.proofs.Math.ListN.{length, length-append}
use borrow.Author.Tests.{leb-false, ne_eqb, le-leb, lt-leb}
use Rattle.lists.specs.Codes.{escape, carriage_return}
use Rattle.lists.specs.Tests.{by_test}
use Rattle.parting.specs.Rules.{Parted, Parting, Frame, no_frame, limit, in_limit, keep, Stands, none_stands, open_stands, overlong_stands}
use Rattle.turns.specs.Taking
use Rattle.turns.specs.Taking.{answering}
use Rattle.parting.specs.Meaning.{Meaning, State, with, close, act, taking}
use Rattle.parting.specs.Reading.{step_inside, step, reading, step_opens, step_stores, step_skips}
use Rattle.parting.specs.Cut.{Side, outside, inside, Fine, front, cut, Outside, opening, letter, skipping, Inside, abandoning, closing, collecting}
use Rattle.parting.proofs.Cut.{outside_of, inside_of, cut_opening, cut_letter, cut_skipping, cut_abandoning, cut_closing, cut_collecting, exists, only_cut}

module _ (M : Meaning) where
  -- the frame kept of an open body, of whatever length
  abbrev kept : Side → Frame
  kept outside = no_frame
  kept (inside body) = keep body

  -- from the frame kept of a body a byte does what it would do behind the whole body
  step_kept : (core : M.Core) (body : List ℕ) (b : ℕ) → step M (with core (keep body)) b ≡ step_inside M core b (close M core body) (keep (body ++ b ∷ []))
  unfolding step keep close
  step_kept core body b =
      by_test (in_limit body) (λ e. rw e)
      (λ e.
      let long : limit < length (body ++ b ∷ []) = omega (arith, length-append body (b ∷ []), leb-false (length body) limit e) in
      rw (e, lt-leb (length (body ++ b ∷ [])) limit long))

  reading_cut : (bytes : List ℕ) (core : M.Core) (side : Side) → reading M (with core (kept side)) bytes ≡ taking M core (cut side bytes)
  unfolding Taking.reading taking act keep
  reading_cut [] core outside = unfold cut in refl
  reading_cut (b ∷ rest) core outside = go (outside_of b) (λ c s. reading_cut rest c s)
    where
      go : Outside b → ((c : M.Core) (s : Side) → reading M (with c (kept s)) rest ≡ taking M c (cut s rest))
          → reading M (with core no_frame) (b ∷ rest) ≡ taking M core (cut outside (b ∷ rest))
      go (opening e) next = rw (step_opens M (with core no_frame) b refl e, cut_opening b rest e) (next core (inside []))
      go (letter l) next = rw (step_stores M (with core no_frame) b refl l, cut_letter b rest l) (next (M.store core b) outside)
      go (skipping l n) next = rw (step_skips M (with core no_frame) b refl l n, cut_skipping b rest l n) (next core outside)
  reading_cut [] core (inside body) = unfold cut in refl
  reading_cut (b ∷ rest) core (inside body) = rw (step_kept core body b) (go (inside_of b) (λ c s. reading_cut rest c s))
    where
      go : Inside b → ((c : M.Core) (s : Side) → reading M (with c (kept s)) rest ≡ taking M c (cut s rest))
          → (let t = step_inside M core b (close M core body) (keep (body ++ b ∷ [])) in answering t.answers (reading M t.state rest)) ≡ taking M core (cut (inside body) (b ∷ rest))
      go (abandoning e) next = rw (cut_abandoning b rest body e, e) (ap (answering (M.bad_answer core)) (next core (inside [])))
      go (closing e) next = rw (cut_closing b rest body e, e) (ap (answering (close M core body).answers) (next (close M core body).core outside))
      go (collecting p) next = rw (cut_collecting b rest body p, ne_eqb b escape p.not_escape, ne_eqb b carriage_return p.not_return) (next core (inside (body ++ b ∷ [])))

  stands_kept : {frame : Frame} {before : List ℕ} → Stands frame before → (side : Side) × Fine side × (front side ≡ before) × (kept side ≡ frame)
  unfolding keep
  stands_kept none_stands = (outside, tt, refl, refl)
  stands_kept (open_stands {body} h l) = (inside body, h, refl, rw (le-leb (length body) limit l))
  stands_kept (overlong_stands {body} h l) = (inside body, h, refl, rw (lt-leb (length body) limit l))

  -- THE STREAM THEOREM: whatever frame stands first, reading is taking the parts of the parting in order.
  pub stream : (state : State M.Core) {before : List ℕ} (bytes : List ℕ) {parted : Parted} → Stands state.frame before → Parting (before ++ bytes) parted
      → reading M state bytes ≡ taking M state.core parted
  stream state bytes standing parting =
      let w = stands_kept standing in
      ap (λ (f : Frame). reading M (with state.core f) bytes) (sym w.3)
      ∙ reading_cut bytes state.core w.0
      ∙ ap (taking M state.core) (only_cut (exists bytes w.0 w.1) ∙ ap (λ (l : List ℕ). cut outside (l ++ bytes)) w.2 ∙ sym (only_cut parting))
