-- THE READER, BYTE BY BYTE: its definition, and the laws of one byte in document 01's sentences. Assumes nothing.
use Rattle.std.specs.Prelude.{ℕ, ◌≤◌, ◌<◌, ◌≡◌, cond, List, [], ◌∷◌, ◌++◌, eqb, leb, length}
use Rattle.std.proofs.Common.{arith, ◌∙◌}
use Rattle.std.proofs.Math.Path.{refl}
use Rattle.std.proofs.Math.ListN.{length-append}
use borrow.Author.Tests.{ne_eqb, le-leb, lt-leb}
use Rattle.lists.specs.Codes.{escape, carriage_return, blank}
use Rattle.parting.specs.Rules.{Plain, Frame, no_frame, open_frame, overlong, limit, keep}
use Rattle.turns.specs.Taking
use Rattle.turns.specs.Taking.{silently}
use Rattle.parting.specs.Meaning.{Answered, Meaning, State, Taken, with, refuse}

module _ (M : Meaning) where
  -- Outside a frame ESC opens one, codes from 0x20 on are text, all others are skipped.
  abbrev pub step_outside : M.Core → ℕ → Taken M.Core
  step_outside core b =
      cond (eqb b escape) (silently (with core (open_frame [])))
      (cond (leb blank b) (silently (with (M.store core b) no_frame)) (silently (with core no_frame)))

  -- Inside a frame ESC abandons it and opens the next, CR closes it, all others are collected.
  abbrev pub step_inside : M.Core → ℕ → Answered M.Core → Frame → Taken M.Core
  step_inside core b ended more =
      cond (eqb b escape) (record { state = with core (open_frame []); answers = M.bad_answer core })
      (cond (eqb b carriage_return) (record { state = with ended.core no_frame; answers = ended.answers }) (silently (with core more)))

  -- An overlong frame waits for its end and is bad.
  abbrev pub step_from : M.Core → Frame → ℕ → Taken M.Core
  step_from core no_frame b = step_outside core b
  step_from core (open_frame body) b = step_inside core b (M.obey core body) (keep (body ++ b ∷ []))
  step_from core overlong b = step_inside core b (refuse M core) overlong

  -- ONE BYTE
  unfoldable pub step : State M.Core → ℕ → Taken M.Core
  step state b = step_from state.core state.frame b

  -- A STREAM, one byte after the other
  abbrev pub reading : State M.Core → List ℕ → Taken M.Core
  reading = Taking.reading step

  -- The laws of one byte ----------------------------------------------------------------------------------------------

  module _ (state : State M.Core) (b : ℕ) where
    -- With no frame open ESC opens one.
    pub step_opens : state.frame ≡ no_frame → b ≡ escape → step state b ≡ silently (with state.core (open_frame []))
    unfolding step
    step_opens f e = rw (f, e)

    -- With no frame open a code from 0x20 on is stored.
    pub step_stores : state.frame ≡ no_frame → blank ≤ b → step state b ≡ silently (with (M.store state.core b) state.frame)
    unfolding step
    step_stores f l = rw (f, ne_eqb b escape (λ e. omega arith), le-leb blank b l)

    -- With no frame open any other code is skipped.
    pub step_skips : state.frame ≡ no_frame → b < blank → (b ≡ escape → ⊥) → step state b ≡ silently state
    unfolding step
    step_skips f l n = rw (f, ne_eqb b escape n, lt-leb blank b l)

    -- ESC abandons an open or overlong frame, is answered once and opens the next.
    pub step_abandons : (state.frame ≡ no_frame → ⊥) → b ≡ escape → step state b ≡ record { state = with state.core (open_frame []); answers = M.bad_answer state.core }
    unfolding step
    step_abandons n e = rw e (go state.frame n)
      where
        go : (frame : Frame) → (frame ≡ no_frame → ⊥) → step_from state.core frame escape ≡ record { state = with state.core (open_frame []); answers = M.bad_answer state.core }
        go no_frame m = absurd (m refl)
        go (open_frame body) m = refl
        go overlong m = refl

    -- CR closes an open frame, which is obeyed.
    pub step_closes : (body : List ℕ) → state.frame ≡ open_frame body → b ≡ carriage_return
        → step state b ≡ record { state = with (M.obey state.core body).core no_frame; answers = (M.obey state.core body).answers }
    unfolding step
    step_closes body f e = rw (f, e)

    -- CR closes an overlong frame, which is bad.
    pub step_ends_overlong : state.frame ≡ overlong → b ≡ carriage_return → step state b ≡ record { state = with state.core no_frame; answers = M.bad_answer state.core }
    unfolding step
    step_ends_overlong f e = rw (f, e)

    step_more : (body : List ℕ) → state.frame ≡ open_frame body → Plain b → step state b ≡ silently (with state.core (keep (body ++ b ∷ [])))
    unfolding step
    step_more body f p = rw (f, ne_eqb b escape p.not_escape, ne_eqb b carriage_return p.not_return)

    -- Any other byte is collected, up to 250.
    pub step_collects : (body : List ℕ) → state.frame ≡ open_frame body → Plain b → length body < limit → step state b ≡ silently (with state.core (open_frame (body ++ b ∷ [])))
    unfolding keep
    step_collects body f p l = step_more body f p ∙ rw (le-leb (length (body ++ b ∷ [])) limit (omega (arith, length-append body (b ∷ []))))

    -- The 251st makes the frame overlong.
    pub step_overflows : (body : List ℕ) → state.frame ≡ open_frame body → Plain b → limit ≤ length body → step state b ≡ silently (with state.core overlong)
    unfolding keep
    step_overflows body f p l = step_more body f p ∙ rw (lt-leb (length (body ++ b ∷ [])) limit (omega (arith, length-append body (b ∷ []))))

    -- An overlong frame passes it over.
    pub step_waits : state.frame ≡ overlong → Plain b → step state b ≡ silently state
    unfolding step
    step_waits f p = rw (f, ne_eqb b escape p.not_escape, ne_eqb b carriage_return p.not_return)
