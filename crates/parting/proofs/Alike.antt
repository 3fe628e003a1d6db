-- Two records that agree go on agreeing, and are answered alike.
-- What it speaks of is in specs/Alike.antt. Assumes nothing.
use Rattle.std.specs.Prelude.{ℕ, length}
use Rattle.std.proofs.Math.Path.{refl, ap₂}
use mathlib.Core.List.{List, ◌++◌}
use Rattle.std.proofs.Common.{leb-true}
use Rattle.lists.specs.Tests.{by_test}
use Rattle.parting.specs.Rules.{Part, text, skipped, closed, abandoned, Parted, done, unfinished, then, Parting, Frame, limit, in_limit, Stands}
use Rattle.parting.specs.Meaning.{Meaning, with, close, act, taking}
use Rattle.parting.specs.Reading.{reading}
use Rattle.parting.proofs.Stream.{stream}
use Rattle.parting.specs.Frames.{OfThese, EachClosed}
use Rattle.parting.specs.Alike.{AnsweredAlike, TakenAlike, KeepsAgreeing}

module _ (M : Meaning) (Agree : M.Core → M.Core → Type 0) (These : List ℕ → Type 0) (keeps : KeepsAgreeing M Agree These) where
  close_alike : (one other : M.Core) (body : List ℕ) → These body → Agree one other → AnsweredAlike Agree (close M one body) (close M other body)
  unfolding close
  close_alike one other body t h =
      by_test (in_limit body) (λ e. rw e (keeps.obeyed one other body t (leb-true (length body) limit e) h)) (λ e. rw e (record { core = h; answers = keeps.refused one other h }))

  act_alike : (one other : M.Core) (part : Part) → OfThese These part → Agree one other → AnsweredAlike Agree (act M one part) (act M other part)
  unfolding act
  act_alike one other (text b) t h = record { core = keeps.stored one other b h; answers = refl }
  act_alike one other (skipped b) t h = record { core = h; answers = refl }
  act_alike one other (closed body) t h = close_alike one other body t h
  act_alike one other (abandoned body) t h = record { core = h; answers = keeps.refused one other h }

  -- Two records that agree still do so behind any parts whose closed frames are of these, and the answers are the same.
  pub alike : (one other : M.Core) (parted : Parted) → EachClosed These parted → Agree one other → TakenAlike Agree (taking M one parted) (taking M other parted)
  unfolding taking
  alike one other done t h = record { core = h; frame = refl; answers = refl }
  alike one other (unfinished body) t h = record { core = h; frame = refl; answers = refl }
  alike one other (then part parted) t h =
      let now = act_alike one other part t.0 h in
      let later = alike (act M one part).core (act M other part).core parted t.1 now.core in
      record { core = later.core; frame = later.frame; answers = ap₂ {C = List ℕ} (λ (x y : List ℕ). x ++ y) now.answers later.answers }

  -- And so behind any stream, with the same frame open in both.
  pub reading_alike : (one other : M.Core) (frame : Frame) {before : List ℕ} (bytes : List ℕ) {parted : Parted} → Stands frame before → Parting (before ++ bytes) parted
      → EachClosed These parted → Agree one other → TakenAlike Agree (reading M (with one frame) bytes) (reading M (with other frame) bytes)
  reading_alike one other frame bytes {parted} standing p t h = rw (stream M (with one frame) bytes standing p, stream M (with other frame) bytes standing p) (alike one other parted t h)
