-- ORDER THAT DOESN'T MATTER (request T-13): two whole frames of orders with no group in common, sent one after the other in either order,
-- give one record, and each is answered in its place what it is answered alone. Assumes nothing.
use Rattle.std.specs.Prelude.{ℕ, ◌+◌, ◌≤◌, Bool, true, ◌≡◌, length}
use Rattle.std.proofs.Common.{arith, sym, ◌∙◌, length-append, eqb-true}
use mathlib.Core.List.{List, [], ◌++◌, append-nil}
use Rattle.std.proofs.Math.Option.{some}
use Rattle.std.proofs.Math.Path.{ap, subst}
use Rattle.lists.specs.Both.{both}
use Rattle.record.specs.declared.Record.{Record}
use Rattle.record.specs.declared.Frame.{Frame as KeptFrame}
use Rattle.record.specs.Core.{Core, core_of}
use Rattle.record.specs.Laws.{ranges}
use Rattle.record.specs.Range.{text_in_range, in_range}
use Rattle.command.specs.Order.{plain, label, draw}
use Rattle.sister_command.specs.Order.{AnyOrder, first, own}
use Rattle.sister_command.specs.Grammar.{SpellsIn}
use Rattle.sister_command.specs.Reading.{order_in}
use Rattle.sister_command.proofs.Agree.{agree_in, within_in, row_in}
use Rattle.effect.specs.Keeps.{CoreInRange, core_of_record}
use Rattle.sister_effect.specs.Obey.{carry_out_any}
use Rattle.sister_effect.specs.Keeps.{frame_keeps}
use Rattle.sister_effect.specs.Untouched.{edition_stays_any, read_of_edition}
use Rattle.groups.specs.Groups.{none_in_common}
use Rattle.groups.specs.Putting.{Whole}
use Rattle.groups.specs.Laws.{Fits}
use Rattle.groups.proofs.Laws.{order_does_not_matter}
use Rattle.parting.specs.Rules.{closed, Parting, ends, goes_on, done, then, no_frame}
use Rattle.turns.specs.Taking.{Taken, answering}
use Rattle.parting.specs.Meaning.{Answered, State, with, taking}
use Rattle.stream.specs.Stream.{handset, record_of, written_over}
use Rattle.stream.specs.Frames.{body_of}
use Rattle.stream.specs.Demand.{HandedBack, fed_back}
use Rattle.demands.specs.Frames.{SpellsFor, answer_on, whole_frame, with_core, whole, all_taken, no_frame_kept, stands}

-- all of the bytes used, and this done and answered
abbrev pub all_used : Record → List ℕ → List ℕ → Core → List ℕ → HandedBack
all_used r bytes lent after answers = record { after = with_core r after; used = length bytes; written = length answers; buffer = written_over answers lent }

-- IN EITHER ORDER: the core after both, and what is handed back for the one order and for the other
pub record EitherOrder (r : Record) (o p : AnyOrder) (f g lent : List ℕ) : Type 0 where
  pub after : Core
  pub one_first : fed_back r (whole_frame f ++ whole_frame g) lent ≡ all_used r (whole_frame f ++ whole_frame g) lent after (answer_on (core_of r) o ++ answer_on (core_of r) p)
  pub other_first : fed_back r (whole_frame g ++ whole_frame f) lent ≡ all_used r (whole_frame g ++ whole_frame f) lent after (answer_on (core_of r) p ++ answer_on (core_of r) o)

-- An order that a frame spells keeps the core in range, so its text whole, and its edition,
module _ (c : Core) (o : AnyOrder) {f : List ℕ} (s : SpellsFor c o f) where
  found : order_in c.edition.sister f ≡ some o
  found = (agree_in c.edition.sister o f).1 s

  keeps : CoreInRange c → CoreInRange (carry_out_any o c)
  keeps k = rw found at (frame_keeps c f k)

  edition_kept : (carry_out_any o c).edition.sister ≡ c.edition.sister
  edition_kept = edition_stays_any o c (read_of_edition c.edition.sister o f found)

text_whole : (c : Core) → CoreInRange c → Whole c
unfolding text_in_range
text_whole c k = eqb-true (length c.text) 104 (both k.text).0

-- and as a picture frame it has at most 96 columns.
fits : (sister : Bool) (o : AnyOrder) {f : List ℕ} → SpellsIn sister o f → Fits o
fits sister (first (plain command)) s = tt
fits sister (first (label side codes)) s = tt
fits sister (first (draw m columns)) s = (row_in sister s).most
fits sister (own command) s = tt

module _ (r : Record) (good : in_range r ≡ true) (none : r.frame.state ≡ 0) (lent : List ℕ) where
  abbrev now : Core
  now = core_of r

  -- Two whole frames, one after the other: each does what its order does, and is answered.
  module _ (o p : AnyOrder) {f g : List ℕ} (s : SpellsFor now o f) (t : SpellsFor now p g) where
    two_parts : Parting (whole_frame f ++ whole_frame g) (then (closed f) (then (closed g) done))
    two_parts =
        goes_on {part = closed f} (body_of f (within_in now.edition.sister o s).plain) tt
        (rw append-nil at (goes_on {part = closed g} (body_of g (within_in now.edition.sister p t).plain) tt ends))

    abbrev next : Core
    next = carry_out_any o now

    second_taken : taking handset next (then (closed g) done) ≡ record { state = with (carry_out_any p next) no_frame; answers = answer_on next p }
    unfolding taking
    second_taken =
        let still : SpellsFor next p g = subst (λ (b : Bool). SpellsIn b p g) (sym (edition_kept now o s)) t in
        ap (λ (a : Answered Core). record { state = with a.core no_frame; answers = a.answers ++ [] }) (whole next g p still)
        ∙ (λ j. record { state = with (carry_out_any p next) no_frame; answers = append-nil (answer_on next p) j })

    both_taken : taking handset now (then (closed f) (then (closed g) done)) ≡ record { state = with (carry_out_any p next) no_frame; answers = answer_on now o ++ answer_on next p }
    unfolding taking
    both_taken =
        ap (λ (a : Answered Core). answering a.answers (taking handset a.core (then (closed g) done))) (whole now f o s)
        ∙ ap (answering (answer_on now o)) second_taken

    one_after_other : length (answer_on now o ++ answer_on next p) ≤ length lent
        → fed_back r (whole_frame f ++ whole_frame g) lent ≡ all_used r (whole_frame f ++ whole_frame g) lent (carry_out_any p next) (answer_on now o ++ answer_on next p)
    one_after_other room =
        all_taken r good (stands r good none f (body_of f (within_in now.edition.sister o s).plain)) (whole_frame f ++ whole_frame g) lent two_parts
        (subst (λ (x : Taken (State Core)). length x.answers ≤ length lent) (sym both_taken) room)
        ∙ ap (λ (x : Taken (State Core)). record { after = record_of r.held x.state; used = length (whole_frame f ++ whole_frame g); written = length x.answers; buffer = written_over x.answers lent }) both_taken
        ∙ ap (λ (kept : KeptFrame). record { after = record { settings = (carry_out_any p next).settings; text = (carry_out_any p next).text; picture = (carry_out_any p next).picture; held = r.held; frame = kept; edition = (carry_out_any p next).edition }; used = length (whole_frame f ++ whole_frame g); written = length (answer_on now o ++ answer_on next p); buffer = written_over (answer_on now o ++ answer_on next p) lent })
        (no_frame_kept r good none f (body_of f (within_in now.edition.sister o s).plain))

  -- THE THEOREM.
  pub either_order : (o p : AnyOrder) → none_in_common o p ≡ true → (f g : List ℕ) → SpellsFor now o f → SpellsFor now p g
      → length (answer_on now o) + length (answer_on now p) ≤ length lent → EitherOrder r o p f g lent
  either_order o p none-common f g s t room =
      let k = core_of_record r (ranges r good) in
      let commutes = order_does_not_matter now o p none-common (fits now.edition.sister o s) (fits now.edition.sister p t) (text_whole now k) (text_whole (carry_out_any o now) (keeps now o s k)) (text_whole (carry_out_any p now) (keeps now p t k)) in
      record {
        after = carry_out_any p (carry_out_any o now);
        one_first =
            one_after_other o p s t (omega (arith, length-append (answer_on now o) (answer_on (carry_out_any o now) p), ap (λ (l : List ℕ). length l) commutes.other, room))
            ∙ ap (λ (l : List ℕ). all_used r (whole_frame f ++ whole_frame g) lent (carry_out_any p (carry_out_any o now)) (answer_on now o ++ l)) commutes.other;
        other_first =
            one_after_other p o t s (omega (arith, length-append (answer_on now p) (answer_on (carry_out_any p now) o), ap (λ (l : List ℕ). length l) commutes.one, room))
            ∙ (λ j. all_used r (whole_frame g ++ whole_frame f) lent (commutes.same j) (answer_on now p ++ commutes.one j));
      }
