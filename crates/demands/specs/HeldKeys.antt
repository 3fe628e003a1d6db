-- HOLDING A KEY SHOULDN'T REPEAT (request T-05). The power-on record has Time2 0; the one of the former defaults differs from it in
-- Time2 alone. Any two records in range that do so are told apart by no stream in which no key times are set. Assumes nothing.
use Rattle.std.specs.Prelude.{ℕ, ◌≤◌, ◌≡◌, refl, Bool, true, false, List, [], ◌∷◌, ◌++◌, ltb, length}
use Rattle.std.proofs.Common.{sym, ap, ◌∙◌, subst}
use Rattle.std.proofs.Math.Option.{Option, none, some}
use Rattle.lists.specs.Tests.{by_test}
use Rattle.record.specs.declared.Record.{Record}
use Rattle.record.specs.declared.Frame.{Frame as KeptFrame}
use Rattle.record.specs.PowerOn.{power_on, former_power_on}
use Rattle.record.specs.Range.{in_range, row_end_of}
use Rattle.record.specs.With.{with_settings, with_times, with_time2}
use Rattle.command.specs.Order.{Order}
use Rattle.command.specs.Grammar.{Spells}
use Rattle.command.specs.InRange.{in_range_in_mode}
use Rattle.command.specs.Reading.{order_of}
use Rattle.command.proofs.Agree.{agree}
use Rattle.record.specs.Core.{Core, core_of}
use Rattle.record.specs.Fields.{time2, put}
use Rattle.effect.specs.Effect.{carry_out, store_text}
use Rattle.effect.specs.Touched.{touches}
use Rattle.effect.proofs.Untouched.{apart}
use Rattle.answer.specs.Answers.{answer_bytes}
use Rattle.effect.specs.Obey.{answer_to}
use Rattle.sister_command.specs.Order.{AnyOrder}
use Rattle.sister_command.specs.Reading.{as_first, order_in}
use Rattle.sister_effect.specs.Obey.{obey_any, answers_to, mark_of}
use Rattle.sister_effect.specs.Untouched.{frame_keeps_edition}
use Rattle.parting.specs.Rules.{Parted, Parting, Stands}
use Rattle.parting.specs.Meaning.{Answered, with, taking}
use Rattle.parting.specs.Frames.{EachClosed}
use Rattle.parting.specs.Alike.{KeepsAgreeing, TakenAlike}
use Rattle.parting.proofs.Alike.{alike}
use Rattle.stream.specs.Stream.{handset, obey_frame, frame_in, state_of}
use Rattle.stream.specs.Demand.{HandedBack, fed_back, taken_from, parts_taken, ran_back}
use Rattle.stream.proofs.Demand.{stored_stays}
use Rattle.demands.specs.Frames.{all_taken}

-- a record, and what a stream can change of it, with another Time2 and nothing else changed
abbrev pub other_time2 : ℕ → Record → Record
other_time2 n r = with_settings r (with_times r.settings (with_time2 r.settings.times n))

-- a frame that sets no key times: an order that it spells and that touches Time2, as IT does alone, is out of range
abbrev pub SetsNoTimes : List ℕ → Type 0
SetsNoTimes frame = (o : Order) → Spells o frame → touches o time2 ≡ true → (mode : ℕ) → in_range_in_mode mode o ≡ false

-- THE STATEMENT: from a record of the first edition in range and the same with another Time2, a stream in whose parting no closed frame
-- sets key times, and room for all answers: the same bytes are used, the same answers written, and the records still differ in that
-- Time2 alone.
pub record HeldKeys : Type 0 where
  pub former_differs : former_power_on ≡ other_time2 12 power_on
  pub time2_alone : (r : Record) (n : ℕ) → r.edition.sister ≡ false → in_range r ≡ true → in_range (other_time2 n r) ≡ true → (before : List ℕ) → Stands (state_of r).frame before
      → (bytes lent : List ℕ) {parted : Parted} → Parting (before ++ bytes) parted → EachClosed SetsNoTimes parted → length (taken_from r parted).answers ≤ length lent
      → (let back = fed_back r bytes lent in
      fed_back (other_time2 n r) bytes lent ≡ record { after = other_time2 n back.after; used = back.used; written = back.written; buffer = back.buffer })

-- The proof ---------------------------------------------------------------------------------------------------------

module _ (n : ℕ) where
  abbrev core_other_time2 : Core → Core
  core_other_time2 c = put time2 (n ∷ []) c

  -- An order that does not touch Time2 goes the same way whatever it is; one that does is passed over.
  carried_alike : (o : Order) (c : Core) (frame : List ℕ) → SetsNoTimes frame → Spells o frame → carry_out o (core_other_time2 c) ≡ core_other_time2 (carry_out o c)
  unfolding carry_out
  carried_alike o c frame sets s = by_test (touches o time2) (λ e. rw (sets o s e c.settings.screen.mode)) (λ e. apart o time2 (n ∷ []) c e)

  abbrev Agree : Core → Core → Type 0
  Agree one other = (other ≡ core_other_time2 one) × (one.edition.sister ≡ false)

  stored_alike : (c : Core) (b : ℕ) → store_text (core_other_time2 c) b ≡ core_other_time2 (store_text c b)
  unfolding store_text
  stored_alike c b = by_test (ltb c.settings.screen.column (row_end_of c.settings.screen.mode)) (λ e. rw e) (λ e. rw e)

  obeyed_alike : (c : Core) (frame : List ℕ) → c.edition.sister ≡ false → SetsNoTimes frame → obey_frame (core_other_time2 c) frame ≡ record { core = core_other_time2 (obey_frame c frame).core; answers = (obey_frame c frame).answers }
  obeyed_alike c frame first sets = subst Alike (sym (ap (λ (sister : Bool). order_in sister frame) first)) (go (order_of frame) refl)
    where
      Alike : Option AnyOrder → Type 0
      Alike found = ◌≡◌ {A = Answered Core} (record { core = obey_any (core_other_time2 c) found; answers = answers_to (core_other_time2 c) found }) (record { core = core_other_time2 (obey_any c found); answers = answers_to c found })

      go : (found : Option Order) → order_of frame ≡ found → Alike (as_first found)
      go none e = refl
      go (some o) e = λ j. record { core = carried_alike o c frame sets ((agree o frame).0 e) j; answers = answer_bytes (answer_to (some o)) c.settings.contrast c.settings.hook }

  keeps : KeepsAgreeing handset Agree SetsNoTimes
  keeps =
      record {
        stored = λ one other b e. (ap (λ (d : Core). store_text d b) e.0 ∙ stored_alike one b, stored_stays one b ∙ e.1);
        obeyed = λ one other frame sets l e.
            let same = ap (λ (d : Core). obey_frame d frame) e.0 ∙ obeyed_alike one frame e.1 sets in
            record { core = (ap (λ (a : Answered Core). a.core) same, frame_keeps_edition one frame ∙ e.1); answers = sym (ap (λ (a : Answered Core). a.answers) same) };
        refused = λ one other e. sym (ap (λ (d : Core). mark_of d.edition.sister) e.0);
      }

  module _ (r : Record) (first : r.edition.sister ≡ false) (good : in_range r ≡ true) (good' : in_range (other_time2 n r) ≡ true) {before : List ℕ} (stands : Stands (state_of r).frame before)
      (bytes lent : List ℕ) {parted : Parted} (p : Parting (before ++ bytes) parted) where
    took : (q : Record) → in_range q ≡ true → q.frame ≡ r.frame → length (taking handset (core_of q) parted).answers ≤ length lent → fed_back q bytes lent ≡ parts_taken q parted (length bytes) lent
    took q in_range_lem same fits = all_taken q in_range_lem (subst (λ (f : KeptFrame). Stands (frame_in f.state f.len f.bytes) before) (sym same) stands) bytes lent p fits

    time2_apart : EachClosed SetsNoTimes parted → length (taken_from r parted).answers ≤ length lent
        → (let back = fed_back r bytes lent in
        fed_back (other_time2 n r) bytes lent ≡ record { after = other_time2 n back.after; used = back.used; written = back.written; buffer = back.buffer })
    time2_apart each fits =
        let both : TakenAlike Agree (taking handset (core_of r) parted) (taking handset (core_of (other_time2 n r)) parted) =
        alike handset Agree SetsNoTimes keeps (core_of r) (core_of (other_time2 n r)) parted each (refl, first)
        in
        took (other_time2 n r) good' refl (subst (λ (a : List ℕ). length a ≤ length lent) both.answers fits)
        ∙ (λ j. ran_back r.held (record { state = with (both.core.0 j) (sym both.frame j); used = length bytes; answers = sym both.answers j }) lent)
        ∙ ap (λ (b : HandedBack). record { after = other_time2 n b.after; used = b.used; written = b.written; buffer = b.buffer }) (sym (took r good refl fits))

pub held_keys : HeldKeys
held_keys = record { former_differs = refl; time2_alone = λ r n first good good' before stands bytes lent p each fits. time2_apart n r first good good' stands bytes lent p each fits }
