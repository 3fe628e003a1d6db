-- Laws of the key log call, number by number. Assumes nothing.
use Rattle.std.specs.Prelude.{ℕ, suc, ◌+◌, ◌≤◌, ◌<◌, ◌⊎◌, ◌≡◌, refl, Bool, true, false, not, List, ◌∷◌, eqb, length, take, drop}
use Rattle.std.proofs.Common.{sym, ap, ◌∙◌, subst}
use borrow.Author.Tests.{eq-eqb, ne_eqb}
use Rattle.lists.specs.Every.{every}
use Rattle.lists.specs.Tests.{either_way}
use Rattle.record.specs.declared.Record.{Record}
use Rattle.record.specs.declared.Small.{Small}
use Rattle.record.specs.declared.Backlight.{Backlight}
use Rattle.record.specs.Number.{numbered}
use Rattle.record.specs.Range.{in_range}
use Rattle.record.specs.With.{with_settings, with_held, with_edition, with_seconds_left}
use Rattle.record.specs.Parts.{together, small_of}
use Rattle.turns.specs.Taking.{Taken, reading}
use Rattle.turns.specs.Room.{Ran, run, Stops}
use Rattle.turns.proofs.Room.{run_keeps, run_stops, only_one, stops_exactly}
use Rattle.turns.specs.Loop.{holding}
use Rattle.key_log.specs.declared.Logged.{Logged}
use Rattle.key_entry.specs.Rules.{Entry, listed_up_to, step}
use Rattle.sister_entry.specs.Rules.{before}
use Rattle.sister_entry.specs.Ranges.{only_left}
use Rattle.key_log.specs.Steps.{last_in, listed_in, with_sister_keys, sister_step, step_in}
use Rattle.key_log.specs.Log.{entries, Outcome, refused, outcome, handed_back, lent_of, buffer_after}

-- The call, number by number, in the paper's order 1, 5, 4, 0.
module _ (r : Record) (ticks edges : List ℕ) (room : ℕ) where
  -- 1: a record out of range is refused, whatever the log.
  pub ends_with_1 : in_range r ≡ false → outcome r ticks edges room ≡ refused (numbered 1) r
  unfolding outcome
  ends_with_1 bad = rw bad

  module _ (good : in_range r ≡ true) where
    -- 5: then slices of unequal length, whatever the edges.
    pub ends_with_5 : (length ticks ≡ length edges → ⊥) → outcome r ticks edges room ≡ refused (numbered 5) r
    unfolding outcome
    ends_with_5 unequal = rw (good, ne_eqb (length ticks) (length edges) unequal)

    module _ (equal : length ticks ≡ length edges) where
      -- 4: then an edge that is not listed, anywhere in the log, whatever the room.
      pub ends_with_4 : every (listed_in r.edition.sister) edges ≡ false → outcome r ticks edges room ≡ refused (numbered 4) r
      unfolding outcome
      ends_with_4 odd = rw (good, eq-eqb (length ticks) (length edges) equal, odd)

      -- 0: else the rules, entry by entry, as far as the room goes.
      pub ends_with_0 : every (listed_in r.edition.sister) edges ≡ true
          → outcome r ticks edges room ≡ record { number = numbered 0; ran = run step_in r (entries ticks edges) room }
      unfolding outcome
      ends_with_0 all = rw (good, eq-eqb (length ticks) (length edges) equal, all)

-- Whether all edges are listed up to the last number is whether they are in its edition.
pub all_listed_in : (sister : Bool) (edges : List ℕ) {last : ℕ} {all : Bool} → last ≡ last_in sister → all ≡ every (listed_up_to last) edges
    → every (listed_in sister) edges ≡ all
all_listed_in sister edges e found = sym (found ∙ ap (λ (n : ℕ). every (listed_up_to n) edges) e)

-- What is handed back and left in the buffer for an outcome is so for its equal.
pub kept : (before : List ℕ) {l : Logged Small} {after : List ℕ} {o p : Outcome} → o ≡ p → l ≡ lent_of (handed_back p) → after ≡ buffer_after p before
    → (l ≡ lent_of (handed_back o)) × (after ≡ buffer_after o before)
kept before e back buffer = (back ∙ ap (λ (x : Outcome). lent_of (handed_back x)) (sym e), buffer ∙ ap (λ (x : Outcome). buffer_after x before) (sym e))

-- A fact that every entry keeps is kept by a log.
pub log_keeps : (Fact : Record → Type 0) → ((s : Record) (e : Entry) → Fact s → Fact (step_in s e).state)
    → (r : Record) (ticks edges : List ℕ) (room : ℕ) → Fact r → Fact (outcome r ticks edges room).ran.state
unfolding outcome
log_keeps Fact each r ticks edges room fact =
    either_way Kept (not (in_range r)) (λ a. fact)
    (λ a. either_way Kept (not (eqb (length ticks) (length edges))) (λ b. fact)
    (λ b. either_way Kept (not (every (listed_in r.edition.sister) edges)) (λ d. fact)
    (λ d. run_keeps step_in Fact each r (entries ticks edges) room fact)))
  where
    Kept : Outcome → Type 0
    Kept o = Fact o.ran.state

-- the record with these settings, this held key and this edition, and all else as it was
abbrev pub with_keys_of : Record → Small → Record
with_keys_of r small = with_edition (with_held (with_settings r small.settings) small.held) small.edition

-- An entry changes no array, and not which handset it is, in either edition.
pub step_stays : (r : Record) (e : Entry) → (with_keys_of r (small_of (step_in r e).state) ≡ (step_in r e).state) × ((step_in r e).state.edition.sister ≡ r.edition.sister)
unfolding step sister_step step_in
step_stays r e =
    either_way (λ (t : Taken Record). (with_keys_of r (small_of t.state) ≡ t.state) × (t.state.edition.sister ≡ r.edition.sister)) r.edition.sister
    (λ hers. (refl, refl)) (λ first. (refl, refl))

-- By the rules of its edition: in the first it is an entry of document 01's,
pub first_step : (r : Record) (e : Entry) → r.edition.sister ≡ false → step_in r e ≡ step r e
unfolding step_in
first_step r e first = rw first

-- and in the sister's one of request T-06's,
pub her_step : (r : Record) (e : Entry) → r.edition.sister ≡ true → step_in r e ≡ sister_step r e
unfolding step_in
her_step r e hers = rw hers

-- which changes nothing but her keys, the seconds left, the hook and PTT.
pub only_her_keys : (r : Record) (e : Entry)
    → (let s = (sister_step r e).state in
    s ≡ with_sister_keys r (before s.edition.keys (with_seconds_left r.settings.backlight s.settings.backlight.left) s.settings.hook s.edition.ptt))
unfolding sister_step
only_her_keys r e =
    let s = (sister_step r e).state in
    ap (λ (b : Backlight). with_sister_keys r (before s.edition.keys b s.settings.hook s.edition.ptt))
    (only_left r.edition.keys r.settings.times r.settings.backlight r.settings.hook r.edition.ptt e.tick e.edge)

-- A LOG CHANGES NO ARRAY: what it leaves is the record it was handed, with other settings, another held key and other keys of the sister's.
module _ (r : Record) (ticks edges : List ℕ) (room : ℕ) where
  abbrev left : Record
  left = (outcome r ticks edges room).ran.state

  pub arrays_stay : with_keys_of r (small_of left) ≡ left
  arrays_stay =
      log_keeps (λ (s : Record). with_keys_of r (small_of s) ≡ s)
      (λ s e same. ap (λ (t : Record). with_keys_of t (small_of (step_in s e).state)) same ∙ (step_stays s e).0)
      r ticks edges room refl

  -- It never changes which handset it is.
  pub log_stays : left.edition.sister ≡ r.edition.sister
  log_stays = log_keeps (λ (s : Record). s.edition.sister ≡ r.edition.sister) (λ s e same. (step_stays s e).1 ∙ same) r ticks edges room refl

  -- So what comes back of lent arrays, put together with them, is the call's record.
  pub lent_back : {l : Logged Small} → l ≡ lent_of (handed_back (outcome r ticks edges room)) → together l.record r.text r.picture r.frame.bytes ≡ left
  lent_back e =
      ap (λ (l : Logged Small). together l.record r.text r.picture r.frame.bytes) e
      ∙ (λ j. together (small_of left) (arrays_stay j).text (arrays_stay j).picture (arrays_stay j).frame.bytes)

-- THE CALL BY VALUE lends the arrays of the record, and puts the settings, the held key and the edition that come back into it.
abbrev pub back_in : Record → Logged Small → Logged Record
back_in r l = record { number = l.number; «record» = with_keys_of r l.record; used = l.used; written = l.written }

module _ (r : Record) (ticks edges before : List ℕ) where
  -- how the log ends with these small fields beside the record's arrays
  abbrev pub ended : Small → Outcome
  ended small = outcome (together small r.text r.picture r.frame.bytes) ticks edges (length before)

  -- With the record's own it ends as the call by value does.
  pub by_value : {small : Small} {l : Logged Small} {after : List ℕ} → small ≡ small_of r → l ≡ lent_of (handed_back (ended small)) → after ≡ buffer_after (ended small) before
      → (back_in r l ≡ handed_back (outcome r ticks edges (length before))) × (after ≡ buffer_after (outcome r ticks edges (length before)) before)
  by_value {small} {l} own back buffer = (
    ap (back_in r) same ∙ (λ j. record { number = o.number; «record» = arrays_stay r ticks edges (length before) j; used = o.ran.used; written = length o.ran.answers }),
    buffer ∙ ap (λ (s : Small). buffer_after (ended s) before) own,
  )
    where
      o : Outcome
      o = outcome r ticks edges (length before)

      same : l ≡ lent_of (handed_back o)
      same = back ∙ ap (λ (s : Small). lent_of (handed_back (ended s))) own

-- A LOG THAT IS DONE, by what it hands back and what then stands in the buffer that was lent: both are what its used entries do, the
-- written count among them; all entries are used, or one more would send more than there is room for.
pub record LogDone (r : Record) (log : List Entry) (lent : List ℕ) (back : Logged Record) (buffer : List ℕ) : Type 0 where
  pub number : back.number ≡ numbered 0
  pub after : back.record ≡ (reading step_in r (take back.used log)).state
  pub written : back.written ≡ length (reading step_in r (take back.used log)).answers
  pub sent : buffer ≡ holding (reading step_in r (take back.used log)).answers lent
  pub within : back.used ≤ length log
  pub fits : back.written ≤ length lent
  pub stops : (back.used ≡ length log) ⊎ (length lent < length (reading step_in r (take (suc back.used) log)).answers)

-- Every listed log from a record in range is done so,
module _ (r : Record) (ticks edges lent : List ℕ) (good : in_range r ≡ true) (equal : length ticks ≡ length edges) (all : every (listed_in r.edition.sister) edges ≡ true) where
  abbrev done : Outcome
  done = outcome r ticks edges (length lent)

  pub log_done : LogDone r (entries ticks edges) lent (handed_back done) (buffer_after done lent)
  log_done =
      let k = run_stops step_in r (entries ticks edges) (length lent) in
      rw (ends_with_0 r ticks edges (length lent) good equal all)
      (record {
        number = refl;
        after = ap (λ (t : Taken Record). t.state) k.does;
        written = ap (λ (t : Taken Record). length t.answers) k.does;
        sent = ap (λ (t : Taken Record). holding t.answers lent) k.does;
        within = k.within;
        fits = k.fits;
        stops = k.stops;
      })

  -- it stops exactly before the first entry whose code or message has no room,
  pub log_stops_exactly : ((handed_back done).used ≡ length (entries ticks edges))
      ⊎ ((next : Entry) × (rest : List Entry) × (drop (handed_back done).used (entries ticks edges) ≡ next ∷ rest)
      × (length lent < (handed_back done).written + length (step_in (handed_back done).record next).answers))
  log_stops_exactly = rw (ends_with_0 r ticks edges (length lent) good equal all) (stops_exactly step_in (run_stops step_in r (entries ticks edges) (length lent)))

-- what so many entries of a log do
abbrev used_ran : Record → List Entry → ℕ → Ran Record
used_ran r log used = let t = reading step_in r (take used log) in record { state = t.state; used = used; answers = t.answers }

-- and nothing else is: neither another count nor another buffer.
pub log_done_fixes : {r : Record} {log : List Entry} {lent : List ℕ} {back other : Logged Record} {buffer buffer' : List ℕ}
    → LogDone r log lent back buffer → LogDone r log lent other buffer' → (back ≡ other) × (buffer ≡ buffer')
log_done_fixes {r} {log} {lent} {back} {other} p q = (
  λ j. record { number = (p.number ∙ sym q.number) j; «record» = (p.after ∙ ap (λ (t : Ran Record). t.state) same ∙ sym q.after) j; used = (same j).used; written = (p.written ∙ ap (λ (t : Ran Record). length t.answers) same ∙ sym q.written) j },
  p.sent ∙ ap (λ (t : Ran Record). holding t.answers lent) same ∙ sym q.sent,
)
  where
    asked : {l : Logged Record} {b : List ℕ} → LogDone r log lent l b → Stops step_in r log (length lent) (used_ran r log l.used)
    asked d = record { within = d.within; does = refl; fits = subst (λ (n : ℕ). n ≤ length lent) d.written d.fits; stops = d.stops }

    same : used_ran r log back.used ≡ used_ran r log other.used
    same = only_one step_in (asked p) (asked q)
