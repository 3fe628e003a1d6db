-- The stream call meets demand 3, and nothing else does.
-- What it speaks of is in specs/Demand.antt. Assumes nothing.
use Rattle.std.specs.Prelude.{ℕ, suc, ◌≤◌, ◌<◌, ◌⊎◌, ◌≡◌, refl, Bool, true, List, [], ◌∷◌, ◌++◌, ltb, length, take, drop, replicate}
use Rattle.std.proofs.Common.{sym, ap, ◌∙◌, subst}
use Rattle.std.proofs.lemmas.List.{length-replicate}
use Rattle.std.proofs.Math.Seq.{take-append_seam}
use Rattle.record.specs.Number.{numbered}
use Rattle.record.specs.declared.Held.{Held}
use Rattle.record.specs.declared.Record.{Record}
use Rattle.record.specs.Parts.{together}
use Rattle.record.specs.Range.{row_end_of, held_kept, in_range}
use Rattle.lists.specs.Tests.{either_way}
use Rattle.effect.specs.Effect.{store_text}
use Rattle.record.specs.Laws.{ranges, in_range_lem}
use Rattle.turns.specs.Room.{Ran, Stops}
use Rattle.turns.proofs.Room.{run_stops, only_one}
use Rattle.turns.specs.Taking.{Taken}
use Rattle.turns.specs.Calls.{Session, session, taken_in, sessions_alike}
use Rattle.turns.proofs.Calls.{session_keeps}
use Rattle.parting.specs.Rules.{Parted, Parting, Stands}
use Rattle.parting.specs.Meaning.{State, taking}
use Rattle.parting.specs.Reading.{step}
use Rattle.parting.proofs.Stream.{stream}
use Rattle.parting.specs.Room.{run}
use Rattle.parting.specs.Calls.{Call, offered}
use Rattle.parting.specs.Kept.{Sound, Keeps}
use Rattle.parting.proofs.Kept.{run_keeps}
use Rattle.parting.proofs.Exactly.{exactly_one}
use Rattle.parting.specs.Demand.{Demand3}
use Rattle.parting.proofs.Demand.{demand3, stands_for_some}
use Rattle.record.specs.Core.{Core, core_of}
use Rattle.sister_effect.specs.Untouched.{frame_keeps_edition}
use Rattle.sister_effect.specs.Keeps.{frame_keeps}
use Rattle.effect.specs.Keeps.{CoreInRange, core_of_record, record_of_core, store_keeps}
use Rattle.record.specs.declared.Small.{Small}
use Rattle.stream.specs.declared.AfterBytes.{AfterBytes}
use Rattle.stream_places.specs.Places.{emptied}
use Rattle.stream.specs.Stream.{handset, kept_frame, state_of, record_of, standing, fed_by, fed_of, written_over, answers_after, Ready, Reads}
use Rattle.stream.specs.Turns.{put_together}
use Rattle.stream.specs.Frames.{places_of, frame_read, frame_back, frame_kept, frame_same}
use Rattle.stream.specs.Demand.{HandedBack, Calling, fed_back, taken_from, parts_taken, ran_of, in_calls, FeedDemand3, ran_back, shown_ran}

-- A record in range is ready to be read on from.
pub ready : (r : Record) → in_range r ≡ true → Ready r.settings r.text r.picture r.edition r.frame.state r.frame.len r.frame.bytes
ready r h = record { range = core_of_record r (ranges r h); fits = (places_of r.frame (ranges r h).frame).fits }

-- What the loop leaves of it, put together, is what the call hands back; the answers are the call's.
module _ (small : Small) (t g fr bytes before : List ℕ) {done : AfterBytes} {t' g' fr' after : List ℕ} (n : ℕ) (e : n ≡ small.len) (h : in_range (together small t g fr) ≡ true)
    (reads : Reads (standing small.settings t g small.edition small.state n fr) bytes before done t' g' fr' after) where
  reads_on : Reads (state_of (together small t g fr)) bytes before done t' g' fr' after
  reads_on = subst (λ (m : ℕ). Reads (standing small.settings t g small.edition small.state m fr) bytes before done t' g' fr' after) e reads

  pub feeds : record { number = numbered 0; «record» = together (record { settings = done.settings; held = small.held; state = done.state; len = done.len; edition = done.edition }) t' g' (emptied fr' done.len); used = done.used; written = done.written }
      ≡ fed_of (together small t g fr) bytes (length before)
  unfolding fed_of
  feeds = rw h (λ j. record { number = numbered 0; «record» = put_together small.held reads_on j; used = reads_on.account.used j; written = reads_on.account.written j })

  pub answers_fed : after ≡ answers_after (together small t g fr) bytes before
  unfolding answers_after
  answers_fed = rw h reads_on.account.buffer

pub state_in_range : (r : Record) → in_range r ≡ true → Sound CoreInRange (state_of r)
state_in_range r h = record { holds = core_of_record r (ranges r h); frame = frame_read r.frame (ranges r h).frame }

-- Text bytes and frames keep a core in range.
pub handset_keeps : Keeps handset CoreInRange
handset_keeps = record { stored = λ core b l h. store_keeps core b h l; obeyed = λ core body p l h. frame_keeps core body h }

-- .. and its edition.
pub stored_stays : (c : Core) (b : ℕ) → (store_text c b).edition.sister ≡ c.edition.sister
unfolding store_text
stored_stays c b = either_way (λ (d : Core). d.edition.sister ≡ c.edition.sister) (ltb c.settings.screen.column (row_end_of c.settings.screen.mode)) (λ e. refl) (λ e. refl)

pub edition_kept : (sister : Bool) → Keeps handset (λ (c : Core). c.edition.sister ≡ sister)
edition_kept sister = record { stored = λ core b l h. stored_stays core b ∙ h; obeyed = λ core body p l h. frame_keeps_edition core body ∙ h }

pub run_stays : (r : Record) (bytes : List ℕ) (room : ℕ) → in_range r ≡ true → (run handset (state_of r) bytes room).state.core.edition.sister ≡ r.edition.sister
run_stays r bytes room h =
    (run_keeps handset (λ (c : Core). c.edition.sister ≡ r.edition.sister) (edition_kept r.edition.sister) (state_of r) bytes room (record { holds = refl; frame = (state_in_range r h).frame })).holds

-- A record in range, taken apart and put together again, is itself; a state too.
pub record_same : (r : Record) → in_range r ≡ true → record_of r.held (state_of r) ≡ r
record_same r h = λ j. record { settings = r.settings; text = r.text; picture = r.picture; held = r.held; frame = frame_same r.frame (ranges r h).frame j; edition = r.edition }

pub state_same : (held : Held) (state : State Core) → state_of (record_of held state) ≡ state
state_same held state = λ j. record { core = state.core; frame = frame_back state.frame j }

-- A record in range comes back in range, with its held key.
pub fed_in_range : (r : Record) (bytes : List ℕ) (room : ℕ) → in_range r ≡ true → in_range (fed_of r bytes room).record ≡ true
unfolding fed_of
fed_in_range r bytes room h =
    let ran = run handset (state_of r) bytes room in
    let kept = run_keeps handset CoreInRange handset_keeps (state_of r) bytes room (state_in_range r h) in
    rw h (in_range_lem (fed_by r.held ran).record (record_of_core ran.state.core r.held (kept_frame ran.state.frame) kept.holds (subst (λ (sister : Bool). held_kept sister r.held ≡ true) (sym (run_stays r bytes room h)) (ranges r h).held) (frame_kept ran.state.frame kept.frame)))

fed_held : (r : Record) (bytes : List ℕ) (room : ℕ) → in_range r ≡ true → (fed_of r bytes room).record.held ≡ r.held
unfolding fed_of
fed_held r bytes room h = rw h

-- The call is the theory's run, in record, counts and buffer;
pub back_is_run : (r : Record) (bytes lent : List ℕ) → in_range r ≡ true → fed_back r bytes lent ≡ ran_back r.held (run handset (state_of r) bytes (length lent)) lent
unfolding fed_of answers_after
back_is_run r bytes lent h = rw h

pub fed_is_run : (r : Record) (bytes : List ℕ) (room : ℕ) → in_range r ≡ true → shown_ran (ran_of fed_back r bytes room) ≡ run handset (state_of r) bytes room
unfolding fed_of answers_after
fed_is_run r bytes room h =
    let ran = run handset (state_of r) bytes room in
    rw (h, length-replicate {A = ℕ} room 0)
    (λ j. record { state = state_same r.held ran.state j; used = ran.used; answers = take-append_seam ran.answers (drop (length ran.answers) (replicate room 0)) j })

-- A record in range is what its state and held key make.
shown_back : (s : Record) (held : Held) (state : State Core) → in_range s ≡ true → s.held ≡ held → state_of s ≡ state → s ≡ record_of held state
shown_back s held state h e f = sym (record_same s h) ∙ (λ j. record_of (e j) (f j))

-- Calls in order of the one are calls in order of the other,
calls_shown : (r : Record) (calls : List Call) → in_range r ≡ true
    → record { state = state_of (in_calls fed_back r calls).state; unused = (in_calls fed_back r calls).unused; answers = (in_calls fed_back r calls).answers } ≡ session (run handset) (state_of r) [] calls
calls_shown r calls h =
    sessions_alike state_of (ran_of fed_back) (run handset) (λ s entries. in_range s ≡ true)
    (record { same = λ s entries later room good. fed_is_run s entries room good; kept = λ s entries later room good. fed_in_range s entries _ good }) r [] calls h

-- and they keep the record in range, with its held key.
record Same (held : Held) (s : Record) : Type 0 where
  good : in_range s ≡ true
  key : s.held ≡ held

calls_same : (r : Record) (calls : List Call) → in_range r ≡ true → Same r.held (in_calls fed_back r calls).state
calls_same r calls h =
    session_keeps (ran_of fed_back) (Same r.held)
    (λ s entries room k. record { good = fed_in_range s entries _ k.good; key = fed_held s entries _ k.good ∙ k.key })
    r [] calls (record { good = h; key = refl })

-- EVERY RECORD IN RANGE has bytes that its open frame stands for.
pub stands_for_bytes : (r : Record) → in_range r ≡ true → (before : List ℕ) × Stands (state_of r).frame before
stands_for_bytes r h = stands_for_some (state_of r).frame (state_in_range r h).frame

-- THE STREAM CALL MEETS DEMAND 3.
module _ (r : Record) (before : List ℕ) (h : in_range r ≡ true) (stands : Stands (state_of r).frame before) where
  theory : Demand3 handset (run handset)
  theory = demand3 handset

  module _ (bytes lent : List ℕ) where
    abbrev back : HandedBack
    back = fed_back r bytes lent

    abbrev ran : Ran (State Core)
    ran = run handset (state_of r) bytes (length lent)

    is_run : back ≡ ran_back r.held ran lent
    is_run = back_is_run r bytes lent h

    used : back.used ≡ ran.used
    used = ap (λ (b : HandedBack). b.used) is_run

    parts_in_order : {parted : Parted} → Parting (before ++ take back.used bytes) parted → back ≡ parts_taken r parted back.used lent
    parts_in_order {parted} p =
        let taken = theory.in_order (state_of r) bytes (length lent) stands (subst (λ (n : ℕ). Parting (before ++ take n bytes) parted) used p) in
        is_run ∙ (λ j. record { after = record_of r.held (taken j).state; used = sym used j; written = length (taken j).answers; buffer = written_over (taken j).answers lent })

    stops_there : {parted : Parted} → Parting (before ++ take (suc back.used) bytes) parted → (back.used ≡ length bytes) ⊎ (length lent < length (taken_from r parted).answers)
    stops_there {parted} p =
        subst (λ (n : ℕ). (n ≡ length bytes) ⊎ (length lent < length (taken_from r parted).answers)) (sym used)
        (theory.stops (state_of r) bytes (length lent) stands (subst (λ (n : ℕ). Parting (before ++ take (suc n) bytes) parted) used p))

  module _ (calls : List Call) where
    abbrev shown : Session (State Core) ℕ
    shown = record { state = state_of (in_calls fed_back r calls).state; unused = (in_calls fed_back r calls).unused; answers = (in_calls fed_back r calls).answers }

    unused : (in_calls fed_back r calls).unused ≡ (session (run handset) (state_of r) [] calls).unused
    unused = ap (λ (s : Session (State Core) ℕ). s.unused) (calls_shown r calls h)

    cut_anywhere : {parted : Parted} → Parting (before ++ offered calls) parted → (in_calls fed_back r calls).unused ≡ [] → taken_in (in_calls fed_back r calls) ≡ taken_from r parted
    cut_anywhere {parted} p none =
        let end : taken_in shown ≡ taking handset (core_of r) parted = ap taken_in (calls_shown r calls h) ∙ theory.anywhere (state_of r) calls stands p (sym unused ∙ none) in
        let kept = calls_same r calls h in
        λ j. record {
          state = shown_back (in_calls fed_back r calls).state r.held (taking handset (core_of r) parted).state kept.good kept.key (ap (λ (t : Taken (State Core)). t.state) end) j;
          answers = (end j).answers;
        }

  rest_taken : (calls : List Call) (last : Call) {waiting : List ℕ} {parted : Parted}
      → (let s = in_calls fed_back r calls in
      Stands (state_of s.state).frame waiting → Parting (waiting ++ (s.unused ++ last.entries)) parted → length (taken_from s.state parted).answers ≤ last.room
      → (in_calls fed_back r (calls ++ last ∷ [])).unused ≡ [])
  rest_taken calls last {waiting} {parted} stood p room =
      unused (calls ++ last ∷ [])
      ∙ subst
      (λ (s : Session (State Core) ℕ).
      Stands s.state.frame waiting → Parting (waiting ++ (s.unused ++ last.entries)) parted → length (taking handset s.state.core parted).answers ≤ last.room
      → (session (run handset) (state_of r) [] (calls ++ last ∷ [])).unused ≡ [])
      (sym (calls_shown r calls h)) (theory.none_left (state_of r) calls last) stood p room

  pub feed_demand3 : FeedDemand3 fed_back r before
  feed_demand3 =
      record {
        one_parting = λ bytes. exactly_one bytes stands;
        in_order = λ bytes lent p. parts_in_order bytes lent p;
        within = λ bytes lent. subst (λ (n : ℕ). n ≤ length bytes) (sym (used bytes lent)) (theory.within (state_of r) bytes (length lent));
        fits = λ bytes lent. subst (λ (b : HandedBack). b.written ≤ length lent) (sym (is_run bytes lent)) (theory.fits (state_of r) bytes (length lent));
        stops = λ bytes lent p. stops_there bytes lent p;
        anywhere = λ calls p none. cut_anywhere calls p none;
        none_left = λ calls last stood p room. rest_taken calls last stood p room;
      }

  -- AND NOTHING ELSE DOES: whatever meets the statement hands back this record, these counts and this buffer.
  pub feed_demand3_fixes : (call : Calling) → FeedDemand3 call r before → (bytes lent : List ℕ) → call r bytes lent ≡ fed_back r bytes lent
  feed_demand3_fixes call demand bytes lent =
      let used = (call r bytes lent).used in
      let now = exactly_one (take used bytes) stands in
      let next = exactly_one (take (suc used) bytes) stands in
      let told = demand.in_order bytes lent now.parting in
      let taken = taking handset (core_of r) now.parted in
      let one : Stops (step handset) (state_of r) bytes (length lent) (record { state = taken.state; used = used; answers = taken.answers }) =
      record {
        within = demand.within bytes lent;
        does = sym (stream handset (state_of r) _ stands now.parting);
        fits = subst (λ (b : HandedBack). b.written ≤ length lent) told (demand.fits bytes lent);
        stops = rw (stream handset (state_of r) _ stands next.parting) (demand.stops bytes lent next.parting);
      }
      in
      told ∙ ap (λ (ran : Ran (State Core)). ran_back r.held ran lent) (only_one (step handset) one (run_stops (step handset) (state_of r) bytes (length lent)))
      ∙ sym (back_is_run r bytes lent h)
