-- A log cut elsewhere changes nothing. Assumes nothing.
use Rattle.std.specs.Prelude.{ℕ, zero, suc, ◌≤◌, ◌≡◌, refl, Bool, true, length, drop}
use Rattle.std.proofs.Common.{sym, ap, ◌∙◌, subst}
use mathlib.Core.List.{List, [], ◌∷◌, ◌++◌, map, zip_with}
use Rattle.std.proofs.lemmas.List.{length-map}
use Rattle.lists.specs.Both.{both, and_both}
use Rattle.lists.specs.Every.{every}
use Rattle.record.specs.declared.Record.{Record}
use Rattle.record.specs.Number.{numbered}
use Rattle.record.specs.Range.{in_range}
use Rattle.turns.specs.Taking.{reading}
use Rattle.turns.specs.Room.{Ran, run}
use Rattle.turns.proofs.Room.{run_keeps}
use Rattle.turns.specs.Calls.{Call, offered, Session, session, taken_in, sessions_alike}
use Rattle.turns.proofs.Calls.{offered_append, calls_end_as_one}
use Rattle.key_entry.specs.Rules.{Entry}
use Rattle.key_log.specs.Steps.{listed_in, step_in}
use Rattle.key_log.specs.Log.{entries, Outcome, outcome}
use Rattle.key_log.specs.Laws.{ends_with_0, step_stays}
use Rattle.key_log.specs.Ranges.{step_in_range}

-- the two slices that hold a list of entries
abbrev pub ticks_of : List Entry → List ℕ
ticks_of log = map (λ (e : Entry). e.tick) log

abbrev pub edges_of : List Entry → List ℕ
edges_of log = map (λ (e : Entry). e.edge) log

-- the call on a list of entries
abbrev pub logged : Record → List Entry → ℕ → Outcome
logged r log room = outcome r (ticks_of log) (edges_of log) room

-- what it has done
abbrev pub logged_ran : Record → List Entry → ℕ → Ran Record
logged_ran r log room = (logged r log room).ran

-- calls in order, each offered what the one before left, then its own entries
abbrev pub logging : Record → List Entry → List (Call Entry) → Session Record Entry
logging = session logged_ran

-- Two slices made of a list of entries hold that list.
pub same_entries : (log : List Entry) → entries (ticks_of log) (edges_of log) ≡ log
unfolding zip_with
same_entries [] = refl
same_entries (e ∷ log) = ap (λ (t : List Entry). e ∷ t) (same_entries log)

-- A listed log from a record in range is taken by the rules of its edition.
pub logged_runs : (r : Record) (log : List Entry) (room : ℕ) → in_range r ≡ true → every (listed_in r.edition.sister) (edges_of log) ≡ true
    → logged r log room ≡ record { number = numbered 0; ran = run step_in r log room }
logged_runs r log room good all =
    ends_with_0 r (ticks_of log) (edges_of log) room good (length-map log (λ (e : Entry). e.tick) ∙ sym (length-map log (λ (e : Entry). e.edge))) all
    ∙ ap (λ (t : List Entry). record { number = numbered 0; ran = run step_in r t room }) (same_entries log)

module _ (listed : ℕ → Bool) where
  -- The edges of two logs together are listed where those of each are.
  listed_front : (log more : List Entry) → every listed (edges_of (log ++ more)) ≡ true → every listed (edges_of log) ≡ true
  listed_front [] more h = refl
  listed_front (e ∷ log) more h =
      let parts = both {a = listed e.edge} {b = every listed (edges_of (log ++ more))} h in
      and_both {a = listed e.edge} parts.0 (listed_front log more parts.1)

  listed_back : (log more : List Entry) (n : ℕ) → every listed (edges_of (log ++ more)) ≡ true → every listed (edges_of (drop n log ++ more)) ≡ true
  listed_back log more zero h = h
  listed_back [] more (suc n) h = h
  listed_back (e ∷ log) more (suc n) h =
      listed_back log more n (both {a = listed e.edge} {b = every listed (edges_of (log ++ more))} h).1

-- a record in range, and entries listed in its edition still to come
pub record Ready (r : Record) (log : List Entry) : Type 0 where
  pub good : in_range r ≡ true
  pub all : every (listed_in r.edition.sister) (edges_of log) ≡ true

-- After a call what is still to come is listed in the edition that is left, which is the same.
still_listed : (r : Record) (log later : List Entry) (room : ℕ) → every (listed_in r.edition.sister) (edges_of (log ++ later)) ≡ true
    → (let ran = run step_in r log room in every (listed_in ran.state.edition.sister) (edges_of (drop ran.used log ++ later)) ≡ true)
still_listed r log later room all =
    let ran = run step_in r log room in
    let stays = run_keeps step_in (λ (s : Record). s.edition.sister ≡ r.edition.sister) (λ s e same. (step_stays s e).1 ∙ same) r log room refl in
    subst (λ (b : Bool). every (listed_in b) (edges_of (drop ran.used log ++ later)) ≡ true) (sym stays)
    (listed_back (listed_in r.edition.sister) log later ran.used all)

-- Calls on listed logs are calls of the rules.
pub logging_calls : (r : Record) (unused : List Entry) (calls : List (Call Entry)) → in_range r ≡ true
    → every (listed_in r.edition.sister) (edges_of (unused ++ offered calls)) ≡ true
    → logging r unused calls ≡ session (run step_in) r unused calls
logging_calls r unused calls good all =
    sessions_alike (λ (s : Record). s) logged_ran (run step_in) Ready
    (record {
      same = same;
      kept = λ s log later room ready. subst (λ (ran : Ran Record). Ready ran.state (drop ran.used log ++ later)) (sym (same s log later room ready))
          (record { good = run_keeps step_in (λ (t : Record). in_range t ≡ true) step_in_range s log room ready.good; all = still_listed s log later room ready.all });
    })
    r unused calls (record { good = good; all = all })
  where
    same : (s : Record) (log later : List Entry) (room : ℕ) → Ready s (log ++ later) → logged_ran s log room ≡ run step_in s log room
    same s log later room ready =
        ap (λ (o : Outcome). o.ran) (logged_runs s log room ready.good (listed_front (listed_in s.edition.sister) log later ready.all))

-- A LOG CUT ELSEWHERE CHANGES NOTHING: from a record in range, calls on listed entries, the last of them with room for what is still
-- to be sent, leave the record and send the codes or messages of one reading of all entries.
pub log_cuts : (r : Record) (calls : List (Call Entry)) (last : Call Entry) → in_range r ≡ true
    → every (listed_in r.edition.sister) (edges_of (offered (calls ++ last ∷ []))) ≡ true
    → length (reading step_in (logging r [] calls).state ((logging r [] calls).unused ++ last.entries)).answers ≤ last.room
    → taken_in (logging r [] (calls ++ last ∷ [])) ≡ reading step_in r (offered (calls ++ last ∷ []))
log_cuts r calls last good all room =
    let test : ℕ → Bool = listed_in r.edition.sister in
    let apart : every test (edges_of (offered calls ++ offered (last ∷ []))) ≡ true
    = ap (λ (t : List Entry). every test (edges_of t)) (sym (offered_append calls (last ∷ []))) ∙ all in
    let first : logging r [] calls ≡ session (run step_in) r [] calls
    = logging_calls r [] calls good (listed_front test (offered calls) (offered (last ∷ [])) apart) in
    ap taken_in (logging_calls r [] (calls ++ last ∷ []) good all)
    ∙ calls_end_as_one step_in r calls last
    (subst (λ (s : Session Record Entry). length (reading step_in s.state (s.unused ++ last.entries)).answers ≤ last.room) first room)
