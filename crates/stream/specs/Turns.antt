-- The turns of the reader's loop: what each kind of byte does to the state that the loop's locals stand for. Assumes nothing.
use Rattle.std.specs.Prelude.{ℕ, ◌+◌, ◌-◌, ◌*◌, ◌≤◌, ◌<◌, ◌≡◌, refl, Bool, true, false, cond, ◌&&◌, List, [], ◌∷◌, ◌++◌, eqb, ltb, leb, length, take, set, get_or, replicate}
use Rattle.std.proofs.Common.{arith, add-one, sym, ap, ◌∙◌, subst, true≢false, length-set, take-suc-set, length-take-le, eqb-true, eq-eqb, ne_eqb, lt-ltb, le-ltb, ltb-true, leb-true, leb-false}
use Rattle.std.proofs.Math.Option.{Option, none, some}
use Rattle.std.proofs.lemmas.Bool.{eqb-false}
use Rattle.lists.specs.Tests.{by_test}
use Rattle.lists.specs.Codes.{escape, carriage_return, blank}
use Rattle.lists.specs.Padded.{padded}
use Rattle.record.specs.declared.Settings.{Settings}
use Rattle.record.specs.declared.Edition.{Edition}
use Rattle.record.specs.declared.Held.{Held}
use Rattle.record.specs.declared.Frame.{Frame as KeptFrame}
use Rattle.lists.specs.Both.{both}
use Rattle.record.specs.Parts.{together}
use Rattle.record.specs.Range.{large, rows_of, row_end_of, line_start, row_start_of}
use Rattle.record.specs.With.{with_screen, with_column}
use Rattle.parting.specs.Rules.{Frame, no_frame, open_frame, overlong, limit}
use Rattle.parting.specs.Meaning.{State}
use Rattle.parting.specs.Reading.{step, step_opens, step_stores, step_skips, step_abandons, step_closes, step_ends_overlong, step_collects, step_overflows, step_waits}
use Rattle.parting.specs.Room.{Ran, run}
use Rattle.turns.specs.Loop
use Rattle.turns.proofs.Loop as LoopLaws
use Rattle.turns.specs.Loop.{Account, still}
use Rattle.turns.specs.Begins.{begins_with}
use Rattle.effect.specs.declared.Obeyed.{Obeyed}
use Rattle.record.specs.Core.{Core}
use Rattle.effect.specs.Effect.{store_text}
use Rattle.command.specs.Order.{Order}
use Rattle.command.specs.Reading.{order_found}
use Rattle.command.specs.Table.{classes, next_states}
use Rattle.command.proofs.Found.{order_by_lem}
use Rattle.answer.specs.Answers.{is_silence, fits, count_after, buffer_after}
use Rattle.answer.specs.Laws.{answer_not_empty}
use Rattle.answer.specs.declared.Answer.{Answer}
use Rattle.answer.specs.declared.Answer.TheVariants.{Silence, QuestionMark, Contrast, Hook, Version}
use Rattle.effect.specs.Obey.{answer_to, core, Obeys}
use Rattle.effect.specs.Questions.{answered_same}
use Rattle.effect.specs.Keeps.{CoreInRange, store_keeps}
use Rattle.sister_answer.specs.Told.{told_bytes, is_silence as untold}
use Rattle.sister_answer.specs.Laws as told
use Rattle.sister_command.specs.Order.{AnyOrder}
use Rattle.sister_command.specs.Order as order
use Rattle.sister_command.specs.Reading.{as_first, order_in, read_in, own_found, is_own}
use Rattle.sister_command.proofs.Own.{own_found_lem, shared_found}
use Rattle.sister_command.proofs.Agree.{agree_in}
use Rattle.sister_effect.specs.declared.SisterObeyed.{SisterObeyed}
use Rattle.sister_effect.specs.Obey.{obey_any, answers_to, told_to, mark_of, SisterObeys}
use Rattle.sister_effect.specs.Questions.{told_same, answers_told, shared_silent, obeys_first, answers_first}
use Rattle.sister_effect.specs.Keeps.{frame_keeps}
use Rattle.stream_places.specs.Places.{emptied, emptied_of}
use Rattle.stream.specs.declared.AfterBytes.{AfterBytes}
use Rattle.stream.specs.Stream.{handset, kept_frame, frame_in, InRow, column_after, text_after, collecting, standing, record_of, quietly, saying, answer_from, Fits, Closes, closes_own, reply_of, SharedCloses, OwnCloses, Reads}

-- the frame that the locals show
shows_no_frame : (state len : ℕ) (bs : List ℕ) → state ≡ 0 → frame_in state len bs ≡ no_frame
unfolding frame_in
shows_no_frame state len bs e = rw e

shows_open : (state len : ℕ) (bs : List ℕ) → state ≡ 1 → frame_in state len bs ≡ open_frame (take len bs)
unfolding frame_in
shows_open state len bs e = rw e

shows_long : (state len : ℕ) (bs : List ℕ) → (state ≡ 0 → ⊥) → (state ≡ 1 → ⊥) → frame_in state len bs ≡ overlong
unfolding frame_in
shows_long state len bs n m = rw (ne_eqb state 0 n, ne_eqb state 1 m)

shows_new : (len : ℕ) (bs : List ℕ) → len ≡ 0 → frame_in 1 len bs ≡ open_frame []
shows_new len bs e = shows_open 1 len bs refl ∙ ap (λ (k : ℕ). open_frame (take k bs)) e

-- a result whose frame is shown by other locals
in_silence : (c : Core) {f g : Frame} → f ≡ g → quietly (record { core = c; frame = f }) ≡ quietly (record { core = c; frame = g })
in_silence c e = ap (λ (x : Frame). quietly (record { core = c; frame = x })) e

answered : (answer : List ℕ) (c : Core) {f g : Frame} → f ≡ g → saying answer (record { core = c; frame = f }) ≡ saying answer (record { core = c; frame = g })
answered answer c e = ap (λ (x : Frame). saying answer (record { core = c; frame = x })) e

shows_some : (state len : ℕ) (bs : List ℕ) → (state ≡ 0 → ⊥) → frame_in state len bs ≡ no_frame → ⊥
unfolding frame_in
shows_some state len bs n = rw (ne_eqb state 0 n) (go (eqb state 1))
  where
    go : (x : Bool) → cond x (open_frame (take len bs)) overlong ≡ no_frame → ⊥
    go true e = let z : ◌≡◌ {A = ℕ} 0 1 = cc in omega arith
    go false e = let z : ◌≡◌ {A = ℕ} 0 1 = cc in omega arith

-- a text byte changes the column and the text
stored : (p : Settings) (t g : List ℕ) (ed : Edition) (b : ℕ)
    → store_text (core p t g ed) b ≡ core (with_screen p (with_column p.screen (column_after (row_end_of p.screen.mode) p.screen.column))) (text_after (row_end_of p.screen.mode) t (row_start_of p.screen.mode p.screen.row) p.screen.column b) g ed
unfolding store_text
stored p t g ed b = go (ltb p.screen.column (row_end_of p.screen.mode)) refl
  where
    go : (x : Bool) → ltb p.screen.column (row_end_of p.screen.mode) ≡ x
        → store_text (core p t g ed) b ≡ core (with_screen p (with_column p.screen (column_after (row_end_of p.screen.mode) p.screen.column))) (text_after (row_end_of p.screen.mode) t (row_start_of p.screen.mode p.screen.row) p.screen.column b) g ed
    go true e = rw e
    go false e = rw e

-- silence says nothing
silence_says : (answer : Answer) (p : Settings) → is_silence answer ≡ true → answer_from p answer ≡ []
silence_says Silence p h = refl
silence_says QuestionMark p h = absurd (true≢false (sym h))
silence_says Contrast p h = absurd (true≢false (sym h))
silence_says Hook p h = absurd (true≢false (sym h))
silence_says Version p h = absurd (true≢false (sym h))

pub reply_not_empty : (sister : Bool) (contrast : ℕ) (hook : Bool) (answer : Answer) → is_silence answer ≡ false → 1 ≤ length (reply_of sister answer contrast hook)
reply_not_empty true contrast hook answer h = omega arith
reply_not_empty false contrast hook answer h = answer_not_empty contrast hook answer h

pub mark_not_empty : (sister : Bool) → 1 ≤ length (mark_of sister)
mark_not_empty true = omega arith
mark_not_empty false = omega arith

shows_collecting : (state len : ℕ) (bs : List ℕ) → (state ≡ 0 → ⊥) → frame_in state len bs ≡ collecting state (take len bs)
unfolding frame_in
shows_collecting state len bs n = rw (ne_eqb state 0 n)

-- CR in a frame ---------------------------------------------------------------------------------------------------

module _ (c : Core) (state : ℕ) (body : List ℕ) where
  abbrev in_frame : State Core
  in_frame = record { core = c; frame = collecting state body }

  -- of an overlong one
  pub closes_long : (answer : List ℕ) → mark_of c.edition.sister ≡ answer → (state ≡ 1 → ⊥) → Closes c state body false answer c
  closes_long answer mark n =
      record {
        quiet = λ x. absurd (true≢false (sym x));
        loud = λ x. step_ends_overlong handset in_frame carriage_return (rw (ne_eqb state 1 n)) refl ∙ ap (λ (a : List ℕ). saying a (record { core = c; frame = no_frame })) mark;
        keeps = λ x. refl;
        range = λ x. x;
      }

  -- of a whole one
  abbrev found : Option AnyOrder
  found = order_in c.edition.sister body

  pub closes_whole : (silent : Bool) (answer : List ℕ) (after : Core) → state ≡ 1 → after ≡ obey_any c found → (silent ≡ true → answers_to c found ≡ []) → (silent ≡ false → answers_to c found ≡ answer) → (silent ≡ false → c ≡ after)
      → Closes c state body silent answer after
  closes_whole silent answer after e same nothing says keeps =
      let closing : step handset in_frame carriage_return ≡ saying (answers_to c found) (record { core = after; frame = no_frame }) =
      step_closes handset in_frame carriage_return body (rw e) refl ∙ (λ j. record { state = record { core = sym same j; frame = no_frame }; answers = answers_to c found })
      in
      record {
        quiet = λ x. closing ∙ ap (λ (a : List ℕ). saying a (record { core = after; frame = no_frame })) (nothing x);
        loud = λ x. closing ∙ ap (λ (a : List ℕ). saying a (record { core = after; frame = no_frame })) (says x);
        keeps = keeps;
        range = λ k. subst CoreInRange (sym same) (frame_keeps c body k);
      }

-- what is found in a frame that is none of the sister's own, and what it is answered
found_in : (sister : Bool) {class next : List ℕ} (body : List ℕ) → class ≡ classes → next ≡ next_states → (sister && is_own body) ≡ false → order_in sister body ≡ as_first (order_found (read_in sister class next body) body)
found_in true body p q h = shared_found body h
found_in false body p q h = ap as_first (sym (order_by_lem body p q))

shared_quiet : (c : Core) (found : Option Order) → is_silence (answer_to found) ≡ true → answers_to c (as_first found) ≡ []
shared_quiet c none h = absurd (true≢false (sym h))
shared_quiet c (some o) h = silence_says (answer_to (some o)) c.settings h

shared_loud : (sister : Bool) (c : Core) → c.edition.sister ≡ sister → (body : List ℕ) (found : Option Order) → order_in sister body ≡ as_first found → is_silence (answer_to found) ≡ false
    → answers_to c (as_first found) ≡ reply_of sister (answer_to found) c.settings.contrast c.settings.hook
shared_loud true c e body none f h = ap mark_of e
shared_loud true c e body (some o) f h = absurd (true≢false (sym (ap is_silence (shared_silent o ((agree_in true (order.first o) body).0 f))) ∙ h))
shared_loud false c e body found f h = answers_first c e found

mark_reply : (sister : Bool) (contrast : ℕ) (hook : Bool) → mark_of sister ≡ reply_of sister QuestionMark contrast hook
mark_reply true contrast hook = refl
mark_reply false contrast hook = refl

module _ (p : Settings) (t g : List ℕ) (ed : Edition) (state : ℕ) (body : List ℕ) where
  pub shared_long : (state ≡ 1 → ⊥) → SharedCloses p t g ed state body (record { settings = p; answer = QuestionMark }) t g
  shared_long n = closes_long (core p t g ed) state body _ (mark_reply ed.sister p.contrast p.hook) n

  module _ {class next : List ℕ} {sister : Bool} (a : class ≡ classes) (b : next ≡ next_states) (same : ed.sister ≡ sister) (others : closes_own state sister body ≡ false) where
    pub shared_whole : (o : Obeyed) (t' g' : List ℕ) → state ≡ 1 → Obeys (order_found (read_in sister class next body) body) (core p t g ed) o (core o.settings t' g' ed) → SharedCloses p t g ed state body o t' g'
    shared_whole o t' g' e q =
        closes_whole (core p t g ed) state body (is_silence o.answer) (reply_of ed.sister o.answer o.settings.contrast o.settings.hook) (core o.settings t' g' ed) e
        (q.same ∙ sym (obeys_first (core p t g ed) read) ∙ ap (obey_any (core p t g ed)) (sym by_found))
        (λ x. ap (answers_to (core p t g ed)) by_found ∙ shared_quiet (core p t g ed) read (ap is_silence (sym q.answer) ∙ x))
        (λ x. ap (answers_to (core p t g ed)) by_found ∙ shared_loud sister (core p t g ed) same body read is_found (ap is_silence (sym q.answer) ∙ x)
        ∙ (λ j. reply_of (sym same j) (sym q.answer j) p.contrast p.hook)
        ∙ ap (λ (c : Core). reply_of ed.sister o.answer c.settings.contrast c.settings.hook) (same_core' x))
        same_core'
      where
        read : Option Order
        read = order_found (read_in sister class next body) body

        is_found : order_in sister body ≡ as_first read
        is_found = found_in sister body a b (rw (eq-eqb state 1 e) at others)

        by_found : order_in ed.sister body ≡ as_first read
        by_found = ap (λ (s : Bool). order_in s body) same ∙ is_found

        same_core' : is_silence o.answer ≡ false → core p t g ed ≡ core o.settings t' g' ed
        same_core' x = sym (q.same ∙ answered_same (core p t g ed) read (ap is_silence (sym q.answer) ∙ x))

  -- a command of the sister's own
  module _ (own : closes_own state ed.sister body ≡ true) where
    pub own_closes : (o : SisterObeyed) (t' g' : List ℕ) → SisterObeys (own_found body) (core p t g ed) o (core o.settings t' g' o.edition) → OwnCloses p t g ed state body o t' g'
    own_closes o t' g' q =
        closes_whole (core p t g ed) state body (untold o.told) (told_bytes o.told) (core o.settings t' g' o.edition) is_open
        (q.same ∙ ap (obey_any (core p t g ed)) (sym by_own))
        (λ x. says ∙ told.silence_says o.told x) (λ x. says)
        (λ x. sym (q.same ∙ told_same (core p t g ed) (own_found body) (ap untold (sym q.told) ∙ x)))
      where
        hers : ((eqb state 1 && ed.sister) ≡ true) × (is_own body ≡ true)
        hers = both {a = eqb state 1 && ed.sister} own

        is_open : state ≡ 1
        is_open = eqb-true state 1 (both {a = eqb state 1} hers.0).0

        sister : ed.sister ≡ true
        sister = (both {a = eqb state 1} hers.0).1

        by_own : order_in ed.sister body ≡ own_found body
        by_own = ap (λ (s : Bool). order_in s body) sister ∙ own_found_lem body hers.1

        says : answers_to (core p t g ed) (order_in ed.sister body) ≡ told_bytes o.told
        says =
            ap (λ (s : Bool). answers_to (core p t g ed) (order_in s body)) sister ∙ answers_told (core p t g ed) body sister
            ∙ ap (λ (x : Option AnyOrder). told_bytes (told_to (core p t g ed) x)) (own_found_lem body hers.1) ∙ ap told_bytes (sym q.told)

-- A turn -------------------------------------------------------------------------------------------------------------

module _ (p : Settings) (t g : List ℕ) (ed : Edition) (state len : ℕ) (fr : List ℕ) (b : ℕ) where
  abbrev here : State Core
  here = standing p t g ed state len fr

  -- no frame open
  pub turn_text : (next : ℕ) (t' : List ℕ) → state ≡ 0 → blank ≤ b → next ≡ column_after (row_end_of p.screen.mode) p.screen.column → t' ≡ text_after (row_end_of p.screen.mode) t (row_start_of p.screen.mode p.screen.row) p.screen.column b
      → step handset (standing p t g ed state len fr) b ≡ quietly (standing (with_screen p (with_column p.screen next)) t' g ed state len fr)
  turn_text next t' e h x y =
      step_stores handset here b (shows_no_frame state len fr e) h
      ∙ ap (λ (c : Core). quietly (record { core = c; frame = frame_in state len fr })) (stored p t g ed b ∙ (λ j. core (with_screen p (with_column p.screen (sym x j))) (sym y j) g ed))

  pub turn_open : state ≡ 0 → len ≡ 0 → b ≡ escape → step handset (standing p t g ed state len fr) b ≡ quietly (standing p t g ed 1 len fr)
  turn_open e z h = step_opens handset here b (shows_no_frame state len fr e) h ∙ in_silence (core p t g ed) (sym (shows_new len fr z))

  pub turn_skip : state ≡ 0 → b < blank → (b ≡ escape → ⊥) → step handset (standing p t g ed state len fr) b ≡ quietly (standing p t g ed state len fr)
  turn_skip e l n = step_skips handset here b (shows_no_frame state len fr e) l n

  -- ESC in a frame
  pub loud_esc : (state ≡ 0 → ⊥) → b ≡ escape → step handset (standing p t g ed state len fr) b ≡ saying (mark_of ed.sister) (standing p t g ed 1 0 fr)
  loud_esc n h = step_abandons handset here b (shows_some state len fr n) h ∙ answered (mark_of ed.sister) (core p t g ed) (sym (shows_new 0 fr refl))

  -- CR in a frame
  module _ {silent : Bool} {answer : List ℕ} {p' : Settings} {t' g' : List ℕ} {ed' : Edition} (n : state ≡ 0 → ⊥) (e : b ≡ carriage_return) (k : Closes (core p t g ed) state (take len fr) silent answer (core p' t' g' ed')) where
    ended : step handset (standing p t g ed state len fr) b ≡ step handset (record { core = core p t g ed; frame = collecting state (take len fr) }) carriage_return
    ended = λ j. step handset (record { core = core p t g ed; frame = shows_collecting state len fr n j }) (e j)

    pub turn_quiet : silent ≡ true → step handset (standing p t g ed state len fr) b ≡ quietly (standing p' t' g' ed' 0 0 fr)
    turn_quiet x = ended ∙ k.quiet x ∙ in_silence (core p' t' g' ed') (sym (shows_no_frame 0 0 fr refl))

    pub loud_return : silent ≡ false → step handset (standing p t g ed state len fr) b ≡ saying answer (standing p' t' g' ed' 0 0 fr)
    loud_return x = ended ∙ k.loud x ∙ answered answer (core p' t' g' ed') (sym (shows_no_frame 0 0 fr refl))

  -- any other byte in a frame
  pub turn_collect : Fits state len fr → state ≡ 1 → (b ≡ escape → ⊥) → (b ≡ carriage_return → ⊥) → len < limit → step handset (standing p t g ed state len fr) b ≡ quietly (standing p t g ed state (len + 1) (set fr len b))
  turn_collect k e n m l =
      let taken : take (len + 1) (set fr len b) ≡ take len fr ++ b ∷ [] = ap (λ (x : ℕ). take x (set fr len b)) (add-one len) ∙ take-suc-set fr len b (omega (arith, k.full)) in
      step_collects handset here b (take len fr) (shows_open state len fr e) (record { not_escape = n; not_return = m }) (omega (arith, length-take-le len fr (omega (arith, k.full, l))))
      ∙ in_silence (core p t g ed) (ap open_frame (sym taken) ∙ sym (shows_open state (len + 1) (set fr len b) e))

  pub turn_over : Fits state len fr → state ≡ 1 → (b ≡ escape → ⊥) → (b ≡ carriage_return → ⊥) → limit ≤ len → step handset (standing p t g ed state len fr) b ≡ quietly (standing p t g ed 2 0 fr)
  turn_over k e n m l =
      step_overflows handset here b (take len fr) (shows_open state len fr e) (record { not_escape = n; not_return = m }) (omega (arith, length-take-le len fr (omega (arith, k.full, k.short))))
      ∙ in_silence (core p t g ed) (sym (shows_long 2 0 fr (λ x. omega arith) (λ x. omega arith)))

  pub turn_lost : state ≡ 2 → (b ≡ escape → ⊥) → (b ≡ carriage_return → ⊥) → step handset (standing p t g ed state len fr) b ≡ quietly (standing p t g ed state len fr)
  turn_lost e n m = step_waits handset here b (shows_long state len fr (λ x. omega arith) (λ x. omega arith)) (record { not_escape = n; not_return = m })

-- the places of the frame after each turn
pub fits_none : (state : ℕ) (bs : List ℕ) → state ≤ 2 → length bs ≡ limit → Fits state 0 bs
fits_none state bs k f = record { known = k; short = omega arith; none = λ n. refl; full = f }

pub fits_more : {state len : ℕ} {bs : List ℕ} (b : ℕ) → state ≡ 1 → Fits state len bs → len < limit → Fits state (len + 1) (set bs len b)
fits_more {state} {len} {bs} b e k l = record { known = k.known; short = omega arith; none = λ n. absurd (n e); full = length-set bs len b ∙ k.full }

pub fits_open : {state len : ℕ} {bs : List ℕ} → len ≡ 0 → Fits state len bs → Fits 1 len bs
fits_open {state} {len} {bs} z k = record { known = omega arith; short = k.short; none = λ n. z; full = k.full }

-- the record put together is the code of the state
pub coded : (state len : ℕ) (bs : List ℕ) → Fits state len bs → record { state = state; len = len; bytes = emptied bs len } ≡ kept_frame (frame_in state len bs)
unfolding padded
coded state len bs k = ap (λ (x : List ℕ). record { state = state; len = len; bytes = x }) (emptied_of bs len k.full) ∙ go (eqb state 0) (eqb state 1) refl refl
  where
    empty : (n : ℕ) → state ≡ n → len ≡ 0 → ◌≡◌ {A = KeptFrame} (record { state = state; len = len; bytes = take len bs ++ replicate (limit - len) 0 }) (record { state = n; len = 0; bytes = padded limit [] })
    empty n e z = λ j. record { state = e j; len = z j; bytes = take (z j) bs ++ replicate (limit - z j) 0 }

    full : state ≡ 1 → ◌≡◌ {A = KeptFrame} (record { state = state; len = len; bytes = take len bs ++ replicate (limit - len) 0 }) (kept_frame (open_frame (take len bs)))
    full e = let q : len ≡ length (take len bs) = sym (length-take-le len bs (omega (arith, k.full, k.short))) in λ j. record { state = e j; len = q j; bytes = take len bs ++ replicate (limit - q j) 0 }

    go : (x y : Bool) → eqb state 0 ≡ x → eqb state 1 ≡ y → ◌≡◌ {A = KeptFrame} (record { state = state; len = len; bytes = take len bs ++ replicate (limit - len) 0 }) (kept_frame (frame_in state len bs))
    go x true e f = full (eqb-true state 1 f) ∙ ap kept_frame (sym (shows_open state len bs (eqb-true state 1 f)))
    go true false e f = empty 0 (eqb-true state 0 e) (k.none (eqb-false state 1 f)) ∙ ap kept_frame (sym (shows_no_frame state len bs (eqb-true state 0 e)))
    go false false e f =
        let n = eqb-false state 0 e in
        let m = eqb-false state 1 f in
        let two : state ≡ 2 = omega (arith, k.known) in
        empty 2 two (k.none m) ∙ ap kept_frame (sym (shows_long state len bs n m))

-- what the loop leaves, its frame's unused places emptied, is the record of the run
pub put_together : {start : State Core} {bytes before : List ℕ} {done : AfterBytes} {t g fr after : List ℕ} (held : Held) → Reads start bytes before done t g fr after
    → together (record { settings = done.settings; held = held; state = done.state; len = done.len; edition = done.edition }) t g (emptied fr done.len) ≡ record_of held (run handset start bytes (length before)).state
put_together {done = done} {t = t} {g = g} {fr = fr} held k =
    ap (λ (y : KeptFrame). record { settings = done.settings; text = t; picture = g; held = held; frame = y; edition = done.edition }) (coded done.state done.len fr k.fits) ∙ ap (record_of held) k.account.state

-- what holds at the head of the loop: the loop's account so far, and the locals in their ranges
pub record Going (bytes before : List ℕ) (s : State Core) (answers : List ℕ) (p : Settings) (t g : List ℕ) (ed : Edition) (state len : ℕ) (fr : List ℕ) (i w : ℕ) : Type 0 where
  pub account : Loop.Going (step handset) s bytes before (standing p t g ed state len fr) i w answers
  pub range : CoreInRange (core p t g ed)
  pub fits : Fits state len fr

module _ {bytes before : List ℕ} {s : State Core} {answers : List ℕ} {p : Settings} {t g : List ℕ} {ed : Edition} {state len : ℕ} {fr : List ℕ} {i w : ℕ} (k : Going bytes before s answers p t g ed state len fr i w) (h : i < length bytes) where
  pub go_quiet : {p' : Settings} {t' g' : List ℕ} {ed' : Edition} {state' len' : ℕ} {fr' : List ℕ} → CoreInRange (core p' t' g' ed') → Fits state' len' fr' → step handset (standing p t g ed state len fr) (get_or bytes i 0) ≡ quietly (standing p' t' g' ed' state' len' fr')
      → Going bytes before s answers p' t' g' ed' state' len' fr' (i + 1) w
  go_quiet x y e = record { account = LoopLaws.go_quiet (step handset) k.account (begins_with bytes i 0 h) _ e; range = x; fits = y }

  -- an answer is written whole, and the count says so,
  pub go_loud : {p' : Settings} {t' g' : List ℕ} {ed' : Edition} {state' len' : ℕ} {fr' : List ℕ} {w' : ℕ} {answers' answer : List ℕ} → CoreInRange (core p' t' g' ed') → Fits state' len' fr' → step handset (standing p t g ed state len fr) (get_or bytes i 0) ≡ saying answer (standing p' t' g' ed' state' len' fr')
      → w' ≡ count_after answers w answer → answers' ≡ buffer_after answers w answer → w < w' → Going bytes before s answers' p' t' g' ed' state' len' fr' (i + 1) w'
  go_loud {p'} {t'} {g'} {ed'} {state'} {len'} {fr'} {w'} {answers'} {answer} x y e m n more =
      by_test (fits answers w answer)
      (λ room.
      let there : w + length answer ≤ length answers = leb-true (w + length answer) (length answers) room in
      rw (m, n, room) (record { account = LoopLaws.go_on (step handset) k.account (begins_with bytes i 0 h) _ e (omega arith); range = x; fits = y }))
      (λ full. let same : w' ≡ w = m ∙ rw full in absurd (omega arith))

  -- or not at all, and the call stops
  pub go_halt : {v : State Core} {w' : ℕ} {answers' answer : List ℕ} → step handset (standing p t g ed state len fr) (get_or bytes i 0) ≡ saying answer v → 1 ≤ length answer
      → w' ≡ count_after answers w answer → answers' ≡ buffer_after answers w answer → w' ≤ w → Account (run handset s bytes (length before)) before (still (standing p t g ed state len fr) i w answers')
  go_halt {v} {w'} {answers'} {answer} e not_None m n less =
      by_test (fits answers w answer)
      (λ room. let more : w' ≡ w + length answer = m ∙ rw room in absurd (omega arith))
      (λ full.
      let short : length answers < w + length answer = leb-false (w + length answer) (length answers) full in
      rw (n, full) (LoopLaws.go_stop (step handset) k.account (begins_with bytes i 0 h) (saying answer v) e (omega (arith, k.account.room))))

-- the same account, of a core that other locals hold
pub same_core : {ran : Ran Core} {before : List ℕ} {x y : Core} {f : Frame} {i w : ℕ} {after : List ℕ} → x ≡ y
    → Account ran before (still (record { core = x; frame = f }) i w after) → Account ran before (still (record { core = y; frame = f }) i w after)
same_core {ran} {before} {f} {i} {w} {after} e a = subst (λ (c : Core). Account ran before (still (record { core = c; frame = f }) i w after)) e a

-- the core stays in range
pub range_stored : (p : Settings) (t g : List ℕ) (ed : Edition) (b next : ℕ) (t' : List ℕ) → blank ≤ b → next ≡ column_after (row_end_of p.screen.mode) p.screen.column → t' ≡ text_after (row_end_of p.screen.mode) t (row_start_of p.screen.mode p.screen.row) p.screen.column b
    → CoreInRange (core p t g ed) → CoreInRange (core (with_screen p (with_column p.screen next)) t' g ed)
range_stored p t g ed b next t' h x y k = rw (x, y, ← stored p t g ed b) (store_keeps (core p t g ed) b k h)

-- a row's codes lie within the text
row_fits : (mode row : ℕ) → ltb row (rows_of mode) ≡ true → row_start_of mode row + row_end_of mode ≤ line_start + 24
row_fits mode row = cases (leb mode 1) (eqb mode large)
  where
    cases : (few line : Bool) → ltb row (cond few 4 (cond line 1 5)) ≡ true → cond line line_start (row * 16) + cond line 24 16 ≤ line_start + 24
    cases few true h = omega arith
    cases true false h = omega (arith, ltb-true row 4 h)
    cases false false h = omega (arith, ltb-true row 5 h)

-- the cursor of a core in range is at a place of the text, or at the end of its row
pub in_place : {p : Settings} {t g : List ℕ} {ed : Edition} → CoreInRange (core p t g ed) → InRow (row_start_of p.screen.mode p.screen.row) p.screen.column (row_end_of p.screen.mode)
in_place {p} k =
    let e = both {a = ltb p.screen.row (rows_of p.screen.mode)} k.settings.screen.cursor in
    record { within = leb-true p.screen.column (row_end_of p.screen.mode) e.1; kept = row_fits p.screen.mode p.screen.row e.0 }

-- A run of text bytes in a row that begins at `start` and ends at `end`: wherever the loop stood before it, it stands after it ---------------

pub record Stores (start end column : ℕ) (t bytes : List ℕ) (from at next : ℕ) (t' : List ℕ) : Type 0 where
  pub inside : at ≤ length bytes
  pub small : next ≤ end
  pub goes : {before : List ℕ} {s : State Core} {answers : List ℕ} {p : Settings} {g : List ℕ} {ed : Edition} {state len : ℕ} {fr : List ℕ} {w : ℕ} → state ≡ 0 → row_start_of p.screen.mode p.screen.row ≡ start → row_end_of p.screen.mode ≡ end → p.screen.column ≡ column
      → Going bytes before s answers p t g ed state len fr from w → Going bytes before s answers (with_screen p (with_column p.screen next)) t' g ed state len fr at w

pub stores_none : (start end column : ℕ) (t bytes : List ℕ) (from : ℕ) → from ≤ length bytes → column ≤ end → Stores start end column t bytes from from column t
stores_none start end column t bytes from l k =
    record {
      inside = l;
      small = k;
      goes = λ {before} {s} {answers} {p} {g} {ed} {state} {len} {fr} {w} e r m c going.
          subst (λ (n : ℕ). Going bytes before s answers (with_screen p (with_column p.screen n)) t g ed state len fr from w) c going;
    }

pub stores_more : {start end column : ℕ} {t bytes : List ℕ} {from at next : ℕ} {t' : List ℕ} (next' : ℕ) (t'' : List ℕ) → Stores start end column t bytes from at next t' → at < length bytes → blank ≤ get_or bytes at 0 → next' ≤ end
    → next' ≡ column_after end next → t'' ≡ text_after end t' start next (get_or bytes at 0) → Stores start end column t bytes from (at + 1) next' t''
stores_more {start} {end} {column} {t} {bytes} {from} {at} {next} {t'} next' t'' k l h small x y =
    record {
      inside = omega arith;
      small = small;
      goes = λ {before} {s} {answers} {p} {g} {ed} {state} {len} {fr} {w} e r m c going.
          let on = k.goes e r m c going in
          let v : next' ≡ column_after (row_end_of p.screen.mode) next = x ∙ (λ j. column_after (sym m j) next) in
          let z : t'' ≡ text_after (row_end_of p.screen.mode) t' (row_start_of p.screen.mode p.screen.row) next (get_or bytes at 0) = y ∙ (λ j. text_after (sym m j) t' (sym r j) next (get_or bytes at 0)) in
          let q : Settings = with_screen p (with_column p.screen next) in
          go_quiet on l (range_stored q t' g ed (get_or bytes at 0) next' t'' h v z on.range) on.fits (turn_text q t' g ed state len fr (get_or bytes at 0) next' t'' e h v z);
    }

pub stores_first : {start end column : ℕ} {t bytes : List ℕ} {from : ℕ} (next : ℕ) (t' : List ℕ) → InRow start column end × (from < length bytes) × (blank ≤ get_or bytes from 0) → (next ≡ column_after end column) × (next ≤ end) × (t' ≡ text_after end t start column (get_or bytes from 0))
    → Stores start end column t bytes from (from + 1) next t'
stores_first {start} {end} {column} {t} {bytes} {from} next t' (k, l, h) (x, small, y) = stores_more next t' (stores_none start end column t bytes from (omega arith) k.within) l h small x y

pub stores_one : {start end column : ℕ} {t bytes : List ℕ} {from at next : ℕ} {t' : List ℕ} {at' next' place : ℕ} → Stores start end column t bytes from at next t' → at < length bytes → blank ≤ get_or bytes at 0 → next < end
    → at' ≡ at + 1 → next' ≡ next + 1 → place ≡ start + next → Stores start end column t bytes from at' next' (set t' place (get_or bytes at 0))
stores_one {start} {end} {column} {t} {bytes} {from} {at} {next} {t'} k l h room x y z =
    rw (x, y, z) (stores_more (next + 1) (set t' (start + next) (get_or bytes at 0)) k l h (omega arith) (rw (lt-ltb next end room)) (rw (lt-ltb next end room)))

pub stores_dropped : {start end column : ℕ} {t bytes : List ℕ} {from at next : ℕ} {t' : List ℕ} → Stores start end column t bytes from at next t' → at < length bytes → blank ≤ get_or bytes at 0 → end ≤ next → Stores start end column t bytes from (at + 1) next t'
stores_dropped {end = end} {next = next} {t' = t'} k l h full = stores_more next t' k l h k.small (rw (le-ltb next end full)) (rw (le-ltb next end full))

pub stores_on : {start end column : ℕ} {t bytes : List ℕ} {from mid at between next : ℕ} {t' t'' : List ℕ} → Stores start end column t bytes from mid between t' → Stores start end between t' bytes mid at next t'' → Stores start end column t bytes from at next t''
stores_on first rest = record { inside = rest.inside; small = rest.small; goes = λ e r m c going. rest.goes e r m refl (first.goes e r m c going) }

-- a text byte finds a place in its row, or none
-- a run of text bytes ends where the bytes do, or before a byte that is none
abbrev pub Ends : List ℕ → ℕ → Type 0
Ends bytes at = at < length bytes → get_or bytes at 0 < blank

-- a run of text bytes that find no place, whatever row it is that is full
pub record Drops (bytes : List ℕ) (from at : ℕ) : Type 0 where
  pub onward : from ≤ at
  pub stores : {start end column : ℕ} {t : List ℕ} → column ≤ end → end ≤ column → Stores start end column t bytes from at column t

pub drops_none : (bytes : List ℕ) (from : ℕ) → from ≤ length bytes → Drops bytes from from
drops_none bytes from l = record { onward = omega arith; stores = λ {start} {end} {column} {t} small full. stores_none start end column t bytes from l small }

pub drops_more : {bytes : List ℕ} {from at : ℕ} → Drops bytes from at → at < length bytes → blank ≤ get_or bytes at 0 → Drops bytes from (at + 1)
drops_more k l h = record { onward = omega arith; stores = λ small full. stores_dropped (k.stores small full) l h full }

-- what holds at a place and not where the run begins: that place is further on
pub past_first : (Q : ℕ → Type 0) {from at : ℕ} → from ≤ at → (Q from → ⊥) → Q at → from < at
past_first Q {from} {at} l n q =
    by_test (eqb at from)
    (λ e. absurd (n (subst Q (eqb-true at from e) q)))
    (λ e. let m = eqb-false at from e in omega arith)

-- A run of bytes of an open frame: wherever the loop stood before it, it stands after it -------------------------------------------------

pub record Collects (len : ℕ) (fr bytes : List ℕ) (from at len' : ℕ) (fr' : List ℕ) : Type 0 where
  pub inside : at ≤ length bytes
  pub short : len' ≤ limit
  pub full : length fr' ≡ limit
  pub goes : {before : List ℕ} {s : State Core} {answers : List ℕ} {p : Settings} {t g : List ℕ} {ed : Edition} {state w : ℕ} → state ≡ 1 → Going bytes before s answers p t g ed state len fr from w → Going bytes before s answers p t g ed state len' fr' at w

pub collects_none : (len : ℕ) (fr bytes : List ℕ) (from : ℕ) → from ≤ length bytes → len ≤ limit → length fr ≡ limit → Collects len fr bytes from from len fr
collects_none len fr bytes from l k f = record { inside = l; short = k; full = f; goes = λ e going. going }

pub collects_more : {len : ℕ} {fr bytes : List ℕ} {from at next : ℕ} {fr' : List ℕ} {at' next' : ℕ} → Collects len fr bytes from at next fr' → at < length bytes → next < limit → (get_or bytes at 0 ≡ escape → ⊥) → (get_or bytes at 0 ≡ carriage_return → ⊥)
    → at' ≡ at + 1 → next' ≡ next + 1 → Collects len fr bytes from at' next' (set fr' next (get_or bytes at 0))
collects_more {bytes = bytes} {at = at} {next = next} {fr' = fr'} k l room n m x y =
    rw (x, y) (record {
      inside = omega arith;
      short = omega arith;
      full = length-set fr' next (get_or bytes at 0) ∙ k.full;
      goes = λ {before} {s} {answers} {p} {t} {g} {ed} {state} {w} e going.
          let on = k.goes e going in
          go_quiet on l on.range (fits_more (get_or bytes at 0) e on.fits room) (turn_collect p t g ed state next fr' (get_or bytes at 0) on.fits e n m room);
    })
