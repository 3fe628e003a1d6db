-- THE ANSWER SAYS WHAT THE RULES SAY, and no other answer does: `decides` and `only`, at the foot of this page. What is broken from a
-- place on is described as Rules.antt describes it for the whole stream, and taken apart part by part as Choice.antt computes.
-- Assumes nothing.
use Rattle.std.specs.Prelude.{ℕ, zero, suc, ◌+◌, ◌≤◌, ◌<◌, ◌≡◌, Bool, true, false, not, cond, ◌&&◌, ◌||◌, ◌⊎◌, eqb, length, Result, Ok, Err, ⊤}
use Rattle.std.specs.Result.{result_and}
use Rattle.std.proofs.Common.{zero-add, arith, sym, ap, ◌∙◌, subst, true≢false, length-append}
use Rattle.std.proofs.Math.Path.{refl}
use mathlib.Core.List.Memᴰ
use mathlib.Core.List.{List, [], ◌∷◌, ◌++◌, Memᴰ}
use Rattle.std.proofs.Math.Logic.{inl, inr, ⊎_elim}
use Rattle.std.proofs.Math.Option.{Option, none, some}
use Rattle.lists.specs.Tests.{either_way}
use Rattle.command.specs.Order.{Order, plain, label, draw}
use Rattle.command.specs.Kind.{same_kind}
use Rattle.command.specs.Reading.{order_of}
use Rattle.command.specs.declared.Command.{Command}
use Rattle.command.specs.declared.Command.TheVariants.{Mode, LabelsEmpty}
use Rattle.command.specs.declared.Side.{Side}
use Rattle.command.specs.declared.Side.TheVariants.{Left, Right}
use Rattle.parting.specs.Rules.{Part, text, skipped, closed, abandoned, bytes_of, Parted, done, unfinished, then, Parting, ends, waits, goes_on, Placed, places, tail_place}
use Rattle.parting.specs.Cut.{outside, cut}
use Rattle.parting.proofs.Cut.{exists, only_cut}
use Rattle.parts.specs.Laws.{some_bytes, tail_of}
use Rattle.choice.specs.declared.Since.{Since}
use Rattle.choice.specs.declared.Sign.{Sign}
use Rattle.choice.specs.declared.Sign.TheVariants.{Asked, Other}
use Rattle.choice.specs.declared.BrokenRule.{BrokenRule}
use Rattle.choice.specs.declared.Rule.{Rule}
use Rattle.choice.specs.declared.Rule.TheVariants.{NoScreen, LabelMissing, QuestionMark, FrameOpen}
use Rattle.choice.specs.Signs.{command_sign, label_sign, frame_sign, part_sign, first_opens, opens_choice, asks_labels, is_check, left_after, right_after}
use Rattle.choice.specs.Rules.{sign_at, until_check, from_check, left_stands, right_stands, wanted_at, Broken, no_screen, label_missing, question_mark, frame_open, Told, rule_number, Says}
use Rattle.choice.specs.Choice.{calm, after, wanted, broken_by, answer_of, judged_from, judged_all, choice_of}

-- ANSWERS, of anything that can be broken at offsets -----------------------------------------------------------------------

-- a fault that does not stand behind the other one
abbrev NotBehind : ℕ → ℕ → ℕ → ℕ → Type 0
NotBehind offset rule other rule' = (offset < other) ⊎ ((offset ≡ other) × (rule ≤ rule'))

-- the rule of a result at this place, and no other; of one that is fine there is none
abbrev Is : Result ⊤ Rule → ℕ → ℕ → ℕ → Type 0
Is (Ok fine) at offset rule = ⊥
Is (Err broken) at offset rule = (at ≡ offset) × (rule_number broken ≡ rule)

-- What breaks alike is told alike.
told_alike : {P Q : ℕ → ℕ → Type 0} → ((o r : ℕ) → P o r → Q o r) → ((o r : ℕ) → Q o r → P o r) → (c : Result ⊤ BrokenRule) → Told P c → Told Q c
told_alike to from (Ok fine) t = λ o r q. t o r (from o r q)
told_alike to from (Err first) t = record { here = to _ _ t.here; least = λ o r q. t.least o r (from o r q) }

-- Where nothing but a rule at a place is broken, that is told.
told_itself : (broken : Result ⊤ Rule) (at : ℕ) → Told (Is broken at) (answer_of broken at)
told_itself (Ok fine) at = λ o r i. i
told_itself (Err rule) at = record { here = (refl, refl); least = λ o r i. inr (i.0, omega (arith, i.1)) }

-- A rule is known by its number.
abbrev rule_of : ℕ → Rule
rule_of n = cond (eqb n 1) NoScreen (cond (eqb n 2) LabelMissing (cond (eqb n 3) QuestionMark FrameOpen))

numbered : (rule : Rule) → rule_of (rule_number rule) ≡ rule
numbered NoScreen = refl
numbered LabelMissing = refl
numbered QuestionMark = refl
numbered FrameOpen = refl

-- Two that both tell it are the same.
told_once : (P : ℕ → ℕ → Type 0) (c d : Result ⊤ BrokenRule) → Told P c → Told P d → c ≡ d
told_once P (Ok fine) (Ok fine') t u = refl
told_once P (Ok fine) (Err first) t u = absurd (t first.offset (rule_number first.rule) u.here)
told_once P (Err first) (Ok fine) t u = absurd (u first.offset (rule_number first.rule) t.here)
told_once P (Err a) (Err b) t u = same (t.least b.offset (rule_number b.rule) u.here) (u.least a.offset (rule_number a.rule) t.here)
  where
    joined : (rule_number a.rule ≡ rule_number b.rule) → a.offset ≡ b.offset → ◌≡◌ {A = Result ⊤ BrokenRule} (Err a) (Err b)
    joined n o = let rule : a.rule ≡ b.rule = sym (numbered a.rule) ∙ ap rule_of n ∙ numbered b.rule in λ j. Err (record { rule = rule j; offset = o j })

    same : NotBehind a.offset (rule_number a.rule) b.offset (rule_number b.rule) → NotBehind b.offset (rule_number b.rule) a.offset (rule_number a.rule)
        → ◌≡◌ {A = Result ⊤ BrokenRule} (Err a) (Err b)
    same (inl l) (inl m) = absurd (omega arith)
    same (inl l) (inr m) = absurd (omega arith)
    same (inr l) (inl m) = absurd (omega arith)
    same (inr l) (inr m) = joined (omega arith) (omega arith)

-- WHAT IS BROKEN FROM A PLACE ON, behind the first part --------------------------------------------------------------------

-- Labels are asked for, they do not both stand, and they are wanted at this place.
abbrev Due : Since → ℕ → ℕ → Type 0
Due s at offset = (s.asks ≡ true) × ((s.left && s.right) ≡ false) × (at ≡ offset)

-- the same when these parts have come, up to the next check
abbrev Owed : Since → ℕ → List Placed → ℕ → Type 0
Owed s end ms offset =
    (s.asks ≡ true) × ((left_stands s.left (until_check ms) && right_stands s.right (until_check ms)) ≡ false) × (wanted_at end (from_check ms) ≡ offset)

-- an IDn has just asked for labels, or for none
abbrev anew : Bool → Since
anew asks = record { asks = asks; left = false; right = false }

-- an IDn among these parts asks for labels that are missing later
data AskedIn (end : ℕ) (ms : List Placed) (offset : ℕ) : Type 0 where
  asked_in : (between : List Placed) (screen : Placed) (later : List Placed) → ms ≡ between ++ screen ∷ later
      → Owed (anew (asks_labels (sign_at screen))) end later offset → AskedIn end ms offset

-- so rule 2 is broken by what was asked for before these parts, or by one of them
abbrev Missing : Since → ℕ → List Placed → ℕ → Type 0
Missing s end ms offset = Owed s end ms offset ⊎ AskedIn end ms offset

-- the breaks of the rest of a stream, which begins at a place
data BrokenFrom (s : Since) (end at : ℕ) (parted : Parted) (offset rule : ℕ) : Type 0 where
  label_wanted : Missing s end (places at parted) offset → 2 ≡ rule → BrokenFrom s end at parted offset rule
  mark_given : (placed : Placed) → Memᴰ placed (places at parted) → sign_at placed ≡ Asked → placed.place ≡ offset → 3 ≡ rule
      → BrokenFrom s end at parted offset rule
  tail_open : (body : List ℕ) → tail_of parted ≡ unfinished body → tail_place at parted ≡ offset → 4 ≡ rule → BrokenFrom s end at parted offset rule

-- What an answer wants at a place is what is due there,
due_is_wanted : (s : Since) (at offset rule : ℕ) → Due s at offset → 2 ≡ rule → Is (wanted s) at offset rule
due_is_wanted s at offset rule d e = rw (d.0, d.1) (d.2, e)

-- and nothing else.
wanted_is_due : (s : Since) (at offset rule : ℕ) → Is (wanted s) at offset rule → Due s at offset × (2 ≡ rule)
wanted_is_due s at offset rule i = go s.asks (s.left && s.right) i
  where
    go : (asks both : Bool) → Is (cond (not asks || both) (Ok tt) (Err LabelMissing)) at offset rule
        → ((asks ≡ true) × (both ≡ false) × (at ≡ offset)) × (2 ≡ rule)
    go true true i = absurd i
    go true false i = ((refl, refl, i.0), i.1)
    go false both i = absurd i

-- WHAT A PART DOES ---------------------------------------------------------------------------------------------------------

-- labels come and go, and what is asked for stays
abbrev relabelled : Since → Sign → Since
relabelled s sign = record { asks = s.asks; left = left_after s.left sign; right = right_after s.right sign }

-- A part checks the labels, and asks anew; or it passes, and may be answered by a question mark.
data Role (sign : Sign) : Type 0 where
  checks : is_check sign ≡ true → ((s : Since) → after s sign ≡ anew (asks_labels sign)) → ((s : Since) → broken_by s sign ≡ wanted s) → Role sign
  passes : is_check sign ≡ false → asks_labels sign ≡ false → ((s : Since) → after s sign ≡ relabelled s sign)
      → (sign ≡ Asked) ⊎ ((s : Since) → broken_by s sign ≡ Ok tt) → Role sign

asked : Role Asked
asked = passes refl refl (λ s. refl) (inl refl)

other : Role Other
other = passes refl refl (λ s. refl) (inr (λ s. refl))

-- so does each part, by its sign
command_role : (c : Command) → Role (command_sign c)
command_role c =
    either_way Role (same_kind c (Mode 0)) (λ e. checks refl (λ s. refl) (λ s. refl))
    (λ e. either_way Role (same_kind c LabelsEmpty) (λ f. passes refl refl (λ s. refl) (inr (λ s. refl))) (λ f. other))

label_role : (side : Side) (codes : Bool) → Role (label_sign side codes)
label_role Left codes = passes refl refl (λ s. refl) (inr (λ s. refl))
label_role Right codes = passes refl refl (λ s. refl) (inr (λ s. refl))

frame_role : (order : Option Order) → Role (frame_sign order)
frame_role none = asked
frame_role (some (plain c)) = command_role c
frame_role (some (label side t)) = label_role side _
frame_role (some (draw row columns)) = other

part_role : (part : Part) → Role (part_sign part)
part_role (text b) = checks refl (λ s. refl) (λ s. refl)
part_role (skipped b) = other
part_role (closed body) = frame_role (order_of body)
part_role (abandoned body) = asked

-- Rule 2 over a part and those behind it -------------------------------------------------------------------------------------

module _ (end offset : ℕ) (p : Placed) (ms : List Placed) where
  -- what is owed is due at a part that checks, and owed on behind one that passes
  owed_due : (s : Since) → is_check (sign_at p) ≡ true → Owed s end (p ∷ ms) offset → Due s p.place offset
  owed_due s c w = rw c at w

  due_owed : (s : Since) → is_check (sign_at p) ≡ true → Due s p.place offset → Owed s end (p ∷ ms) offset
  due_owed s c d = rw c d

  owed_on : (s : Since) → is_check (sign_at p) ≡ false → Owed s end (p ∷ ms) offset → Owed (relabelled s (sign_at p)) end ms offset
  owed_on s c w = rw c at w

  owed_back : (s : Since) → is_check (sign_at p) ≡ false → Owed (relabelled s (sign_at p)) end ms offset → Owed s end (p ∷ ms) offset
  owed_back s c w = rw c w

  -- the IDn that asks is the first of these parts, or stands behind it
  asked_on : AskedIn end (p ∷ ms) offset → Missing (anew (asks_labels (sign_at p))) end ms offset
  asked_on (asked_in [] screen later e w) =
      let head : p ≡ screen = cc in
      let tail : ms ≡ later = cc in
      inl (rw (head, tail) w)
  asked_on (asked_in (q ∷ between) screen later e w) = let tail : ms ≡ between ++ screen ∷ later = cc in inr (asked_in between screen later tail w)

  asked_back : Missing (anew (asks_labels (sign_at p))) end ms offset → AskedIn end (p ∷ ms) offset
  asked_back (inl w) = asked_in [] p ms refl w
  asked_back (inr (asked_in between screen later e w)) = asked_in (p ∷ between) screen later (ap (λ (l : List Placed). p ∷ l) e) w

  -- so rule 2 is broken at the first part, or from behind it on,
  missing_on : (s : Since) → Role (sign_at p) → Missing s end (p ∷ ms) offset
      → Is (broken_by s (sign_at p)) p.place offset 2 ⊎ Missing (after s (sign_at p)) end ms offset
  missing_on s (checks c a b) (inl w) = inl (rw (b s) (due_is_wanted s p.place offset 2 (owed_due s c w) refl))
  missing_on s (checks c a b) (inr w) = inr (rw (a s) (asked_on w))
  missing_on s (passes c n a m) (inl w) = inr (rw (a s) (inl (owed_on s c w)))
  missing_on s (passes c n a m) (inr w) = inr (⊎_elim (λ o. absurd (true≢false (sym o.0 ∙ n))) inr (asked_on w))

  -- and the other way round
  missing_back : (s : Since) → Role (sign_at p) → Missing (after s (sign_at p)) end ms offset → Missing s end (p ∷ ms) offset
  missing_back s (checks c a b) w = inr (asked_back (rw (a s) at w))
  missing_back s (passes c n a m) (inl w) = inl (owed_back s c (rw (a s) at w))
  missing_back s (passes c n a m) (inr w) = inr (asked_back (inr w))

-- All rules over a part ------------------------------------------------------------------------------------------------------

-- where a part ends and the next begins
abbrev end_of : ℕ → Part → ℕ
end_of at part = at + length (bytes_of part)

abbrev placed_at : ℕ → Part → Placed
placed_at at part = record { place = at; part = part }

-- what a part itself breaks
abbrev here : Since → Part → Result ⊤ Rule
here s part = broken_by s (part_sign part)

module _ (s : Since) (end at : ℕ) (part : Part) (parted : Parted) where
  abbrev Whole : ℕ → ℕ → Type 0
  Whole = BrokenFrom s end at (then part parted)

  abbrev Behind : ℕ → ℕ → Type 0
  Behind = BrokenFrom (after s (part_sign part)) end (end_of at part) parted

  -- what is broken is broken here or behind,
  here_or_behind : (offset rule : ℕ) → Whole offset rule → Is (here s part) at offset rule ⊎ Behind offset rule
  unfolding places tail_place
  here_or_behind offset rule (label_wanted m e) =
      ⊎_elim (λ i. inl (rw (← e) i)) (λ later. inr (label_wanted later e)) (missing_on end offset (placed_at at part) (places (end_of at part) parted) s (part_role part) m)
  here_or_behind offset rule (mark_given placed (Memᴰ.head same) a o e) =
      inl (rw (sym (ap sign_at same) ∙ a) (ap (λ (q : Placed). q.place) (sym same) ∙ o, e))
  here_or_behind offset rule (mark_given placed (Memᴰ.tail m) a o e) = inr (mark_given placed m a o e)
  here_or_behind offset rule (tail_open body t o e) = inr (tail_open body t o e)

  -- what is broken behind is broken in the whole,
  behind_whole : (offset rule : ℕ) → Behind offset rule → Whole offset rule
  unfolding places tail_place
  behind_whole offset rule (label_wanted m e) =
      label_wanted (missing_back end offset (placed_at at part) (places (end_of at part) parted) s (part_role part) m) e
  behind_whole offset rule (mark_given placed m a o e) = mark_given placed (Memᴰ.tail m) a o e
  behind_whole offset rule (tail_open body t o e) = tail_open body t o e

  -- and what is broken here too, at this place
  here_whole : (offset rule : ℕ) → Is (here s part) at offset rule → Whole offset rule × (at ≡ offset)
  unfolding places
  here_whole offset rule i = go (part_role part)
    where
      go : Role (part_sign part) → Whole offset rule × (at ≡ offset)
      go (checks c a b) =
          let w = wanted_is_due s at offset rule (rw (b s) at i) in
          (label_wanted (inl (due_owed end offset (placed_at at part) (places (end_of at part) parted) s c w.0)) w.1, w.0.2)
      go (passes c n a (inl e)) = let j = rw e at i in (mark_given (placed_at at part) (Memᴰ.head refl) e j.0 j.1, j.0)
      go (passes c n a (inr none-broken)) = absurd (rw (none-broken s) at i)

-- PART BY PART ---------------------------------------------------------------------------------------------------------------

-- What is broken here or behind is told by the rule that is broken here, and if there is none by what is told behind.
told_first : {P Q : ℕ → ℕ → Type 0} (at : ℕ) (broken : Result ⊤ Rule) (later : Result ⊤ BrokenRule) → ((o r : ℕ) → Is broken at o r → P o r × (at ≡ o))
    → ((o r : ℕ) → Q o r → P o r) → ((o r : ℕ) → P o r → Is broken at o r ⊎ Q o r) → ((o r : ℕ) → Q o r → at < o) → Told Q later
    → Told P (result_and (answer_of broken at) later)
told_first at (Ok fine) later here behind split further t = told_alike behind (λ o r p. ⊎_elim (λ i. absurd i) (λ q. q) (split o r p)) later t
told_first at (Err rule) later here behind split further t =
    record {
      here = (here at (rule_number rule) (refl, refl)).0;
      least = λ o r p. ⊎_elim (λ i. inr (i.0, omega (arith, i.1))) (λ q. inl (omega (arith, further o r q))) (split o r p);
    }

-- where the rest of the stream begins at a place: the answer that is computed tells what is broken there, and nothing is broken before it
record Judged (s : Since) (end at : ℕ) (parted : Parted) : Type 0 where
  told : Told (BrokenFrom s end at parted) (judged_from s at parted)
  within : (offset rule : ℕ) → BrokenFrom s end at parted offset rule → at ≤ offset

-- at the stream's end, where no part comes any more: labels are missing only at the end
missing_at_end : (s : Since) (end offset : ℕ) → Missing s end [] offset → Due s end offset
missing_at_end s end offset (inl d) = d
missing_at_end s end offset (inr (asked_in between screen later e w)) = absurd (omega (arith, ap length e, length-append between (screen ∷ later)))

judged_end : (s : Since) (at : ℕ) → Judged s at at done
unfolding places tail_place judged_from
judged_end s at =
    record {
      told = told_alike to from (answer_of (wanted s) at) (told_itself (wanted s) at);
      within = λ o r b. omega (arith, wanted_is_due s at o r (from o r b));
    }
  where
    to : (offset rule : ℕ) → Is (wanted s) at offset rule → BrokenFrom s at at done offset rule
    to offset rule i = let w = wanted_is_due s at offset rule i in label_wanted (inl w.0) w.1

    from : (offset rule : ℕ) → BrokenFrom s at at done offset rule → Is (wanted s) at offset rule
    from offset rule (label_wanted m e) = due_is_wanted s at offset rule (missing_at_end s at offset m) e
    from offset rule (mark_given placed m a o e) = absurd (Memᴰ.not-nil m)
    from offset rule (tail_open body t o e) = absurd (let z : ◌≡◌ {A = ℕ} 0 1 = cc in omega arith)

-- at a tail, which comes before the stream's end
judged_tail : (s : Since) (end at : ℕ) (body : List ℕ) → at < end → Judged s end at (unfinished body)
unfolding places tail_place judged_from
judged_tail s end at body before =
    record {
      told = record { here = tail_open body refl refl refl; least = first };
      within = λ o r b. ⊎_elim (λ l. omega arith) (λ l. omega arith) (first o r b);
    }
  where
    first : (offset rule : ℕ) → BrokenFrom s end at (unfinished body) offset rule → NotBehind at 4 offset rule
    first offset rule (label_wanted m e) = inl (omega (arith, missing_at_end s end offset m))
    first offset rule (mark_given placed m a o e) = absurd (Memᴰ.not-nil m)
    first offset rule (tail_open other-body t o e) = inr (o, omega arith)

-- at a part, from what is judged behind it
judged_part : (s : Since) (end at : ℕ) (part : Part) (parted : Parted) → Judged (after s (part_sign part)) end (end_of at part) parted
    → Judged s end at (then part parted)
unfolding judged_from
judged_part s end at part parted next =
    record {
      told = told_first at (here s part) _ from_here (behind_whole s end at part parted) split further next.told;
      within = λ o r b. ⊎_elim (λ i. omega (arith, (from_here o r i).1)) (λ q. omega (arith, further o r q)) (split o r b);
    }
  where
    from_here : (o r : ℕ) → Is (here s part) at o r → Whole s end at part parted o r × (at ≡ o)
    from_here = here_whole s end at part parted

    split : (o r : ℕ) → Whole s end at part parted o r → Is (here s part) at o r ⊎ Behind s end at part parted o r
    split = here_or_behind s end at part parted

    further : (o r : ℕ) → Behind s end at part parted o r → at < o
    further o r q = omega (arith, next.within o r q, some_bytes part)

-- from any place on, in any state
judged : {stream : List ℕ} {parted : Parted} → Parting stream parted → (s : Since) (end at : ℕ) → at + length stream ≡ end → Judged s end at parted
judged ends s end at e = let at_end : at ≡ end = omega arith in subst (λ (n : ℕ). Judged s n at done) at_end (judged_end s at)
judged (waits {body} h) s end at e = judged_tail s end at body (omega arith)
judged (goes_on {part} {rest} {parted} l f p) s end at e =
    judged_part s end at part parted (judged p (after s (part_sign part)) end (end_of at part) (omega (arith, length-append (bytes_of part) rest)))

-- THE WHOLE STREAM -----------------------------------------------------------------------------------------------------------

-- Nothing comes before rule 1 at offset 0.
some_rule : {stream : List ℕ} {parted : Parted} {offset rule : ℕ} → Broken stream parted offset rule → 1 ≤ rule
some_rule (no_screen e) = omega arith
some_rule (label_missing first between screen later e a b) = omega arith
some_rule (question_mark placed m a) = omega arith
some_rule (frame_open body t) = omega arith

first_of_all : (offset rule : ℕ) → 1 ≤ rule → NotBehind 0 1 offset rule
first_of_all zero rule l = inr (refl, l)
first_of_all (suc offset) rule l = inl (omega arith)

no_screen_first : {stream : List ℕ} {parted : Parted} → first_opens parted ≡ false → Says stream parted (answer_of (Err NoScreen) 0)
no_screen_first e = record { here = no_screen e; least = λ offset rule b. first_of_all offset rule (some_rule b) }

-- Where the first part is ID0 or ID5, what is broken is what is broken behind it.
module _ (stream : List ℕ) (part : Part) (parted : Parted) (opens : opens_choice (part_sign part) ≡ true) where
  abbrev Rest : ℕ → ℕ → Type 0
  Rest = BrokenFrom calm (length stream) (end_of 0 part) parted

  not_asked : (placed : Placed) → placed.part ≡ part → sign_at placed ≡ Asked → ⊥
  not_asked placed same a = true≢false (sym opens ∙ ap (λ (q : Part). opens_choice (part_sign q)) (sym same) ∙ ap opens_choice a)

  stream_rest : (offset rule : ℕ) → Broken stream (then part parted) offset rule → Rest offset rule
  unfolding places tail_place
  stream_rest _ _ (no_screen e) = absurd (true≢false (sym opens ∙ e))
  stream_rest _ _ (label_missing first between screen later e a b) =
      let behind : places (end_of 0 part) parted ≡ between ++ screen ∷ later = cc in
      label_wanted (inr (asked_in between screen later behind (a, b, refl))) refl
  stream_rest _ _ (question_mark placed (Memᴰ.head same) a) = absurd (not_asked placed (ap (λ (q : Placed). q.part) same) a)
  stream_rest _ _ (question_mark placed (Memᴰ.tail m) a) = mark_given placed m a refl refl
  stream_rest _ _ (frame_open body t) = tail_open body t refl refl

  rest_stream : (offset rule : ℕ) → Rest offset rule → Broken stream (then part parted) offset rule
  unfolding places tail_place
  rest_stream offset rule (label_wanted (inl w) e) = absurd (true≢false (sym w.0))
  rest_stream offset rule (label_wanted (inr (asked_in between screen later behind w)) e) =
      rw (← e, ← w.2) (label_missing (placed_at 0 part) between screen later (ap (λ (l : List Placed). placed_at 0 part ∷ l) behind) w.0 w.1)
  rest_stream offset rule (mark_given placed m a o e) = rw (← e, ← o) (question_mark placed (Memᴰ.tail m) a)
  rest_stream offset rule (tail_open body t o e) = rw (← e, ← o) (frame_open body t)

  opened : Judged calm (length stream) (end_of 0 part) parted → Says stream (then part parted) (judged_from calm (end_of 0 part) parted)
  opened j =
      told_alike rest_stream stream_rest (judged_from calm (end_of 0 part) parted) j.told

-- The answer on a parting says what the rules say of it.
judged_all_lem : {stream : List ℕ} {parted : Parted} → Parting stream parted → Says stream parted (judged_all parted)
judged_all_lem ends = no_screen_first refl
judged_all_lem (waits h) = no_screen_first refl
judged_all_lem (goes_on {part} {rest} {parted} l f p) =
    either_way (Says (bytes_of part ++ rest) (then part parted)) (opens_choice (part_sign part))
    (λ opens. rw zero-add at (opened (bytes_of part ++ rest) part parted opens (judged p calm _ _ (omega (arith, length-append (bytes_of part) rest)))))
    (λ shut. no_screen_first shut)

-- THE ANSWER SAYS WHAT THE RULES SAY of the stream's parting, whichever parting that is,
pub decides : {stream : List ℕ} {parted : Parted} → Parting stream parted → Says stream parted (choice_of stream)
unfolding choice_of
decides {stream} {parted} p = subst (λ (q : Parted). Says stream parted (judged_all q)) (only_cut p) (judged_all_lem p)

-- AND NO OTHER ANSWER DOES.
pub only : {stream : List ℕ} {parted : Parted} → Parting stream parted → (c : Result ⊤ BrokenRule) → Says stream parted c → c ≡ choice_of stream
only {stream} {parted} p c s = told_once (Broken stream parted) c (choice_of stream) s (decides p)

-- The same of the computed parting, which every stream has.
pub decides_cut : (stream : List ℕ) → Says stream (cut outside stream) (choice_of stream)
decides_cut stream = decides (exists stream outside tt)
