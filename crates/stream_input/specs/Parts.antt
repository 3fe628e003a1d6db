-- THE COUNT IN THE WORDS OF THE PAGE: as many answers as there are parts that get one. Assumes nothing.
use Rattle.std.specs.Prelude.{ℕ, ◌+◌, ◌≡◌, refl, Bool, true, false, cond, not, List, ◌++◌}
use Rattle.std.proofs.Common.{arith, ap, ◌∙◌}
use Rattle.std.proofs.Math.Option.{Option, none, some}
use Rattle.lists.specs.Tests.{by_test}
use Rattle.record.specs.declared.Record.{Record}
use Rattle.sister_command.specs.Order.{AnyOrder, first, own}
use Rattle.sister_command.specs.Reading.{order_in}
use Rattle.answer.specs.Answers.{is_silence, heads}
use Rattle.answer.specs.Laws.{heads_append, answer_head}
use Rattle.sister_answer.specs.Told.{is_silence as untold}
use Rattle.sister_answer.specs.Laws.{told_head}
use Rattle.record.specs.Core.{Core}
use Rattle.effect.specs.Obey.{answer_to}
use Rattle.sister_effect.specs.Effect.{own_told}
use Rattle.sister_effect.specs.Obey.{mark_of, answers_to}
use Rattle.parting.specs.Rules.{Part, text, skipped, closed, abandoned, Parted, done, unfinished, then, Parting, Stands, in_limit}
use Rattle.parting.specs.Meaning.{Taken, close, act, taking}
use Rattle.parting.proofs.Stream.{stream}
use Rattle.stream.specs.Stream.{handset, state_of}
use Rattle.stream_input.specs.Heard.{replies_to}

-- which frames are not: those of an order that is no question, nor refused by the record's state
abbrev pub is_quiet : Core → Option AnyOrder → Bool
is_quiet c none = false
is_quiet c (some (first o)) = is_silence (answer_to (some o))
is_quiet c (some (own command)) = untold (own_told command c)

-- which parts are answered: a closed frame that is bad, overlong, refused or a question; every abandoned one
abbrev pub is_answered : Core → Part → Bool
is_answered c (text b) = false
is_answered c (skipped b) = false
is_answered c (closed body) = cond (in_limit body) (not (is_quiet c (order_in c.edition.sister body))) true
is_answered c (abandoned body) = true

-- how many of them there are, each part from the record that those before it left; an unfinished tail has no answer yet
unfoldable pub answered_in : Core → Parted → ℕ
answered_in c done = 0
answered_in c (unfinished body) = 0
answered_in c (then part parted) = cond (is_answered c part) 1 0 + answered_in (act handset c part).core parted

-- The proof ---------------------------------------------------------------------------------------------------------

one_or_none : (quiet : Bool) → cond {A = ℕ} quiet 0 1 ≡ cond (not quiet) 1 0
one_or_none true = refl
one_or_none false = refl

mark_head : (sister : Bool) → heads (mark_of sister) ≡ 1
mark_head true = refl
mark_head false = refl

frame_counted : (c : Core) (found : Option AnyOrder) → heads (answers_to c found) ≡ cond (not (is_quiet c found)) 1 0
frame_counted c none = mark_head c.edition.sister
frame_counted c (some (first o)) = let answer = answer_to (some o) in answer_head c.settings.contrast c.settings.hook answer ∙ one_or_none (is_silence answer)
frame_counted c (some (own command)) = told_head (own_told command c) ∙ one_or_none (untold (own_told command c))

part_counted : (c : Core) (part : Part) → heads (act handset c part).answers ≡ cond (is_answered c part) 1 0
unfolding act close
part_counted c (text b) = refl
part_counted c (skipped b) = refl
part_counted c (closed body) = by_test (in_limit body) (λ e. rw e (frame_counted c (order_in c.edition.sister body))) (λ e. rw e (mark_head c.edition.sister))
part_counted c (abandoned body) = mark_head c.edition.sister

parts_counted : (core : Core) (parted : Parted) → heads (taking handset core parted).answers ≡ answered_in core parted
unfolding taking answered_in
parts_counted core done = refl
parts_counted core (unfinished body) = refl
parts_counted core (then part parted) =
    let next : Core = (act handset core part).core in
    omega (arith, heads_append (act handset core part).answers (taking handset next parted).answers, part_counted core part, parts_counted next parted)

-- THE REPLIES ARE THE ANSWERED PARTS of the parting; `before` is what the record's open frame stands for.
pub replies_are_parts : (r : Record) {before : List ℕ} (bytes : List ℕ) {parted : Parted} → Stands (state_of r).frame before → Parting (before ++ bytes) parted
    → replies_to r bytes ≡ answered_in (state_of r).core parted
unfolding replies_to
replies_are_parts r bytes {parted} standing p =
    ap (λ (taken : Taken Core). heads taken.answers) (stream handset (state_of r) bytes standing p) ∙ parts_counted (state_of r).core parted
