-- From one part to the next: what stands at a place, and the answer from there on. Assumes nothing.
use Prim.Native.Nat.{ℕ, ◌+◌, ◌-◌, ◌<◌, ◌≤◌}
use native.Mathlib.Omega.{arith}
use mathlib.Core.Bool.{true, false, true≢false}
use mathlib.Core.List.{List}
use mathlib.Core.Path.{◌≡◌, refl, sym, ap, ◌∙◌, subst}
use lib.ListN.{length, take, drop}
use lib.Seq.{slice, drop_at, take-add, length-take-le}
use Rattle.std.proofs.Common.{Option, Some, None, Result, Ok, Err, unwrap_or, is_none}
use Rattle.std.specs.Prelude.{⊤}
use Rattle.std.specs.Result.{result_and}
use Rattle.command.specs.Reading.{order_of}
use Rattle.parting.specs.Rules.{Part, text, skipped, closed, abandoned, bytes_of, Parted, done, unfinished, then, Parting}
use Rattle.parting.specs.Cut.{outside, cut}
use Rattle.parting.proofs.Cut.{exists, only_cut}
use Rattle.parts.specs.declared.Kind.{Kind}
use Rattle.parts.specs.declared.Kind.TheVariants as Kinds
use Rattle.parts.specs.declared.PartAt.{PartAt}
use Rattle.parts.specs.Parts.{part_at, standing}
use Rattle.parts.specs.Laws.{tells_first, parted_on, progress, lies, body_told, body_told_lem}
use Rattle.choice.specs.declared.Since.{Since}
use Rattle.choice.specs.declared.Sign.{Sign}
use Rattle.choice.specs.declared.Sign.TheVariants.{Text, Asked, Open, Other}
use Rattle.choice.specs.declared.BrokenRule.{BrokenRule}
use Rattle.choice.specs.declared.Rule.TheVariants.{NoScreen}
use Rattle.choice.specs.Signs.{part_sign, frame_sign, read_of, opens_choice, first_opens}
use Rattle.choice.specs.Choice.{calm, after, wanted, broken_by, answer_of, judged_from, choice_of}

-- what is left of a stream from a place on, parted
abbrev pub rest : List ℕ → ℕ → Parted
rest bytes place = cut outside (drop place bytes)

parting_of : (bytes : List ℕ) (place : ℕ) {parted : Parted} → rest bytes place ≡ parted → Parting (drop place bytes) parted
parting_of bytes place e = subst (Parting (drop place bytes)) e (exists (drop place bytes) outside tt)

-- What is read where a part is told ------------------------------------------------------------------------------------------

-- a closed frame by its body
abbrev pub kind_sign : Kind → List ℕ → Sign
kind_sign Kinds.Text body = Text
kind_sign Kinds.Skipped body = Other
kind_sign Kinds.Closed body = frame_sign (order_of body)
kind_sign Kinds.Abandoned body = Asked
kind_sign Kinds.Tail body = Open

-- of what is told: its sign, and where the next part begins
abbrev told_of : List ℕ → Option PartAt → Option (Sign × ℕ)
told_of bytes None = None
told_of bytes (Some p) = Some (kind_sign p.kind (body_told bytes p), p.end)

told_first : (bytes : List ℕ) (place : ℕ) → told_of bytes (part_at bytes place) ≡ read_of place (rest bytes place)
told_first bytes place = cases (rest bytes place) refl
  where
    cases : (parted : Parted) → rest bytes place ≡ parted → told_of bytes (part_at bytes place) ≡ read_of place parted
    cases done e = ap (told_of bytes) (tells_first bytes place (parting_of bytes place e))
    cases (unfinished body) e = ap (told_of bytes) (tells_first bytes place (parting_of bytes place e))
    cases (then (text b) parted) e = ap (told_of bytes) (tells_first bytes place (parting_of bytes place e))
    cases (then (skipped b) parted) e = ap (told_of bytes) (tells_first bytes place (parting_of bytes place e))
    cases (then (closed body) parted) e =
        let p = parting_of bytes place e in
        let told = tells_first bytes place p in
        ap (told_of bytes) told ∙ ap (λ (b : List ℕ). Some (frame_sign (order_of b), (standing place (closed body)).end)) (body_told_lem bytes place p told)
    cases (then (abandoned body) parted) e = ap (told_of bytes) (tells_first bytes place (parting_of bytes place e))

-- the same by the kind that was told
pub read_there : (bytes : List ℕ) (place : ℕ) {p : PartAt} {k : Kind} → Some p ≡ part_at bytes place → p.kind ≡ k
    → Some (kind_sign k (body_told bytes p), p.end) ≡ read_of place (rest bytes place)
read_there bytes place {p} e h = ap (λ (k : Kind). Some (kind_sign k (body_told bytes p), p.end)) (sym h) ∙ ap (told_of bytes) e ∙ told_first bytes place

pub none_there : (bytes : List ℕ) (place : ℕ) → None ≡ part_at bytes place → None ≡ read_of place (rest bytes place)
none_there bytes place e = ap (told_of bytes) e ∙ told_first bytes place

-- a part of a slice, as it is lent
pub part_lent : (from to : ℕ) (s : List ℕ) → from ≤ to → to ≤ length s → take (to - from) (drop from s) ≡ slice from to s
part_lent from to s h k =
    let whole : to ≡ from + (to - from) = omega arith in
    sym
    (ap (λ (n : ℕ). drop from (take n s)) whole
    ∙ ap (drop from) (take-add from (to - from) s)
    ∙ drop_at (take from s) (take (to - from) (drop from s)) from (length-take-le from s (omega arith)))

-- a closed frame's body lies in the stream
pub record InStream (bytes : List ℕ) (p : PartAt) : Type 0 where
  pub in_order : p.body ≤ p.body_end
  pub within : p.body_end ≤ length bytes

pub in_stream : (bytes : List ℕ) (place : ℕ) {p : PartAt} → Some p ≡ part_at bytes place → InStream bytes p
in_stream bytes place {p} e =
    let l = lies bytes place (sym e) in
    let goes = progress bytes place (sym e) in
    record { in_order = l.in_order; within = omega (arith, l.stops, goes.within) }

-- The answer from a place on ------------------------------------------------------------------------------------------------

-- what is read is one sign and one place
none_is_some : {x : Sign × ℕ} → ◌≡◌ {A = Option (Sign × ℕ)} None (Some x) → ⊥
none_is_some e = true≢false (ap (λ (found : Option (Sign × ℕ)). is_none found) e)

same_read : {x y : Sign × ℕ} → ◌≡◌ {A = Option (Sign × ℕ)} (Some x) (Some y) → x ≡ y
same_read {x} e = ap (λ (found : Option (Sign × ℕ)). unwrap_or found x) e

module _ (bytes : List ℕ) where
  abbrev pub judged : Since → ℕ → Result ⊤ BrokenRule
  judged s at = judged_from s at (rest bytes at)

  -- behind a part the rest is parted on, from the part's end
  behind : (at : ℕ) {part : Part} {parted : Parted} → rest bytes at ≡ then part parted → parted ≡ rest bytes (at + length (bytes_of part))
  behind at e = let p = parting_of bytes at e in only_cut (parted_on bytes at p (tells_first bytes at p))

  -- The first part opens a choice, and the rest decides;
  pub opened : {sign : Sign} {end : ℕ} → read_of 0 (rest bytes 0) ≡ Some (sign, end) → opens_choice sign ≡ true → choice_of bytes ≡ judged calm end
  unfolding choice_of
  opened {sign} {end} r opens = cases (rest bytes 0) refl r
    where
      cases : (parted : Parted) → rest bytes 0 ≡ parted → read_of 0 parted ≡ Some (sign, end) → choice_of bytes ≡ judged calm end
      cases done e r = absurd (none_is_some r)
      cases (unfinished body) e r = absurd (true≢false (sym opens ∙ ap (λ (x : Sign × ℕ). opens_choice x.0) (sym (same_read r))))
      cases (then part parted) e r =
          let is = same_read r in
          let whole : length (bytes_of part) ≡ 0 + length (bytes_of part) = omega arith in
          let ends : length (bytes_of part) ≡ end = whole ∙ ap (λ (x : Sign × ℕ). x.1) is in
          let opens_there : opens_choice (part_sign part) ≡ true = ap (λ (x : Sign × ℕ). opens_choice x.0) is ∙ opens in
          rw (e, opens_there) (rw (behind 0 e, ← whole, ends) refl)

  -- or it does not,
  not_opened : first_opens (rest bytes 0) ≡ false → choice_of bytes ≡ answer_of (Err NoScreen) 0
  unfolding choice_of
  not_opened other = cases (rest bytes 0) refl other
    where
      cases : (parted : Parted) → rest bytes 0 ≡ parted → first_opens parted ≡ false → choice_of bytes ≡ answer_of (Err NoScreen) 0
      cases done e h = rw e
      cases (unfinished body) e h = rw e
      cases (then part parted) e h = rw (e, h)

  pub other_opening : {sign : Sign} {end : ℕ} → read_of 0 (rest bytes 0) ≡ Some (sign, end) → opens_choice sign ≡ false → choice_of bytes ≡ answer_of (Err NoScreen) 0
  other_opening {sign} {end} r other = not_opened (cases (rest bytes 0) r)
    where
      cases : (parted : Parted) → read_of 0 parted ≡ Some (sign, end) → first_opens parted ≡ false
      cases done r = refl
      cases (unfinished body) r = refl
      cases (then part parted) r = ap (λ (x : Sign × ℕ). opens_choice x.0) (same_read r) ∙ other

  -- or is not there.
  pub no_opening : read_of 0 (rest bytes 0) ≡ None → choice_of bytes ≡ answer_of (Err NoScreen) 0
  no_opening r = not_opened (cases (rest bytes 0) r)
    where
      cases : (parted : Parted) → read_of 0 parted ≡ None → first_opens parted ≡ false
      cases done r = refl
      cases (unfinished body) r = absurd (none_is_some (sym r))
      cases (then part parted) r = absurd (none_is_some (sym r))

  -- A part or tail behind it breaks a rule, or none, and then the parts behind it decide.
  goes_on : (s : Since) (at : ℕ) {sign : Sign} {end : ℕ} → read_of at (rest bytes at) ≡ Some (sign, end)
      → judged s at ≡ result_and (answer_of (broken_by s sign) at) (judged (after s sign) end)
  unfolding judged_from
  goes_on s at {sign} {end} r = cases (rest bytes at) refl r
    where
      cases : (parted : Parted) → rest bytes at ≡ parted → read_of at parted ≡ Some (sign, end) → judged_from s at parted ≡ result_and (answer_of (broken_by s sign) at) (judged (after s sign) end)
      cases done e r = absurd (none_is_some r)
      cases (unfinished body) e r = ap (λ (x : Sign × ℕ). result_and (answer_of (broken_by s x.0) at) (judged (after s x.0) end)) (same_read r)
      cases (then part parted) e r =
          ap (λ (p : Parted). result_and (answer_of (broken_by s (part_sign part)) at) (judged_from (after s (part_sign part)) (at + length (bytes_of part)) p)) (behind at e)
          ∙ ap (λ (x : Sign × ℕ). result_and (answer_of (broken_by s x.0) at) (judged (after s x.0) x.1)) (same_read r)

  pub breaks : (s : Since) (at : ℕ) {sign : Sign} {end : ℕ} {first : BrokenRule} → read_of at (rest bytes at) ≡ Some (sign, end) → Err first ≡ answer_of (broken_by s sign) at
      → judged s at ≡ Err first
  breaks s at {sign} {end} r e = goes_on s at r ∙ ap (λ (a : Result ⊤ BrokenRule). result_and a (judged (after s sign) end)) (sym e)

  pub passes : (s : Since) (at : ℕ) {sign : Sign} {end : ℕ} {fine : ⊤} → read_of at (rest bytes at) ≡ Some (sign, end) → Ok fine ≡ answer_of (broken_by s sign) at
      → judged s at ≡ judged (after s sign) end
  passes s at {sign} {end} r e = goes_on s at r ∙ ap (λ (a : Result ⊤ BrokenRule). result_and a (judged (after s sign) end)) (sym e)

  -- it lies further on, within the stream
  pub further : (at : ℕ) {sign : Sign} {end : ℕ} → read_of at (rest bytes at) ≡ Some (sign, end) → (at < end) × (end ≤ length bytes)
  further at {sign} {end} r = cases (part_at bytes at) refl
    where
      ends_at : {p : PartAt} → part_at bytes at ≡ Some p → p.end ≡ end
      ends_at e = ap (λ (x : Sign × ℕ). x.1) (same_read (ap (told_of bytes) (sym e) ∙ told_first bytes at ∙ r))

      cases : (found : Option PartAt) → part_at bytes at ≡ found → (at < end) × (end ≤ length bytes)
      cases None e = absurd (none_is_some (ap (told_of bytes) (sym e) ∙ told_first bytes at ∙ r))
      cases (Some p) e = let goes = progress bytes at e in (omega (arith, goes.further, ends_at e), omega (arith, goes.within, ends_at e))

  -- At the end the labels are wanted.
  pub ends : (s : Since) (at : ℕ) → read_of at (rest bytes at) ≡ None → judged s at ≡ answer_of (wanted s) at
  unfolding judged_from
  ends s at r = cases (rest bytes at) r
    where
      cases : (parted : Parted) → read_of at parted ≡ None → judged_from s at parted ≡ answer_of (wanted s) at
      cases done r = refl
      cases (unfinished body) r = absurd (none_is_some (sym r))
      cases (then part parted) r = absurd (none_is_some (sym r))
