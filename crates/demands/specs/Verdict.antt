-- THE VERDICT OF A FRAME IS WHAT THE STREAM CALL DOES WITH IT, in the record's edition and text mode: a bad frame and one that the record's
-- state refuses are answered with the mark, one that is passed over with silence, and none of them changes anything; one that is obeyed has
-- the effect and the answer of the order that it spells. Assumes nothing.
use Rattle.std.specs.Prelude.{ℕ, List, ◌≡◌, refl}
use Rattle.std.proofs.Common.{◌∙◌}
use Rattle.record.specs.Core.{Core}
use Rattle.sister_command.specs.Order.{AnyOrder, first, own}
use Rattle.sister_effect.specs.Obey.{effect_any, refused_any}
use Rattle.verdict.specs.declared.Verdict.{Verdict}
use Rattle.verdict.specs.declared.Verdict.TheVariants.{Bad, PassedOver, Obeyed, Refused}
use Rattle.verdict.specs.Verdict.{refused_in, verdict_in}
use Rattle.verdict.specs.Laws.{TellsIn, tells_in}
use Rattle.parting.specs.Rules.{closed}
use Rattle.parting.specs.Meaning.{act}
use Rattle.stream.specs.Stream.{handset}
use Rattle.demands.specs.Frames.{asked, silent, said, SpellsFor, closed_obeyed, closed_passed_over, closed_refused, closed_asked}

-- what a closed frame becomes, by its verdict
abbrev pub Becomes : Core → List ℕ → Verdict → Type 0
Becomes c frame Bad = act handset c (closed frame) ≡ asked c
Becomes c frame (PassedOver n) = act handset c (closed frame) ≡ silent c
Becomes c frame Obeyed = (o : AnyOrder) × SpellsFor c o frame × (act handset c (closed frame) ≡ said c o (effect_any o c))
Becomes c frame Refused = act handset c (closed frame) ≡ asked c

-- the verdict's refusal is the stream's
same_refusal : (c : Core) (o : AnyOrder) → refused_any o c ≡ refused_in c o
same_refusal c (first o) = refl
same_refusal c (own command) = refl

pub verdict_comes_true : (c : Core) (frame : List ℕ) → Becomes c frame (verdict_in c frame)
verdict_comes_true c frame = becomes (verdict_in c frame) (tells_in c frame)
  where
    becomes : (v : Verdict) → TellsIn c frame v → Becomes c frame v
    becomes Bad bad = closed_asked c frame bad
    becomes (PassedOver n) told = closed_passed_over c frame told.0 told.1 told.2
    becomes Obeyed told = (told.0, told.1, closed_obeyed c frame told.0 told.1 told.2 (same_refusal c told.0 ∙ told.3))
    becomes Refused told = closed_refused c frame told.0 told.1 (same_refusal c told.0 ∙ told.2)
