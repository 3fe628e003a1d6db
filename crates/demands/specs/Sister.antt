-- THE SISTER HANDSET (request T-06): what she answers, byte for byte, and her restart. Assumes nothing.
use Rattle.std.specs.Prelude.{ℕ, true, cond, not, ◌&&◌, List, [], ◌∷◌, ◌++◌, ◌≡◌, refl, eqb}
use Rattle.std.proofs.Common.{arith, sym, ◌∙◌, eqb-true}
use Prim.Native.Char.{code}
use Rattle.lists.specs.Both.{both}
use Rattle.lists.specs.Codes.{ascii, escape, carriage_return, line_feed}
use Rattle.lists.specs.Padded.{padded}
use Rattle.numeral.specs.Numeral.{decimal}
use Rattle.record.specs.declared.Record.{Record}
use Rattle.record.specs.declared.Held.{Held}
use Rattle.record.specs.Core.{Core, core_of}
use Rattle.record.specs.Laws.{ranges, not_so}
use Rattle.record.specs.PowerOn.{power_on, sister_with}
use Rattle.record.specs.Range.{held_unused, in_range}
use Rattle.command.specs.Grammar.{end, signs}
use Rattle.sister_command.specs.Order.{own}
use Rattle.sister_command.specs.declared.Question.{Question}
use Rattle.sister_command.specs.declared.Question.TheVariants as Ask
use Rattle.sister_command.specs.declared.SisterCommand.TheVariants.{Restart, Asked}
use Rattle.sister_effect.specs.Effect.{mode_told, light_told, stored_of}
use Rattle.sister_effect.specs.Obey.{carry_out_own}
use Rattle.sister_effect.specs.Questions.{own_obeyed, question_in_range}
use Rattle.parting.specs.Rules.{closed, no_frame}
use Rattle.parting.specs.Meaning.{act}
use Rattle.stream.specs.Stream.{handset, kept_frame}
use Rattle.stream.specs.Frames.{body_of}
use Rattle.stream.specs.Demand.{fed_back}
use Rattle.demands.specs.Frames.{silent, SpellsFor, answer_on, whole_frame, closed_obeyed, good_whole, no_frame_kept}

-- what a question is answered: ESC, the question's letters, a colon, a blank, the value, CR LF
abbrev pub answered : List ℕ → List ℕ → List ℕ
answered letters value = (escape ∷ letters) ++ ascii ": " ++ value ++ carriage_return ∷ line_feed ∷ []

pub record HerAnswers : Type 0 where
  pub position : (c : Core) → answer_on c (own (Asked Ask.Position)) ≡ answered (ascii "&H") (decimal c.settings.screen.row ++ code ";" ∷ decimal c.settings.screen.column)
  pub version : (c : Core) → answer_on c (own (Asked Ask.Version)) ≡ answered (ascii "&V") (ascii "HA400 V.01.00 25.09.2006")
  pub hook : (c : Core) → answer_on c (own (Asked Ask.Hook)) ≡ answered (ascii "KH") (cond c.settings.hook (code "H") (code "h") ∷ [])
  pub ptt : (c : Core) → answer_on c (own (Asked Ask.Ptt)) ≡ answered (ascii "KP") (cond c.edition.ptt (code "P") (code "p") ∷ [])
  pub contrast : (c : Core) → answer_on c (own (Asked Ask.Contrast)) ≡ answered (ascii "IA") (decimal c.settings.contrast)
  pub mode : (c : Core) → answer_on c (own (Asked Ask.Mode)) ≡ answered (ascii "IDM") (decimal (mode_told c.settings.screen))
  pub light : (c : Core) → answer_on c (own (Asked Ask.Light)) ≡ answered (ascii "IE") (decimal (light_told c.settings.backlight c.edition.pwm) ++ code ";" ∷ decimal c.settings.backlight.duration.0)
  pub brightness : (c : Core) → answer_on c (own (Asked Ask.Brightness)) ≡ answered (ascii "IN") (decimal c.edition.brightness)
  pub times : (c : Core) → answer_on c (own (Asked Ask.Times)) ≡ answered (ascii "IT") (decimal c.settings.times.time1.0 ++ code ";" ∷ decimal c.settings.times.time2.0)
  pub speaker : (c : Core) → answer_on c (own (Asked Ask.Speaker)) ≡ answered (ascii "IV") (decimal c.edition.speaker)

pub her_answers_are : HerAnswers
her_answers_are =
    record {
      position = λ c. refl;
      version = λ c. refl;
      hook = λ c. refl;
      ptt = λ c. refl;
      contrast = λ c. refl;
      mode = λ c. refl;
      light = λ c. refl;
      brightness = λ c. refl;
      times = λ c. refl;
      speaker = λ c. refl;
    }

pub asked_changes_nothing : (question : Question) (c : Core) → carry_out_own (Asked question) c ≡ c
asked_changes_nothing question c = own_obeyed (Asked question) c (question_in_range question) refl

-- Restart -----------------------------------------------------------------------------------------------------------

spelt : (c : Core) → c.edition.sister ≡ true → SpellsFor c (own Restart) (ascii "&00")
spelt c e = rw e (signs (ascii "&00") end)

pub restarts : (c : Core) → c.edition.sister ≡ true → act handset c (closed (ascii "&00")) ≡ silent (core_of (sister_with (stored_of c)))
restarts c e = closed_obeyed c (ascii "&00") (own Restart) (spelt c e) refl refl

-- her held key is unused, and with no frame open the frame is the power-on record's
none_held : (held : Held) → held_unused held ≡ true → power_on.held ≡ held
none_held held h =
    let long = both {a = not held.down && eqb held.key 0 && eqb held.tick.0 0} h in
    let tick = both {a = not held.down && eqb held.key 0} long.0 in
    let key = both {a = not held.down} tick.0 in
    λ j. record { down = sym (not_so held.down key.0) j; key = sym (eqb-true held.key 0 key.1) j; tick = record { 0 = sym (eqb-true held.tick.0 0 tick.1) j }; long = sym (not_so held.long long.1) j }

no_frame_lem : kept_frame no_frame ≡ power_on.frame
unfolding padded
no_frame_lem = refl

pub restarts_called : (r : Record) → in_range r ≡ true → r.edition.sister ≡ true → r.frame.state ≡ 0 → (lent : List ℕ)
    → fed_back r (whole_frame (ascii "&00")) lent ≡ record { after = sister_with (stored_of (core_of r)); used = 5; written = 0; buffer = lent }
restarts_called r good e none lent =
    let held : r.held ≡ power_on.held = sym (none_held r.held (rw e at (ranges r good).held)) in
    let frame : r.frame ≡ power_on.frame = sym (no_frame_kept r good none (ascii "&00") (body_of (ascii "&00") refl)) ∙ no_frame_lem in
    let after = sister_with (stored_of (core_of r)) in
    good_whole r good none (ascii "&00") (own Restart) (spelt (core_of r) e) lent refl refl (omega arith)
    ∙ (λ j. record { after = record { settings = after.settings; text = after.text; picture = after.picture; held = held j; frame = frame j; edition = after.edition }; used = 5; written = 0; buffer = lent })
