-- The range of a record, the edition asked by itself. Assumes nothing.
use Rattle.std.specs.Prelude.{◌≡◌, refl, Bool, true, false, not, ◌&&◌}
use Rattle.std.proofs.Math.Path.{sym}
use Rattle.std.proofs.Common.{◌∙◌}
use Rattle.std.proofs.Math.Bool.{and-true}
use Rattle.lists.specs.Both.{both}
use Rattle.lists.specs.Tests.{by_test}
use Rattle.record.specs.declared.Record.{Record}
use Rattle.record.specs.declared.Edition.{Edition}
use Rattle.record.specs.Laws.{not_so}
use Rattle.record.specs.Range.{text_in_range, picture_in_range, held_kept, frame_in_range, settings_in_range, brightness_in_range, speaker_in_range, keys_in_range, edition_unused, in_range}

-- the first edition, with nothing of the sister's used; the sister, with what only she has in range
abbrev pub first_asked : Edition → Bool
first_asked e = edition_unused e && not e.sister

abbrev pub sister_asked : Edition → Bool
sister_asked e = brightness_in_range e.brightness && speaker_in_range e.speaker && keys_in_range e.keys && e.sister

and_none : (a : Bool) → (a && false) ≡ false
and_none true = refl
and_none false = refl

module _ (r : Record) where
  abbrev rest : Bool → Bool
  rest sister = settings_in_range sister r.edition.pwm r.settings && text_in_range r.text && picture_in_range r.picture && held_kept sister r.held && frame_in_range r.frame

  -- of either edition the rest is asked by its ranges,
  pub first_asked_lem : first_asked r.edition ≡ true → rest false ≡ in_range r
  unfolding in_range
  first_asked_lem h =
      let asked = both {a = edition_unused r.edition} h in
      rw (not_so r.edition.sister asked.1, asked.0) (sym (and-true (rest false)))

  pub sister_asked_lem : sister_asked r.edition ≡ true → rest true ≡ in_range r
  unfolding in_range
  sister_asked_lem h =
      let asked = both {a = brightness_in_range r.edition.brightness && speaker_in_range r.edition.speaker && keys_in_range r.edition.keys} h in
      rw (asked.1, asked.0) (sym (and-true (rest true)))

  -- and of what is neither nothing: it is refused.
  pub neither_refused : first_asked r.edition ≡ false → sister_asked r.edition ≡ false → false ≡ in_range r
  unfolding in_range
  neither_refused f s =
      by_test r.edition.sister
      (λ e. rw (e, sym (and-true (brightness_in_range r.edition.brightness && speaker_in_range r.edition.speaker && keys_in_range r.edition.keys)) ∙ (rw e at s)) (sym (and_none (rest true))))
      (λ e. rw (e, sym (and-true (edition_unused r.edition)) ∙ (rw e at f)) (sym (and_none (rest false))))
