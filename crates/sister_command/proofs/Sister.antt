-- The tests of the sister's table and kinds.
-- What it speaks of is in specs/Sister.antt. Assumes nothing.
use Rattle.std.specs.Prelude.{ℕ, true, List, map, ◌≡◌, refl}
use Rattle.std.proofs.Math.Option.{some}
use Rattle.frame_table.specs.Numbers.{numbers_after, numbers_told, begins_each}
use Rattle.frame_table.specs.Table.{right, state_right, targets_valid}
use Rattle.frame_table.specs.Kinds.{made, Kind}
use Rattle.frame_table.specs.Pieces.{Matches}
use Rattle.frame_table.specs.Reader.{forms_of, test, passed, Tested}
use Rattle.command.specs.Pick.{with_number}
use Rattle.command.specs.declared.Command.TheVariants.{DisplayOff, DisplayOn, Mode, CursorShown, CursorHidden, Clear, Position, LabelsEmpty, IconS, IconU, IconF, IconR, IconP, IconW, Private, Handsfree, HandsfreeOfNote, Mute, KeyTimes, Buzzer, Light, LightOn, LightAutoStart, LightAuto, DefaultDuration, KeypadSet, KeypadCleared, Contrast, ContrastAsked, HookAsked, VersionAsked, ClearLine, Inverse}
use Rattle.sister_command.specs.Grammar.{sister_form, never_spelt}
use Rattle.sister_command.specs.Pick.{asked_or, stepped_or, mode_of, light_of, after_i, after_and, after_k, command_of}
use Rattle.sister_command.specs.Table.{classes, next_states, table, examples}
use Rattle.sister_command.specs.declared.SisterCommand.TheVariants as Hers
use Rattle.sister_command.specs.declared.Question.TheVariants as Ask
use Rattle.sister_command.specs.declared.Step.TheVariants as Go
use Rattle.sister_command.specs.declared.LightChange.TheVariants as Light
use Rattle.sister_command.specs.Sister.{ordered, kinds, sister}
use Rattle.sister_command.specs.declared.SisterReading.{SisterReading}
use Rattle.sister_command.specs.declared.SisterReading.TheVariants.{Shared, Own}

-- the kind at a place makes this command
abbrev of : {c : SisterReading} (place m n : ℕ) → made kinds place m n ≡ some c → Kind kinds c
of place m n same = record { place = place; m = m; n = n; same = same }

-- no other command is spelt
kind : (c : SisterReading) (f : List ℕ) → Matches (sister_form (ordered c)) f → Kind kinds c
kind (Shared Clear) f s = of 1 0 0 refl
kind (Shared (Position m n)) f s = of 2 m n refl
kind (Shared ClearLine) f s = of 4 0 0 refl
kind (Shared (Contrast m)) f s = of 9 m 0 refl
kind (Shared (Buzzer m)) f s = of 13 m 0 refl
kind (Shared DisplayOff) f s = of 15 0 0 refl
kind (Shared DisplayOn) f s = of 16 0 0 refl
kind (Shared (IconF m)) f s = of 29 m 0 refl
kind (Shared (Handsfree m)) f s = of 30 m 0 refl
kind (Shared LabelsEmpty) f s = of 31 0 0 refl
kind (Shared (Private m)) f s = of 32 m 0 refl
kind (Shared (Mute m)) f s = of 33 m 0 refl
kind (Shared (IconP m)) f s = of 38 m 0 refl
kind (Shared (IconR m)) f s = of 39 m 0 refl
kind (Shared (IconS m)) f s = of 40 m 0 refl
kind (Shared (IconW m)) f s = of 48 m 0 refl
kind (Shared (Inverse m)) f s = of 49 m 0 refl
kind (Own (Hers.Cursor m)) f s = of 0 m 0 refl
kind (Own Hers.Restart) f s = of 5 0 0 refl
kind (Own (Hers.Mode m)) f s = of 14 m 0 refl
kind (Own (Hers.Light m)) f s = of 18 m 0 refl
kind (Own (Hers.Brightness m)) f s = of 34 m 0 refl
kind (Own (Hers.KeyTimes m n)) f s = of 41 m n refl
kind (Own (Hers.IconU m)) f s = of 43 m 0 refl
kind (Own (Hers.Speaker m)) f s = of 44 m 0 refl
kind (Own (Hers.Asked Ask.Position)) f s = of 3 0 0 refl
kind (Own (Hers.Asked Ask.Version)) f s = of 6 0 0 refl
kind (Own (Hers.Asked Ask.Hook)) f s = of 7 0 0 refl
kind (Own (Hers.Asked Ask.Ptt)) f s = of 8 0 0 refl
kind (Own (Hers.Asked Ask.Contrast)) f s = of 10 0 0 refl
kind (Own (Hers.Asked Ask.Mode)) f s = of 17 0 0 refl
kind (Own (Hers.Asked Ask.Light)) f s = of 28 0 0 refl
kind (Own (Hers.Asked Ask.Brightness)) f s = of 35 0 0 refl
kind (Own (Hers.Asked Ask.Times)) f s = of 42 0 0 refl
kind (Own (Hers.Asked Ask.Speaker)) f s = of 45 0 0 refl
kind (Own (Hers.Step Go.ContrastUp)) f s = of 11 0 0 refl
kind (Own (Hers.Step Go.ContrastDown)) f s = of 12 0 0 refl
kind (Own (Hers.Step Go.BrightnessUp)) f s = of 36 0 0 refl
kind (Own (Hers.Step Go.BrightnessDown)) f s = of 37 0 0 refl
kind (Own (Hers.Step Go.SpeakerUp)) f s = of 46 0 0 refl
kind (Own (Hers.Step Go.SpeakerDown)) f s = of 47 0 0 refl
kind (Own (Hers.LightTo Light.On)) f s = of 19 0 0 refl
kind (Own (Hers.LightTo Light.AutoStart)) f s = of 20 0 0 refl
kind (Own (Hers.LightTo Light.Auto)) f s = of 21 0 0 refl
kind (Own (Hers.LightTo Light.PwmOn)) f s = of 22 0 0 refl
kind (Own (Hers.LightTo Light.PwmAuto)) f s = of 23 0 0 refl
kind (Own (Hers.LightTo Light.Restart)) f s = of 24 0 0 refl
kind (Own (Hers.LightTo Light.KeypadSet)) f s = of 25 0 0 refl
kind (Own (Hers.LightTo Light.KeypadClearedStart)) f s = of 26 0 0 refl
kind (Own (Hers.LightTo Light.KeypadCleared)) f s = of 27 0 0 refl
kind (Shared (Mode m)) f s = absurd (never_spelt s)
kind (Shared CursorShown) f s = absurd (never_spelt s)
kind (Shared CursorHidden) f s = absurd (never_spelt s)
kind (Shared (IconU m)) f s = absurd (never_spelt s)
kind (Shared (HandsfreeOfNote m)) f s = absurd (never_spelt s)
kind (Shared (KeyTimes m n)) f s = absurd (never_spelt s)
kind (Shared (Light m)) f s = absurd (never_spelt s)
kind (Shared LightOn) f s = absurd (never_spelt s)
kind (Shared LightAutoStart) f s = absurd (never_spelt s)
kind (Shared LightAuto) f s = absurd (never_spelt s)
kind (Shared DefaultDuration) f s = absurd (never_spelt s)
kind (Shared KeypadSet) f s = absurd (never_spelt s)
kind (Shared KeypadCleared) f s = absurd (never_spelt s)
kind (Shared ContrastAsked) f s = absurd (never_spelt s)
kind (Shared HookAsked) f s = absurd (never_spelt s)
kind (Shared VersionAsked) f s = absurd (never_spelt s)

-- THE TEST OF THE WHOLE TABLE: every target is a state, and every entry leads to what may come next.
table_right : right (forms_of sister) examples table ≡ true
unfolding right state_right targets_valid classes next_states
table_right = refl

-- THE TEST OF EVERY KIND: its form is in the table, and its first bytes pick it.
kinds_right : (m n : ℕ) → map (test sister m n) kinds ≡ map (passed sister m n) kinds
unfolding numbers_after numbers_told begins_each with_number asked_or stepped_or mode_of light_of after_i after_and after_k command_of
kinds_right m n = refl

pub tested : Tested sister
tested = record { table_right = table_right; kinds_right = kinds_right; kind = kind }
