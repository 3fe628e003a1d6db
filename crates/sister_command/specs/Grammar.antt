-- The good frames of the sister, a line for each, in the order of section 3.5 of AN1900, with the readings of request T-06, written without
-- the reader; and those of either edition. Assumes nothing.
use Rattle.std.specs.Prelude.{ℕ, Bool, true, false, List, [], ◌∷◌}
use Rattle.std.proofs.Common.{arith}
use Rattle.lists.specs.Codes.{ascii}
use Rattle.frame_table.specs.Pieces.{Piece, sign, number, digit, text, columns, Matches, data_of}
use Rattle.frame_table.specs.Spelling.{is_plain}
use Rattle.command.specs.Order.{plain, label, draw}
use Rattle.command.specs.Grammar.{form}
use Rattle.command.specs.Ranges.{of_row, of_mark, of_column, of_icon_s, of_icon_f, of_icon_r, of_icon_p, of_icon_w, of_level, of_mute, of_time2, of_buzzer, of_contrast, of_picture_row}
use Rattle.command.specs.declared.Command.{Command}
use Rattle.command.specs.declared.Command.TheVariants.{DisplayOff, DisplayOn, Mode, CursorShown, CursorHidden, Clear, Position, LabelsEmpty, IconS, IconU, IconF, IconR, IconP, IconW, Private, Handsfree, HandsfreeOfNote, Mute, KeyTimes, Buzzer, Light, LightOn, LightAutoStart, LightAuto, DefaultDuration, KeypadSet, KeypadCleared, Contrast, ContrastAsked, HookAsked, VersionAsked, ClearLine, Inverse}
use Rattle.command.specs.declared.Side.TheVariants.{Left, Right}
use Rattle.sister_command.specs.Order.{AnyOrder, first, own}
use Rattle.sister_command.specs.Ranges.{of_shown, of_sister_mode, of_sister_light, of_sister_icon_u, of_brightness, of_speaker, of_time1_before}
use Rattle.sister_command.specs.declared.SisterCommand.TheVariants as Hers
use Rattle.sister_command.specs.declared.Question.TheVariants as Ask
use Rattle.sister_command.specs.declared.Step.TheVariants as Step
use Rattle.sister_command.specs.declared.LightChange.TheVariants as Light

-- no frame is this: data draws a column at least
abbrev pub never : List Piece
never = columns [] ∷ []

pub never_spelt : {f : List ℕ} → Matches never f → ⊥
never_spelt (data_of d rest) = omega (arith, d.least)

-- THE TABLE. 3.5.4 and 3.5.5 are lost in the scan: &H? and &K stand where the order of the sections has them. The restart is two zeros,
-- as the only printed example has it.
abbrev pub sister_form : AnyOrder → List Piece
sister_form (own (Hers.Cursor n)) = sign (ascii "&C") ∷ number of_shown n ∷ []
sister_form (first (plain Clear)) = sign (ascii "&D") ∷ []
sister_form (first (plain (Position row column))) = sign (ascii "&H") ∷ number of_row row ∷ sign (ascii ";") ∷ number of_column column ∷ []
sister_form (own (Hers.Asked Ask.Position)) = sign (ascii "&H?") ∷ []
sister_form (first (plain ClearLine)) = sign (ascii "&K") ∷ []
sister_form (own Hers.Restart) = sign (ascii "&00") ∷ []
sister_form (own (Hers.Asked Ask.Version)) = sign (ascii "&V?") ∷ []
sister_form (own (Hers.Asked Ask.Hook)) = sign (ascii "KH?") ∷ []
sister_form (own (Hers.Asked Ask.Ptt)) = sign (ascii "KP?") ∷ []
sister_form (first (plain (Contrast n))) = sign (ascii "IA") ∷ number of_contrast n ∷ []
sister_form (own (Hers.Asked Ask.Contrast)) = sign (ascii "IA?") ∷ []
sister_form (own (Hers.Step Step.ContrastUp)) = sign (ascii "IA+") ∷ []
sister_form (own (Hers.Step Step.ContrastDown)) = sign (ascii "IA-") ∷ []
sister_form (first (plain (Buzzer n))) = sign (ascii "IB") ∷ number of_buzzer n ∷ []
sister_form (own (Hers.Mode n)) = sign (ascii "IDM") ∷ number of_sister_mode n ∷ []
sister_form (first (plain DisplayOff)) = sign (ascii "IDMD") ∷ []
sister_form (first (plain DisplayOn)) = sign (ascii "IDME") ∷ []
sister_form (own (Hers.Asked Ask.Mode)) = sign (ascii "IDM?") ∷ []
sister_form (own (Hers.Light n)) = sign (ascii "IE") ∷ number of_sister_light n ∷ []
sister_form (own (Hers.LightTo Light.On)) = sign (ascii "IEE") ∷ []
sister_form (own (Hers.LightTo Light.AutoStart)) = sign (ascii "IEA") ∷ []
sister_form (own (Hers.LightTo Light.Auto)) = sign (ascii "IES") ∷ []
sister_form (own (Hers.LightTo Light.PwmOn)) = sign (ascii "IEP") ∷ []
sister_form (own (Hers.LightTo Light.PwmAuto)) = sign (ascii "IEQ") ∷ []
sister_form (own (Hers.LightTo Light.Restart)) = sign (ascii "IER") ∷ []
sister_form (own (Hers.LightTo Light.KeypadSet)) = sign (ascii "IEe") ∷ []
sister_form (own (Hers.LightTo Light.KeypadClearedStart)) = sign (ascii "IEc") ∷ []
sister_form (own (Hers.LightTo Light.KeypadCleared)) = sign (ascii "IEs") ∷ []
sister_form (own (Hers.Asked Ask.Light)) = sign (ascii "IE?") ∷ []
sister_form (first (plain (IconF n))) = sign (ascii "IF") ∷ number of_icon_f n ∷ []
sister_form (first (plain (Handsfree n))) = sign (ascii "IJ") ∷ number of_level n ∷ []
sister_form (first (plain LabelsEmpty)) = sign (ascii "IK0") ∷ []
sister_form (first (label Left t)) = sign (ascii "IK1") ∷ text t ∷ []
sister_form (first (label Right t)) = sign (ascii "IK2") ∷ text t ∷ []
sister_form (first (plain (Private n))) = sign (ascii "IL") ∷ number of_level n ∷ []
sister_form (first (plain (Mute n))) = sign (ascii "IM") ∷ number of_mute n ∷ []
sister_form (own (Hers.Brightness n)) = sign (ascii "IN") ∷ number of_brightness n ∷ []
sister_form (own (Hers.Asked Ask.Brightness)) = sign (ascii "IN?") ∷ []
sister_form (own (Hers.Step Step.BrightnessUp)) = sign (ascii "IN+") ∷ []
sister_form (own (Hers.Step Step.BrightnessDown)) = sign (ascii "IN-") ∷ []
sister_form (first (plain (IconP n))) = sign (ascii "IP") ∷ number of_icon_p n ∷ []
sister_form (first (plain (IconR n))) = sign (ascii "IR") ∷ number of_icon_r n ∷ []
sister_form (first (plain (IconS n))) = sign (ascii "IS") ∷ number of_icon_s n ∷ []
sister_form (own (Hers.KeyTimes time1 time2)) = sign (ascii "IT") ∷ number (of_time1_before time2) time1 ∷ sign (ascii ";") ∷ number of_time2 time2 ∷ []
sister_form (own (Hers.Asked Ask.Times)) = sign (ascii "IT?") ∷ []
sister_form (own (Hers.IconU n)) = sign (ascii "IU") ∷ number of_sister_icon_u n ∷ []
sister_form (own (Hers.Speaker n)) = sign (ascii "IV") ∷ number of_speaker n ∷ []
sister_form (own (Hers.Asked Ask.Speaker)) = sign (ascii "IV?") ∷ []
sister_form (own (Hers.Step Step.SpeakerUp)) = sign (ascii "IV+") ∷ []
sister_form (own (Hers.Step Step.SpeakerDown)) = sign (ascii "IV-") ∷ []
sister_form (first (plain (IconW n))) = sign (ascii "IW") ∷ number of_icon_w n ∷ []
sister_form (first (plain (Inverse n))) = sign (ascii "IZ") ∷ number of_mark n ∷ []
sister_form (first (draw row cs)) = sign (ascii "Gr") ∷ digit of_picture_row row ∷ sign (ascii ",") ∷ columns cs ∷ sign (ascii "z") ∷ []
-- what the first edition alone has
sister_form (first (plain (Mode n))) = never
sister_form (first (plain CursorShown)) = never
sister_form (first (plain CursorHidden)) = never
sister_form (first (plain (IconU n))) = never
sister_form (first (plain (HandsfreeOfNote n))) = never
sister_form (first (plain (KeyTimes time1 time2))) = never
sister_form (first (plain (Light n))) = never
sister_form (first (plain LightOn)) = never
sister_form (first (plain LightAutoStart)) = never
sister_form (first (plain LightAuto)) = never
sister_form (first (plain DefaultDuration)) = never
sister_form (first (plain KeypadSet)) = never
sister_form (first (plain KeypadCleared)) = never
sister_form (first (plain ContrastAsked)) = never
sister_form (first (plain HookAsked)) = never
sister_form (first (plain VersionAsked)) = never

-- whether she has a command of the first edition
abbrev pub is_shared : Command → Bool
is_shared c = is_plain (sister_form (first (plain c)))

-- EITHER EDITION: how an order is spelt by the sister, and by the first edition, which has none of her own
abbrev pub form_in : Bool → AnyOrder → List Piece
form_in true o = sister_form o
form_in false (first o) = form o
form_in false (own c) = never

-- the frame spells the order in that edition
abbrev pub SpellsIn : Bool → AnyOrder → List ℕ → Type 0
SpellsIn sister o frame = Matches (form_in sister o) frame
