-- The good frames, a line for each line of document 01's table ("The good frames"), its first two columns side by side, written without
-- the reader. Assumes nothing.
use Rattle.std.specs.Prelude.{ℕ, List, [], ◌∷◌}
use Rattle.lists.specs.Codes.{ascii}
pub use Rattle.frame_table.specs.Pieces.{Range, Piece, sign, number, digit, text, columns, Matches, end, signs, digits, one_digit, codes, data_of}
use Rattle.command.specs.Order.{Order, plain, label, draw}
use Rattle.command.specs.Ranges.{of_row, of_mark, of_mode, of_column, of_icon_s, of_icon_u, of_icon_f, of_icon_r, of_icon_p, of_icon_w, of_level, of_mute, of_time1, of_time2, of_buzzer, of_light, of_contrast, of_picture_row}
use Rattle.command.specs.declared.Command.TheVariants.{DisplayOff, DisplayOn, Mode, CursorShown, CursorHidden, Clear, Position, LabelsEmpty, IconS, IconU, IconF, IconR, IconP, IconW, Private, Handsfree, HandsfreeOfNote, Mute, KeyTimes, Buzzer, Light, LightOn, LightAutoStart, LightAuto, DefaultDuration, KeypadSet, KeypadCleared, Contrast, ContrastAsked, HookAsked, VersionAsked, ClearLine, Inverse}
use Rattle.command.specs.declared.Side.TheVariants.{Left, Right}

-- THE TABLE. IIn is the note's own spelling of IJn (section 3.5.25); the last six commands are request T-04's. Document 01's table names
-- none of the seven.
-- The picture frame is spelt as the note's section 3.6.5 has it, as document 01 asks.
abbrev pub form : Order → List Piece
form (plain DisplayOff) = sign (ascii "IDD") ∷ []
form (plain DisplayOn) = sign (ascii "IDE") ∷ []
form (plain (Mode n)) = sign (ascii "ID") ∷ number of_mode n ∷ []
form (plain CursorShown) = sign (ascii "&C") ∷ []
form (plain CursorHidden) = sign (ascii "&D") ∷ []
form (plain Clear) = sign (ascii "&#") ∷ []
form (plain (Position row column)) = sign (ascii "[") ∷ number of_row row ∷ sign (ascii ";") ∷ number of_column column ∷ sign (ascii "H") ∷ []
form (plain LabelsEmpty) = sign (ascii "IK0") ∷ []
form (label Left t) = sign (ascii "IK1") ∷ text t ∷ []
form (label Right t) = sign (ascii "IK2") ∷ text t ∷ []
form (plain (IconS n)) = sign (ascii "IS") ∷ number of_icon_s n ∷ []
form (plain (IconU n)) = sign (ascii "IU") ∷ number of_icon_u n ∷ []
form (plain (IconF n)) = sign (ascii "IF") ∷ number of_icon_f n ∷ []
form (plain (IconR n)) = sign (ascii "IR") ∷ number of_icon_r n ∷ []
form (plain (IconP n)) = sign (ascii "IP") ∷ number of_icon_p n ∷ []
form (plain (IconW n)) = sign (ascii "IW") ∷ number of_icon_w n ∷ []
form (plain (Private n)) = sign (ascii "IL") ∷ number of_level n ∷ []
form (plain (Handsfree n)) = sign (ascii "IJ") ∷ number of_level n ∷ []
form (plain (HandsfreeOfNote n)) = sign (ascii "II") ∷ number of_level n ∷ []
form (plain (Mute n)) = sign (ascii "IM") ∷ number of_mute n ∷ []
form (plain (KeyTimes time1 time2)) = sign (ascii "IT") ∷ number of_time1 time1 ∷ sign (ascii ";") ∷ number of_time2 time2 ∷ []
form (plain (Buzzer n)) = sign (ascii "IB") ∷ number of_buzzer n ∷ []
form (plain (Light n)) = sign (ascii "IE") ∷ number of_light n ∷ []
form (plain LightOn) = sign (ascii "IEE") ∷ []
form (plain LightAutoStart) = sign (ascii "IEA") ∷ []
form (plain LightAuto) = sign (ascii "IES") ∷ []
form (plain DefaultDuration) = sign (ascii "IER") ∷ []
form (plain KeypadSet) = sign (ascii "IEe") ∷ []
form (plain KeypadCleared) = sign (ascii "IEr") ∷ []
form (plain (Contrast n)) = sign (ascii "IA") ∷ number of_contrast n ∷ []
form (plain ContrastAsked) = sign (ascii "IA") ∷ []
form (plain HookAsked) = sign (ascii "IH") ∷ []
form (plain VersionAsked) = sign (ascii "&V") ∷ []
form (plain ClearLine) = sign (ascii "[K") ∷ []
form (plain (Inverse n)) = sign (ascii "IZ") ∷ number of_mark n ∷ []
form (draw row cs) = sign (ascii "Gr") ∷ digit of_picture_row row ∷ sign (ascii ",") ∷ columns cs ∷ sign (ascii "z") ∷ []

-- the frame spells the order
abbrev pub Spells : Order → List ℕ → Type 0
Spells order frame = Matches (form order) frame
