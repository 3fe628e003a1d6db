-- What the code's forms and names of ranges stand for: pieces of a line of the table of the good frames. Assumes nothing.
use Prim.Native.Char.{code}
use Rattle.std.specs.Prelude.{List, [], ◌∷◌}
use Rattle.lists.specs.Codes.{ascii}
use Rattle.command.specs.Grammar.{Range, Piece, sign, number}
use Rattle.command.specs.Ranges.{of_row, of_mark, of_mode, of_column, of_icon_s, of_icon_u, of_icon_f, of_icon_r, of_icon_p, of_icon_w, of_level, of_mute, of_time1, of_time2, of_buzzer, of_light, of_contrast}
use Rattle.command_form.specs.declared.RangeName.{RangeName}
use Rattle.command_form.specs.declared.RangeName.TheVariants.{Mode, IconS, IconU, IconF, IconR, IconP, IconW, Level, Mute, Buzzer, Light, Contrast, Mark}
use Rattle.command_form.specs.declared.Form.{Form}
use Rattle.command_form.specs.declared.Form.TheVariants.{TwoSigns, ThreeSigns, Number, Times, Place}

abbrev pub range_of : RangeName → Range
range_of Mode = of_mode
range_of IconS = of_icon_s
range_of IconU = of_icon_u
range_of IconF = of_icon_f
range_of IconR = of_icon_r
range_of IconP = of_icon_p
range_of IconW = of_icon_w
range_of Level = of_level
range_of Mute = of_mute
range_of Buzzer = of_buzzer
range_of Light = of_light
range_of Contrast = of_contrast
range_of Mark = of_mark

abbrev pub pieces : Form → List Piece
pieces (TwoSigns a b) = sign (a ∷ b ∷ []) ∷ []
pieces (ThreeSigns a b c) = sign (a ∷ b ∷ c ∷ []) ∷ []
pieces (Number letter range n) = sign (code "I" ∷ letter ∷ []) ∷ number (range_of range) n ∷ []
pieces (Times time1 time2) = sign (ascii "IT") ∷ number of_time1 time1 ∷ sign (ascii ";") ∷ number of_time2 time2 ∷ []
pieces (Place row column) = sign (ascii "[") ∷ number of_row row ∷ sign (ascii ";") ∷ number of_column column ∷ sign (ascii "H") ∷ []
