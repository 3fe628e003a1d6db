-- WHAT AN ORDER TOUCHES: the fields that it may set, document 01's third column ("The good frames"), field by field, and those that it
-- reads besides. Assumes nothing.
use Rattle.std.specs.Prelude.{Bool, cond, ◌||◌, List, [], ◌∷◌, eqb}
use Rattle.record.specs.Fields.{Field, display, mode, overlay, row, column, text, large_line, shown, leftLabel, rightLabel, iconS, icon_u, iconF, iconR, icon_p, iconW, which, level, mute, hidden, time1, time2, buzzer, light, duration, secondsLeft, keypad, picture, contrast, hook, inverse, among}
use Rattle.command.specs.Order.{Order, plain, label, draw}
use Rattle.command.specs.InRange.{is_overlay}
use Rattle.command.specs.declared.Command.TheVariants.{DisplayOff, DisplayOn, Mode, CursorShown, CursorHidden, Clear, Position, LabelsEmpty, IconS, IconU, IconF, IconR, IconP, IconW, Private, Handsfree, HandsfreeOfNote, Mute, KeyTimes, Buzzer, Light, LightOn, LightAutoStart, LightAuto, DefaultDuration, KeypadSet, KeypadCleared, Contrast, ContrastAsked, HookAsked, VersionAsked, ClearLine, Inverse}
use Rattle.command.specs.declared.Side.TheVariants.{Left, Right}

-- the fields that an order may set
abbrev pub set_by : Order → List Field
-- IDD, IDE: display off, on
set_by (plain DisplayOff) = display ∷ []
set_by (plain DisplayOn) = display ∷ []
-- IDn, 11 to 18: overlay n, cursor untouched. 0, 1, 5, 6, 10: text mode n, overlay none, cursor position 0,0
set_by (plain (Mode n)) = cond (is_overlay n) (overlay ∷ []) (mode ∷ overlay ∷ row ∷ column ∷ [])
-- &C, &D: cursor shown, not shown
set_by (plain CursorShown) = shown ∷ []
set_by (plain CursorHidden) = shown ∷ []
-- &#: all text and the large line to 0x20, position 0,0
set_by (plain Clear) = text ∷ large_line ∷ row ∷ column ∷ []
-- [n;nH: cursor position
set_by (plain (Position r k)) = row ∷ column ∷ []
-- IK0: both labels empty. IK1t, IK2t: left, right label
set_by (plain LabelsEmpty) = leftLabel ∷ rightLabel ∷ []
set_by (label Left t) = leftLabel ∷ []
set_by (label Right t) = rightLabel ∷ []
-- ISn IUn IFn IRn IPn IWn: that icon
set_by (plain (IconS n)) = iconS ∷ []
set_by (plain (IconU n)) = icon_u ∷ []
set_by (plain (IconF n)) = iconF ∷ []
set_by (plain (IconR n)) = iconR ∷ []
set_by (plain (IconP n)) = icon_p ∷ []
set_by (plain (IconW n)) = iconW ∷ []
-- ILn, IJn, IIn: private, handsfree at n, or none; hidden no, or yes. Mute stays
set_by (plain (Private n)) = which ∷ level ∷ hidden ∷ []
set_by (plain (Handsfree n)) = which ∷ level ∷ hidden ∷ []
set_by (plain (HandsfreeOfNote n)) = which ∷ level ∷ hidden ∷ []
-- IMn: mute; 1 also sets hidden no
set_by (plain (Mute n)) = cond (eqb n 0) (mute ∷ []) (mute ∷ hidden ∷ [])
-- ITn;n: Time1, Time2
set_by (plain (KeyTimes t u)) = time1 ∷ time2 ∷ []
-- IBn: buzzer value
set_by (plain (Buzzer n)) = buzzer ∷ []
-- IE0: backlight off, left 0. IE1 to IE255: duration
set_by (plain (Light n)) = cond (eqb n 0) (light ∷ secondsLeft ∷ []) (duration ∷ [])
-- IEE, IEA, IES: on, left 0; auto, left = duration; auto
set_by (plain LightOn) = light ∷ secondsLeft ∷ []
set_by (plain LightAutoStart) = light ∷ secondsLeft ∷ []
set_by (plain LightAuto) = light ∷ []
-- IER, IEe, IEr: duration 30; keypad flag set; cleared
set_by (plain DefaultDuration) = duration ∷ []
set_by (plain KeypadSet) = keypad ∷ []
set_by (plain KeypadCleared) = keypad ∷ []
-- IAn: contrast. IA, IH, &V: a question sets nothing
set_by (plain (Contrast n)) = contrast ∷ []
set_by (plain ContrastAsked) = []
set_by (plain HookAsked) = []
set_by (plain VersionAsked) = []
-- [K: of text and large line, what stands from the position to the end of its row
set_by (plain ClearLine) = text ∷ large_line ∷ []
-- IZn: the marks
set_by (plain (Inverse n)) = inverse ∷ []
-- a picture frame: picture row r from column 0 takes the columns
set_by (draw r columns) = picture ∷ []

-- the fields that an order reads besides: what it does, whether it is in range or what it is answered goes by them
abbrev pub read_by : Order → List Field
read_by (plain DisplayOff) = []
read_by (plain DisplayOn) = []
read_by (plain (Mode n)) = []
read_by (plain CursorShown) = []
read_by (plain CursorHidden) = []
read_by (plain Clear) = []
-- which rows there are goes by the text mode
read_by (plain (Position r k)) = mode ∷ []
read_by (plain LabelsEmpty) = []
read_by (label side t) = []
read_by (plain (IconS n)) = []
read_by (plain (IconU n)) = []
read_by (plain (IconF n)) = []
read_by (plain (IconR n)) = []
read_by (plain (IconP n)) = []
read_by (plain (IconW n)) = []
read_by (plain (Private n)) = []
read_by (plain (Handsfree n)) = []
read_by (plain (HandsfreeOfNote n)) = []
read_by (plain (Mute n)) = []
read_by (plain (KeyTimes t u)) = []
read_by (plain (Buzzer n)) = []
read_by (plain (Light n)) = []
read_by (plain LightOn) = []
-- left = duration
read_by (plain LightAutoStart) = duration ∷ []
read_by (plain LightAuto) = []
read_by (plain DefaultDuration) = []
read_by (plain KeypadSet) = []
read_by (plain KeypadCleared) = []
read_by (plain (Contrast n)) = []
-- what is asked
read_by (plain ContrastAsked) = contrast ∷ []
read_by (plain HookAsked) = hook ∷ []
read_by (plain VersionAsked) = []
-- from the position to the end of its row, which goes by the text mode
read_by (plain ClearLine) = mode ∷ row ∷ column ∷ []
read_by (plain (Inverse n)) = mode ∷ []
read_by (draw r columns) = []

-- whether an order may set a field
abbrev pub sets : Order → Field → Bool
sets o f = among f (set_by o)

-- whether it sets it or reads it
abbrev pub touches : Order → Field → Bool
touches o f = sets o f || among f (read_by o)
