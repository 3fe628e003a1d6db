-- THE GROUPS (request T-13): a command belongs to the group of each field that it sets or reads, by the tables of what an order touches;
-- a field in none of the groups that the request names is one of its own. Assumes nothing.
use Rattle.std.specs.Prelude.{ℕ, ◌+◌, Bool, true, false, cond, not, ◌&&◌, ◌||◌, List, [], ◌∷◌, ◌++◌, map, eqb, leb}
use Rattle.record.specs.Fields.{Field, display, mode, overlay, row, column, text, large_line, shown, leftLabel, rightLabel, iconS, icon_u, iconF, iconR, icon_p, iconW, which, level, mute, hidden, time1, time2, buzzer, light, duration, secondsLeft, keypad, picture, contrast, hook, inverse, sister, brightness, speaker, pwm, ptt, keys}
use Rattle.command.specs.Order.{plain, label, draw}
use Rattle.sister_command.specs.Order.{AnyOrder, first, own}
use Rattle.effect.specs.Touched.{set_by, read_by}
use Rattle.sister_effect.specs.Touched.{set_by_own, read_by_own}

pub data Group : Type 0 where
  -- text, position, clear, display and mode; clear line, inverse text and the large line belong to it
  Screen : Group
  -- cursor shown
  CursorShown : Group
  -- left label; right label
  LeftLabel RightLabel : Group
  -- each icon
  IconS IconU IconF IconR IconP IconW : Group
  -- volume with mute
  Volume : Group
  -- each picture row
  PictureRow : ℕ → Group
  -- times; buzzer; backlight, to which brightness belongs
  Times Buzzer Backlight : Group
  -- contrast; the sister's speaker volume
  Contrast Speaker : Group
  -- fields in none of these: hook, PTT, her keys, the edition
  Hook Ptt Keys Edition : Group

-- each group has a number of its own
abbrev pub code : Group → ℕ
code =
    elim [ Screen ↦ 0 | CursorShown ↦ 1 | LeftLabel ↦ 2 | RightLabel ↦ 3 | IconS ↦ 4 | IconU ↦ 5 | IconF ↦ 6 | IconR ↦ 7 | IconP ↦ 8 | IconW ↦ 9 | Volume ↦ 10 | Times ↦ 11 | Buzzer ↦ 12 | Backlight ↦ 13 | Contrast ↦ 14 | Speaker ↦ 15 | Hook ↦ 16 | Ptt ↦ 17 | Keys ↦ 18 | Edition ↦ 19 | PictureRow n ↦ 20 + n ]

-- THE GROUP OF A FIELD; of the picture those of the rows that the order draws
abbrev pub groups_at : List ℕ → Field → List Group
groups_at rows display = Screen ∷ []
groups_at rows mode = Screen ∷ []
groups_at rows overlay = Screen ∷ []
groups_at rows row = Screen ∷ []
groups_at rows column = Screen ∷ []
groups_at rows text = Screen ∷ []
groups_at rows large_line = Screen ∷ []
groups_at rows inverse = Screen ∷ []
groups_at rows shown = CursorShown ∷ []
groups_at rows leftLabel = LeftLabel ∷ []
groups_at rows rightLabel = RightLabel ∷ []
groups_at rows iconS = IconS ∷ []
groups_at rows icon_u = IconU ∷ []
groups_at rows iconF = IconF ∷ []
groups_at rows iconR = IconR ∷ []
groups_at rows icon_p = IconP ∷ []
groups_at rows iconW = IconW ∷ []
groups_at rows which = Volume ∷ []
groups_at rows level = Volume ∷ []
groups_at rows mute = Volume ∷ []
groups_at rows hidden = Volume ∷ []
groups_at rows picture = map PictureRow rows
groups_at rows time1 = Times ∷ []
groups_at rows time2 = Times ∷ []
groups_at rows buzzer = Buzzer ∷ []
groups_at rows light = Backlight ∷ []
groups_at rows duration = Backlight ∷ []
groups_at rows secondsLeft = Backlight ∷ []
groups_at rows keypad = Backlight ∷ []
groups_at rows pwm = Backlight ∷ []
groups_at rows brightness = Backlight ∷ []
groups_at rows contrast = Contrast ∷ []
groups_at rows speaker = Speaker ∷ []
groups_at rows hook = Hook ∷ []
groups_at rows ptt = Ptt ∷ []
groups_at rows keys = Keys ∷ []
groups_at rows sister = Edition ∷ []

-- a picture frame draws its row, and none if it is of row 7 to 9; what else touches the picture touches every row
abbrev pub every_row : List ℕ
every_row = 0 ∷ 1 ∷ 2 ∷ 3 ∷ 4 ∷ 5 ∷ 6 ∷ []

abbrev pub rows_drawn : AnyOrder → List ℕ
rows_drawn (first (draw n columns)) = cond (leb n 6) (n ∷ []) []
rows_drawn (first (plain command)) = every_row
rows_drawn (first (label side codes)) = every_row
rows_drawn (own command) = every_row

-- the fields that an order sets or reads
abbrev pub touched : AnyOrder → List Field
touched (first o) = set_by o ++ read_by o
touched (own command) = set_by_own command ++ read_by_own command

abbrev pub groups_over : List ℕ → List Field → List Group
groups_over rows [] = []
groups_over rows (f ∷ more) = groups_at rows f ++ groups_over rows more

-- THE GROUPS OF AN ORDER
abbrev pub groups_of : AnyOrder → List Group
groups_of o = groups_over (rows_drawn o) (touched o)

abbrev pub belongs : Group → List Group → Bool
belongs g [] = false
belongs g (h ∷ more) = eqb (code g) (code h) || belongs g more

abbrev pub none_in : List Group → List Group → Bool
none_in [] others = true
none_in (g ∷ more) others = not (belongs g others) && none_in more others

-- NO GROUP IN COMMON
abbrev pub none_in_common : AnyOrder → AnyOrder → Bool
none_in_common o p = none_in (groups_of o) (groups_of p)
