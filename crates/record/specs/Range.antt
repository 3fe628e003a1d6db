-- The range of each field, in the order and the words of document 01's table. A byte is at most 255 and a tick at most 65,535 by
-- its type, so no test says so, except where a command's number, which is no byte, is judged by the same line. Assumes nothing.
use Rattle.std.specs.Prelude.{ℕ, ◌+◌, ◌*◌, ◌^◌, List, [], ◌∷◌, Bool, not, cond, ◌&&◌, ◌||◌, ltb, leb, eqb, length, take, drop}
use Rattle.std.proofs.Math.Seq.{slice}
use Rattle.lists.specs.Codes.{escape, carriage_return, blank}
use Rattle.lists.specs.Every.{every}
use Rattle.record.specs.declared.Record.{Record}
use Rattle.record.specs.declared.Settings.{Settings}
use Rattle.record.specs.declared.Screen.{Screen}
use Rattle.record.specs.declared.Label.{Label}
use Rattle.record.specs.declared.Icons.{Icons}
use Rattle.record.specs.declared.Volume.{Volume}
use Rattle.record.specs.declared.Times.{Times}
use Rattle.record.specs.declared.Backlight.{Backlight}
use Rattle.record.specs.declared.Held.{Held}
use Rattle.record.specs.declared.Frame.{Frame}
use Rattle.record.specs.declared.Keys.{Keys}
use Rattle.record.specs.declared.Edition.{Edition}

-- Sizes -----------------------------------------------------------------------------------------------------------

-- the text mode of large digits: its one row is the large line
abbrev pub large : ℕ
large = 10

-- the rows of a text mode: 4 for modes 0 and 1, 5 for 5 and 6, 1 for 10
abbrev pub rows_of : ℕ → ℕ
rows_of mode = cond (leb mode 1) 4 (cond (eqb mode large) 1 5)

-- the column past the last one of a row, where text stops: 16; the large line has 24 codes (note 3.5.29: 16 small and 8 big)
abbrev pub row_end_of : ℕ → ℕ
row_end_of mode = cond (eqb mode large) 24 16

-- where the large line begins among the codes that are kept: after the 5 rows of 16
abbrev pub line_start : ℕ
line_start = 5 * 16

-- where a row's codes begin
abbrev pub row_start_of : ℕ → ℕ → ℕ
row_start_of mode row = cond (eqb mode large) line_start (row * 16)

-- the five rows and the large line of the codes that are kept
abbrev pub text_of : List ℕ → List ℕ
text_of t = take line_start t

abbrev pub line_of : List ℕ → List ℕ
line_of t = drop line_start t

-- Places of an array ----------------------------------------------------------------------------------------------

-- a text code: 0x20 to 0xFF
abbrev pub is_code : ℕ → Bool
is_code b = leb blank b

-- a column of picture row 6: below 32
abbrev pub is_low_column : ℕ → Bool
is_low_column b = ltb b 32

-- a byte of a frame: neither 0x1B nor 0x0D
abbrev pub is_frame_byte : ℕ → Bool
is_frame_byte b = not (eqb b escape) && not (eqb b carriage_return)

-- an unused place holds zero
abbrev pub is_unused : ℕ → Bool
is_unused b = eqb b 0

-- The table -------------------------------------------------------------------------------------------------------

-- display: on, off. It is a flag, and so are cursor shown, mute, hidden, the keypad flag and the hook.

-- text mode: 0, 1, 5, 6, 10
abbrev pub mode_in_range : ℕ → Bool
mode_in_range n = eqb n 0 || eqb n 1 || eqb n 5 || eqb n 6 || eqb n large

-- overlay: none (0), 11 to 18
abbrev pub overlay_in_range : ℕ → Bool
overlay_in_range n = eqb n 0 || (leb 11 n && leb n 18)

-- cursor: row below the mode's rows; column 0 to the row's end
abbrev pub row_in_range : ℕ → ℕ → Bool
row_in_range mode row = ltb row (rows_of mode)

abbrev pub cursor_in_range : Screen → Bool
cursor_in_range s = row_in_range s.mode s.row && leb s.column (row_end_of s.mode)

-- all that a screen has
abbrev pub screen_in_range : Screen → Bool
screen_in_range s = mode_in_range s.mode && overlay_in_range s.overlay && cursor_in_range s

-- text: 5 rows of 16 codes, and the large line of 24, 0x20 to 0xFF
unfoldable pub text_in_range : List ℕ → Bool
text_in_range t = eqb (length t) (line_start + 24) && every is_code t

-- labels: 0 to 7 codes, 0x20 to 0xFF; unused places hold zero
unfoldable pub label_in_range : Label → Bool
label_in_range l =
    eqb (length l.codes) 7 && leb l.len 7 && every is_code (slice 0 l.len l.codes) && every is_unused (slice l.len 7 l.codes)

-- picture: 7 rows of 96 columns, 0 to 255; row 6 below 32
unfoldable pub picture_in_range : List ℕ → Bool
picture_in_range g = eqb (length g) (7 * 96) && every is_low_column (slice (6 * 96) (7 * 96) g)

-- icons: S 0-1, U 0, 1 or 255, F 0-6, R 0-1, P 0-19, W 0-3
abbrev pub icon_s_in_range : ℕ → Bool
icon_s_in_range n = leb n 1

abbrev pub icon_u_in_range : ℕ → Bool
icon_u_in_range n = eqb n 0 || eqb n 1 || eqb n 255

abbrev pub icon_f_in_range : ℕ → Bool
icon_f_in_range n = leb n 6

abbrev pub icon_r_in_range : ℕ → Bool
icon_r_in_range n = leb n 1

abbrev pub icon_p_in_range : ℕ → Bool
icon_p_in_range n = leb n 19

abbrev pub icon_w_in_range : ℕ → Bool
icon_w_in_range n = leb n 3

abbrev pub icons_in_range : Icons → Bool
icons_in_range i =
    icon_s_in_range i.s && icon_u_in_range i.u && icon_f_in_range i.f && icon_r_in_range i.r && icon_p_in_range i.p && icon_w_in_range i.w

-- volume: which (none 0, private 1, handsfree 2), level (0 for none, else 1-10), mute, hidden (only with none)
abbrev pub which_in_range : ℕ → Bool
which_in_range which = leb which 2

abbrev pub level_in_range : ℕ → ℕ → Bool
level_in_range which level = (eqb which 0 && eqb level 0) || (not (eqb which 0) && leb 1 level && leb level 10)

abbrev pub volume_in_range : Volume → Bool
volume_in_range v = which_in_range v.which && level_in_range v.which v.level && (eqb v.which 0 || not v.hidden)

-- times: Time1 4-50; Time2 0 or 4-50
abbrev pub time1_in_range : ℕ → Bool
time1_in_range n = leb 4 n && leb n 50

abbrev pub time2_in_range : ℕ → Bool
time2_in_range n = eqb n 0 || (leb 4 n && leb n 50)

abbrev pub times_in_range : Times → Bool
times_in_range t = time1_in_range t.time1.0 && time2_in_range t.time2.0

-- buzzer: last value 0-255
abbrev pub buzzer_in_range : ℕ → Bool
buzzer_in_range n = leb n 255

-- backlight: off 0, on 1, auto 2; duration 1-255; left 0-255, above 0 only in auto; keypad flag
abbrev pub off : ℕ
off = 0

abbrev pub on : ℕ
on = 1

abbrev pub auto : ℕ
auto = 2

abbrev pub duration_in_range : ℕ → Bool
duration_in_range n = leb 1 n && leb n 255

abbrev pub backlight_in_range : Backlight → Bool
backlight_in_range b = leb b.mode auto && duration_in_range b.duration.0 && (eqb b.left.0 0 || eqb b.mode auto)

-- contrast: 1 to 20
abbrev pub contrast_in_range : ℕ → Bool
contrast_in_range n = leb 1 n && leb n 20

-- hook: on or off, a flag

-- inverse marks: a flag for each of the five text rows, at most one set
abbrev pub marked : List Bool → ℕ
marked [] = 0
marked (mark ∷ more) = cond mark 1 0 + marked more

unfoldable pub inverse_in_range : List Bool → Bool
inverse_in_range marks = eqb (length marks) 5 && leb (marked marks) 1

-- held key: none (all places zero), or key 0-18, tick 0-65535, stage short or long
abbrev pub key_in_range : ℕ → Bool
key_in_range key = leb key 18

abbrev pub held_in_range : Held → Bool
held_in_range h = (h.down && key_in_range h.key) || (not h.down && eqb h.key 0 && eqb h.tick.0 0 && not h.long)

-- frame: none 0, or open 1 with up to 250 bytes without 0x1B and 0x0D, or overlong 2; unused places hold zero
unfoldable pub frame_in_range : Frame → Bool
frame_in_range f =
    eqb (length f.bytes) 250 && leb f.len 250 && leb f.state 2 && (eqb f.state 1 || eqb f.len 0)
    && every is_frame_byte (slice 0 f.len f.bytes) && every is_unused (slice f.len 250 f.bytes)

-- The sister's ranges where they are not the first edition's -----------------------------------------------------------

-- contrast: 0 to 20
abbrev pub sister_contrast : ℕ → Bool
sister_contrast n = leb n 20

-- brightness: 0 to 100
abbrev pub brightness_in_range : ℕ → Bool
brightness_in_range n = leb n 100

-- speaker volume: 0 to 7
abbrev pub speaker_in_range : ℕ → Bool
speaker_in_range n = leb n 7

-- times: as in the first edition, or 0 and 0
abbrev pub sister_times : Times → Bool
sister_times t = times_in_range t || (eqb t.time1.0 0 && eqb t.time2.0 0)

-- backlight: duration 1-250, left 0-250, above 0 only in auto; PWM with on and auto
abbrev pub sister_backlight : Backlight → Bool → Bool
sister_backlight b pwm = backlight_in_range b && leb b.duration.0 250 && leb b.left.0 250 && (not pwm || not (eqb b.mode off))

-- the first edition's held key is unused
abbrev pub held_unused : Held → Bool
held_unused h = not h.down && eqb h.key 0 && eqb h.tick.0 0 && not h.long

-- what only she has is unused in the first edition: zero
abbrev pub keys_unused : Keys → Bool
keys_unused k = eqb k.stage 0 && eqb k.key 0 && eqb k.tick.0 0 && eqb k.down 0

abbrev pub edition_unused : Edition → Bool
edition_unused e = eqb e.brightness 0 && eqb e.speaker 0 && not e.pwm && not e.ptt && keys_unused e.keys

-- the stages of her keys
abbrev pub stage_none : ℕ
stage_none = 0

abbrev pub stage_short : ℕ
stage_short = 1

abbrev pub stage_long : ℕ
stage_long = 2

abbrev pub stage_false : ℕ
stage_false = 3

-- held keys: none 0; short 1 or long 2 with one key 0-20 and a tick; false 3: one or more of keys 0-20 down, a bit each, which are used in
-- this state alone
abbrev pub keys_in_range : Keys → Bool
keys_in_range k =
    keys_unused k
    || ((eqb k.stage stage_short || eqb k.stage stage_long) && leb k.key 20 && eqb k.down 0)
    || (eqb k.stage stage_false && eqb k.key 0 && eqb k.tick.0 0 && leb 1 k.down && ltb k.down (2 ^ 21))

-- By the edition ----------------------------------------------------------------------------------------------------

abbrev pub times_kept : Bool → Times → Bool
times_kept sister t = cond sister (sister_times t) (times_in_range t)

abbrev pub backlight_kept : Bool → Bool → Backlight → Bool
backlight_kept sister pwm b = cond sister (sister_backlight b pwm) (backlight_in_range b)

abbrev pub contrast_kept : Bool → ℕ → Bool
contrast_kept sister n = cond sister (sister_contrast n) (contrast_in_range n)

abbrev pub held_kept : Bool → Held → Bool
held_kept sister h = cond sister (held_unused h) (held_in_range h)

abbrev pub edition_kept : Edition → Bool
edition_kept e = cond e.sister (brightness_in_range e.brightness && speaker_in_range e.speaker && keys_in_range e.keys) (edition_unused e)

-- The whole -------------------------------------------------------------------------------------------------------

-- the settings but for the labels
abbrev pub plain_in_range : Bool → Bool → Settings → Bool
plain_in_range sister pwm p =
    screen_in_range p.screen
    && icons_in_range p.icons
    && volume_in_range p.volume
    && times_kept sister p.times
    && buzzer_in_range p.buzzer.0
    && backlight_kept sister pwm p.backlight
    && contrast_kept sister p.contrast
    && inverse_in_range p.inverse

abbrev pub settings_in_range : Bool → Bool → Settings → Bool
settings_in_range sister pwm p = plain_in_range sister pwm p && label_in_range p.left && label_in_range p.right

-- every field is within its range, in the record's edition
unfoldable pub in_range : Record → Bool
in_range r =
    settings_in_range r.edition.sister r.edition.pwm r.settings && text_in_range r.text && picture_in_range r.picture && held_kept r.edition.sister r.held
    && frame_in_range r.frame && edition_kept r.edition
