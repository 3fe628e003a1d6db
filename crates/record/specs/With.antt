-- The record, or a struct of it, with one field changed and nothing else. Effects are made of these. Assumes nothing.
use Rattle.std.specs.Prelude.{ℕ, Bool, List}
use Rattle.record.specs.declared.Record.{Record}
use Rattle.record.specs.declared.Settings.{Settings}
use Rattle.record.specs.declared.Screen.{Screen}
use Rattle.record.specs.declared.Label.{Label}
use Rattle.record.specs.declared.Icons.{Icons}
use Rattle.record.specs.declared.Volume.{Volume}
use Rattle.record.specs.declared.Times.{Times}
use Rattle.record.specs.declared.Hundredths.{Hundredths}
use Rattle.record.specs.declared.Seconds.{Seconds}
use Rattle.record.specs.declared.Backlight.{Backlight}
use Rattle.record.specs.declared.Held.{Held}
use Rattle.record.specs.declared.Frame.{Frame}
use Rattle.record.specs.declared.Keys.{Keys}
use Rattle.record.specs.declared.Edition.{Edition}

-- Record --------------------------------------------------------------------------------------------------------

abbrev pub with_settings : Record → Settings → Record
with_settings r new = record { settings = new; text = r.text; picture = r.picture; held = r.held; frame = r.frame; edition = r.edition }

abbrev pub with_text : Record → List ℕ → Record
with_text r new = record { settings = r.settings; text = new; picture = r.picture; held = r.held; frame = r.frame; edition = r.edition }

abbrev pub with_picture : Record → List ℕ → Record
with_picture r new = record { settings = r.settings; text = r.text; picture = new; held = r.held; frame = r.frame; edition = r.edition }

abbrev pub with_held : Record → Held → Record
with_held r new = record { settings = r.settings; text = r.text; picture = r.picture; held = new; frame = r.frame; edition = r.edition }

abbrev pub with_frame : Record → Frame → Record
with_frame r new = record { settings = r.settings; text = r.text; picture = r.picture; held = r.held; frame = new; edition = r.edition }

abbrev pub with_edition : Record → Edition → Record
with_edition r new = record { settings = r.settings; text = r.text; picture = r.picture; held = r.held; frame = r.frame; edition = new }

-- Settings ---------------------------------------------------------------------------------------------------------

abbrev pub with_screen : Settings → Screen → Settings
with_screen p new = record { screen = new; shown = p.shown; left = p.left; right = p.right; icons = p.icons; volume = p.volume; times = p.times; buzzer = p.buzzer; backlight = p.backlight; contrast = p.contrast; hook = p.hook; inverse = p.inverse }

abbrev pub with_shown : Settings → Bool → Settings
with_shown p new = record { screen = p.screen; shown = new; left = p.left; right = p.right; icons = p.icons; volume = p.volume; times = p.times; buzzer = p.buzzer; backlight = p.backlight; contrast = p.contrast; hook = p.hook; inverse = p.inverse }

abbrev pub with_left : Settings → Label → Settings
with_left p new = record { screen = p.screen; shown = p.shown; left = new; right = p.right; icons = p.icons; volume = p.volume; times = p.times; buzzer = p.buzzer; backlight = p.backlight; contrast = p.contrast; hook = p.hook; inverse = p.inverse }

abbrev pub with_right : Settings → Label → Settings
with_right p new = record { screen = p.screen; shown = p.shown; left = p.left; right = new; icons = p.icons; volume = p.volume; times = p.times; buzzer = p.buzzer; backlight = p.backlight; contrast = p.contrast; hook = p.hook; inverse = p.inverse }

abbrev pub with_icons : Settings → Icons → Settings
with_icons p new = record { screen = p.screen; shown = p.shown; left = p.left; right = p.right; icons = new; volume = p.volume; times = p.times; buzzer = p.buzzer; backlight = p.backlight; contrast = p.contrast; hook = p.hook; inverse = p.inverse }

abbrev pub with_volume : Settings → Volume → Settings
with_volume p new = record { screen = p.screen; shown = p.shown; left = p.left; right = p.right; icons = p.icons; volume = new; times = p.times; buzzer = p.buzzer; backlight = p.backlight; contrast = p.contrast; hook = p.hook; inverse = p.inverse }

abbrev pub with_times : Settings → Times → Settings
with_times p new = record { screen = p.screen; shown = p.shown; left = p.left; right = p.right; icons = p.icons; volume = p.volume; times = new; buzzer = p.buzzer; backlight = p.backlight; contrast = p.contrast; hook = p.hook; inverse = p.inverse }

abbrev pub with_buzzer : Settings → Hundredths → Settings
with_buzzer p new = record { screen = p.screen; shown = p.shown; left = p.left; right = p.right; icons = p.icons; volume = p.volume; times = p.times; buzzer = new; backlight = p.backlight; contrast = p.contrast; hook = p.hook; inverse = p.inverse }

abbrev pub with_backlight : Settings → Backlight → Settings
with_backlight p new = record { screen = p.screen; shown = p.shown; left = p.left; right = p.right; icons = p.icons; volume = p.volume; times = p.times; buzzer = p.buzzer; backlight = new; contrast = p.contrast; hook = p.hook; inverse = p.inverse }

abbrev pub with_contrast : Settings → ℕ → Settings
with_contrast p new = record { screen = p.screen; shown = p.shown; left = p.left; right = p.right; icons = p.icons; volume = p.volume; times = p.times; buzzer = p.buzzer; backlight = p.backlight; contrast = new; hook = p.hook; inverse = p.inverse }

abbrev pub with_hook : Settings → Bool → Settings
with_hook p new = record { screen = p.screen; shown = p.shown; left = p.left; right = p.right; icons = p.icons; volume = p.volume; times = p.times; buzzer = p.buzzer; backlight = p.backlight; contrast = p.contrast; hook = new; inverse = p.inverse }

abbrev pub with_inverse : Settings → List Bool → Settings
with_inverse p new = record { screen = p.screen; shown = p.shown; left = p.left; right = p.right; icons = p.icons; volume = p.volume; times = p.times; buzzer = p.buzzer; backlight = p.backlight; contrast = p.contrast; hook = p.hook; inverse = new }

-- Screen --------------------------------------------------------------------------------------------------------

abbrev pub with_display : Screen → Bool → Screen
with_display s new = record { display = new; mode = s.mode; overlay = s.overlay; row = s.row; column = s.column }

abbrev pub with_mode : Screen → ℕ → Screen
with_mode s new = record { display = s.display; mode = new; overlay = s.overlay; row = s.row; column = s.column }

abbrev pub with_overlay : Screen → ℕ → Screen
with_overlay s new = record { display = s.display; mode = s.mode; overlay = new; row = s.row; column = s.column }

abbrev pub with_row : Screen → ℕ → Screen
with_row s new = record { display = s.display; mode = s.mode; overlay = s.overlay; row = new; column = s.column }

abbrev pub with_column : Screen → ℕ → Screen
with_column s new = record { display = s.display; mode = s.mode; overlay = s.overlay; row = s.row; column = new }

-- Icons ---------------------------------------------------------------------------------------------------------

abbrev pub with_icon_s : Icons → ℕ → Icons
with_icon_s i new = record { s = new; u = i.u; f = i.f; r = i.r; p = i.p; w = i.w }

abbrev pub with_icon_u : Icons → ℕ → Icons
with_icon_u i new = record { s = i.s; u = new; f = i.f; r = i.r; p = i.p; w = i.w }

abbrev pub with_icon_f : Icons → ℕ → Icons
with_icon_f i new = record { s = i.s; u = i.u; f = new; r = i.r; p = i.p; w = i.w }

abbrev pub with_icon_r : Icons → ℕ → Icons
with_icon_r i new = record { s = i.s; u = i.u; f = i.f; r = new; p = i.p; w = i.w }

abbrev pub with_icon_p : Icons → ℕ → Icons
with_icon_p i new = record { s = i.s; u = i.u; f = i.f; r = i.r; p = new; w = i.w }

abbrev pub with_icon_w : Icons → ℕ → Icons
with_icon_w i new = record { s = i.s; u = i.u; f = i.f; r = i.r; p = i.p; w = new }

-- Volume --------------------------------------------------------------------------------------------------------

abbrev pub with_which : Volume → ℕ → Volume
with_which v new = record { which = new; level = v.level; mute = v.mute; hidden = v.hidden }

abbrev pub with_level : Volume → ℕ → Volume
with_level v new = record { which = v.which; level = new; mute = v.mute; hidden = v.hidden }

abbrev pub with_mute : Volume → Bool → Volume
with_mute v new = record { which = v.which; level = v.level; mute = new; hidden = v.hidden }

abbrev pub with_hidden : Volume → Bool → Volume
with_hidden v new = record { which = v.which; level = v.level; mute = v.mute; hidden = new }

-- Backlight -----------------------------------------------------------------------------------------------------

abbrev pub with_light : Backlight → ℕ → Backlight
with_light b new = record { mode = new; duration = b.duration; left = b.left; keypad = b.keypad }

abbrev pub with_duration : Backlight → Seconds → Backlight
with_duration b new = record { mode = b.mode; duration = new; left = b.left; keypad = b.keypad }

abbrev pub with_seconds_left : Backlight → Seconds → Backlight
with_seconds_left b new = record { mode = b.mode; duration = b.duration; left = new; keypad = b.keypad }

abbrev pub with_keypad : Backlight → Bool → Backlight
with_keypad b new = record { mode = b.mode; duration = b.duration; left = b.left; keypad = new }

-- Times ---------------------------------------------------------------------------------------------------------

abbrev pub with_time1 : Times → ℕ → Times
with_time1 t new = record { time1 = record { 0 = new }; time2 = t.time2 }

abbrev pub with_time2 : Times → ℕ → Times
with_time2 t new = record { time1 = t.time1; time2 = record { 0 = new } }

-- Edition -----------------------------------------------------------------------------------------------------------

-- no call does this: it is said for the laws on fields
abbrev pub with_sister : Edition → Bool → Edition
with_sister e new = record { sister = new; brightness = e.brightness; speaker = e.speaker; pwm = e.pwm; ptt = e.ptt; keys = e.keys }

abbrev pub with_brightness : Edition → ℕ → Edition
with_brightness e new = record { sister = e.sister; brightness = new; speaker = e.speaker; pwm = e.pwm; ptt = e.ptt; keys = e.keys }

abbrev pub with_speaker : Edition → ℕ → Edition
with_speaker e new = record { sister = e.sister; brightness = e.brightness; speaker = new; pwm = e.pwm; ptt = e.ptt; keys = e.keys }

abbrev pub with_pwm : Edition → Bool → Edition
with_pwm e new = record { sister = e.sister; brightness = e.brightness; speaker = e.speaker; pwm = new; ptt = e.ptt; keys = e.keys }

abbrev pub with_ptt : Edition → Bool → Edition
with_ptt e new = record { sister = e.sister; brightness = e.brightness; speaker = e.speaker; pwm = e.pwm; ptt = new; keys = e.keys }

abbrev pub with_keys : Edition → Keys → Edition
with_keys e new = record { sister = e.sister; brightness = e.brightness; speaker = e.speaker; pwm = e.pwm; ptt = e.ptt; keys = new }
