-- What a stream can change of the record: all but its held key and its frame. Assumes nothing.
use Rattle.std.specs.Prelude.{List, ℕ}
use Rattle.record.specs.declared.Settings.{Settings}
use Rattle.record.specs.declared.Screen.{Screen}
use Rattle.record.specs.declared.Icons.{Icons}
use Rattle.record.specs.declared.Volume.{Volume}
use Rattle.record.specs.declared.Backlight.{Backlight}
use Rattle.record.specs.declared.Edition.{Edition}
use Rattle.record.specs.declared.Record.{Record}
use Rattle.record.specs.With.{with_screen, with_icons, with_volume, with_backlight}

pub record Core : Type 0 where
  pub settings : Settings
  pub text : List ℕ
  pub picture : List ℕ
  pub edition : Edition

abbrev pub core_of : Record → Core
core_of r = record { settings = r.settings; text = r.text; picture = r.picture; edition = r.edition }

-- the core with one part of it changed
abbrev pub on_settings : Core → Settings → Core
on_settings c new = record { settings = new; text = c.text; picture = c.picture; edition = c.edition }

abbrev pub on_text : Core → List ℕ → Core
on_text c new = record { settings = c.settings; text = new; picture = c.picture; edition = c.edition }

abbrev pub on_picture : Core → List ℕ → Core
on_picture c new = record { settings = c.settings; text = c.text; picture = new; edition = c.edition }

abbrev pub on_edition : Core → Edition → Core
on_edition c new = record { settings = c.settings; text = c.text; picture = c.picture; edition = new }

abbrev pub on_screen : Core → Screen → Core
on_screen c new = on_settings c (with_screen c.settings new)

abbrev pub on_icons : Core → Icons → Core
on_icons c new = on_settings c (with_icons c.settings new)

abbrev pub on_volume : Core → Volume → Core
on_volume c new = on_settings c (with_volume c.settings new)

abbrev pub on_backlight : Core → Backlight → Core
on_backlight c new = on_settings c (with_backlight c.settings new)
