-- Whatever a frame orders and whatever text byte comes, the core stays within its ranges. Assumes nothing.
use Rattle.std.specs.Prelude.{ℕ, zero, suc, ◌+◌, ◌*◌, ◌-◌, ◌%◌, ◌<◌, ◌≤◌, Bool, true, false, cond, ◌&&◌, ◌||◌, List, [], ◌∷◌, map, ◌≡◌, refl, leb, ltb, eqb, length, set, drop, replicate}
use Rattle.std.proofs.Common.{arith, mod-lt, true≢false, sym, ap, ◌∙◌, length-set, take_all, leb-true, ltb-true, lt-ltb, le-leb, eq-eqb}
use Rattle.std.proofs.Math.Bool.{or-true}
use Rattle.std.proofs.Math.Option.{Option, none, some}
use Rattle.std.proofs.lemmas.List.{length-map}
use Rattle.std.proofs.lemmas.List.Edits.{sets}
use Rattle.std.proofs.Math.Seq.{length-sets, drop-append_seam}
use Rattle.std.proofs.lemmas.Bool.{eqb-false}
use Rattle.lists.specs.Both.{both, and_both}
use Rattle.lists.specs.Codes.{blank}
use Rattle.lists.specs.Every.{every}
use Rattle.lists.specs.Padded.{padded, held, length_padded}
use Rattle.record.specs.declared.Record.{Record}
use Rattle.record.specs.declared.Settings.{Settings}
use Rattle.record.specs.declared.Screen.{Screen}
use Rattle.record.specs.declared.Icons.{Icons}
use Rattle.record.specs.declared.Volume.{Volume}
use Rattle.record.specs.declared.Backlight.{Backlight}
use Rattle.record.specs.declared.Held.{Held}
use Rattle.record.specs.declared.Frame.{Frame}
use Rattle.record.specs.Laws.{SettingsRanges, Ranges, screen_set, shown_set, labels_set, icons_set, volume_set, times_set, buzzer_set, backlight_set, contrast_set, inverse_set, of_first}
use Rattle.record.specs.Range.{large, rows_of, row_end_of, line_start, row_start_of, is_code, is_low_column, is_unused, mode_in_range, overlay_in_range, cursor_in_range, text_in_range, label_in_range, picture_in_range, icon_s_in_range, icon_u_in_range, icon_f_in_range, icon_r_in_range, icon_p_in_range, icon_w_in_range, icons_in_range, which_in_range, level_in_range, volume_in_range, duration_in_range, backlight_in_range, backlight_kept, contrast_in_range, contrast_kept, inverse_in_range, held_kept, edition_kept, frame_in_range}
use Rattle.record.specs.With.{with_icon_s, with_icon_u, with_icon_f, with_icon_r, with_icon_p, with_icon_w}
use Rattle.command.specs.Order.{Order, plain, label, draw}
use Rattle.command.specs.Kind.{same_kind}
use Rattle.command.specs.declared.Command.{Command}
use Rattle.command.specs.InRange.{is_overlay, is_column, rows_named, in_range_in_mode}
use Rattle.command.specs.Grammar.{Spells}
use Rattle.command.specs.Reading.{order_of}
use Rattle.command.proofs.Sound.{sound}
use Rattle.command.specs.Facts.{LabelText, PictureRow, read_label, read_row}
use Rattle.command.specs.declared.Command.TheVariants.{DisplayOff, DisplayOn, Mode, CursorShown, CursorHidden, Clear, Position, LabelsEmpty, IconS, IconU, IconF, IconR, IconP, IconW, Private, Handsfree, HandsfreeOfNote, Mute, KeyTimes, Buzzer, Light, LightOn, LightAutoStart, LightAuto, DefaultDuration, KeypadSet, KeypadCleared, Contrast, ContrastAsked, HookAsked, VersionAsked, ClearLine, Inverse}
use Rattle.command.specs.declared.Side.TheVariants.{Left, Right}
use Rattle.record.specs.Core.{Core, core_of, on_settings, on_text, on_picture, on_screen, on_icons, on_volume, on_backlight}
use Rattle.effect_modes.specs.Modes.{at, in_mode, at_level}
use Rattle.effect.specs.Effect.{blanks, label_of, muted, light_at, line_cleared, marks_of, kept_in, drawn, effect, carry_out, store_text}
use Rattle.effect.specs.Obey.{obey_order}
use Rattle.effect.specs.Sets.{every_set, every_sets, every_replicate, sets_keep}

-- The rows of document 01's table that a core has.
pub record CoreInRange (c : Core) : Type 0 where
  pub settings : SettingsRanges c.edition.sister c.edition.pwm c.settings
  pub text : text_in_range c.text ≡ true
  pub picture : picture_in_range c.picture ≡ true
  pub edition : edition_kept c.edition ≡ true

-- A record in range has its core in range; a core, a held key and a frame in range make a record in range.
pub core_of_record : (r : Record) → Ranges r → CoreInRange (core_of r)
core_of_record r k = record { settings = k.settings; text = k.text; picture = k.picture; edition = k.edition }

abbrev pub record_of : Core → Held → Frame → Record
record_of c held frame = record { settings = c.settings; text = c.text; picture = c.picture; held = held; frame = frame; edition = c.edition }

pub record_of_core : (c : Core) (held : Held) (frame : Frame) → CoreInRange c → held_kept c.edition.sister held ≡ true → frame_in_range frame ≡ true → Ranges (record_of c held frame)
record_of_core c held frame k h f = record { settings = k.settings; text = k.text; picture = k.picture; held = h; frame = f; edition = k.edition }

-- One part changed ------------------------------------------------------------------------------------------------

module _ (c : Core) (k : CoreInRange c) where
  pub on_settings_lem : {p : Settings} → SettingsRanges c.edition.sister c.edition.pwm p → CoreInRange (on_settings c p)
  on_settings_lem h = record { settings = h; text = k.text; picture = k.picture; edition = k.edition }

  on_screen_lem : (s : Screen) → mode_in_range s.mode ≡ true → overlay_in_range s.overlay ≡ true → cursor_in_range s ≡ true → CoreInRange (on_screen c s)
  on_screen_lem s m o p = on_settings_lem (screen_set k.settings s (record { mode = m; overlay = o; cursor = p }))

  pub on_icons_lem : (i : Icons) → icons_in_range i ≡ true → CoreInRange (on_icons c i)
  on_icons_lem i h = on_settings_lem (icons_set k.settings i h)

  on_volume_lem : (v : Volume) → volume_in_range v ≡ true → CoreInRange (on_volume c v)
  on_volume_lem v h = on_settings_lem (volume_set k.settings v h)

  on_backlight_lem : (b : Backlight) → backlight_kept c.edition.sister c.edition.pwm b ≡ true → CoreInRange (on_backlight c b)
  on_backlight_lem b h = on_settings_lem (backlight_set k.settings b h)

  on_text_lem : (t : List ℕ) → text_in_range t ≡ true → CoreInRange (on_text c t)
  on_text_lem t h = record { settings = k.settings; text = h; picture = k.picture; edition = k.edition }

  on_picture_lem : (g : List ℕ) → picture_in_range g ≡ true → CoreInRange (on_picture c g)
  on_picture_lem g h = record { settings = k.settings; text = k.text; picture = h; edition = k.edition }

-- The parts -------------------------------------------------------------------------------------------------------

-- either test holds
or_right : {a b : Bool} → (a || b) ≡ true → a ≡ false → b ≡ true
or_right {a = true} h e = absurd (true≢false e)
or_right {a = false} h e = h

or_left : {a b : Bool} → (a || b) ≡ true → b ≡ false → a ≡ true
or_left {a = true} h e = refl
or_left {a = false} h e = absurd (true≢false (sym h ∙ e))

-- position 0,0 is in every mode
home : (mode : ℕ) → (ltb 0 (rows_of mode) && leb 0 (row_end_of mode)) ≡ true
home mode = cases (leb mode 1) (eqb mode large)
  where
    cases : (few line : Bool) → (ltb 0 (cond few 4 (cond line 1 5)) && leb 0 (cond line 24 16)) ≡ true
    cases true true = refl
    cases true false = refl
    cases false true = refl
    cases false false = refl

-- and so is every position that a frame can name
named_position : (mode row column : ℕ) → ltb row (rows_named mode) ≡ true → is_column column ≡ true → (ltb row (rows_of mode) && leb column (row_end_of mode)) ≡ true
named_position mode row column = cases (eqb mode large)
  where
    cases : (line : Bool) → ltb row (cond line 0 (rows_of mode)) ≡ true → is_column column ≡ true → (ltb row (rows_of mode) && leb column (cond line 24 16)) ≡ true
    cases true r h = absurd (omega (arith, ltb-true row 0 r))
    cases false r h = and_both r (le-leb column 16 (omega (arith, leb-true column 15 h)))

pub mode_keeps : (c : Core) (n : ℕ) → CoreInRange c → (mode_in_range n || is_overlay n) ≡ true → CoreInRange (effect (plain (Mode n)) c)
mode_keeps c n k h = cases (is_overlay n) refl
  where
    cases : (b : Bool) → is_overlay n ≡ b → CoreInRange (on_screen c (cond b (record { display = c.settings.screen.display; mode = c.settings.screen.mode; overlay = n; row = c.settings.screen.row; column = c.settings.screen.column }) (in_mode c.settings.screen n)))
    cases true e = on_screen_lem c k _ k.settings.screen.mode (both {a = overlay_in_range n} e).0 k.settings.screen.cursor
    cases false e = on_screen_lem c k (in_mode c.settings.screen n) (or_left h e) refl (home n)

unused_codes : (t : List ℕ) → every is_unused (drop (length t) (padded 7 t)) ≡ true
unfolding padded
unused_codes t = rw (drop-append_seam t (replicate (7 - length t) 0)) (every_replicate is_unused (7 - length t) 0 refl)

-- a label of the grammar
label_keeps : (t : List ℕ) → LabelText t → label_in_range (label_of t) ≡ true
unfolding label_in_range
label_keeps t l =
    and_both (and_both (and_both (eq-eqb (length (padded 7 t)) 7 (length_padded 7 t l.most)) (le-leb (length t) 7 l.most)) (rw (held 7 t) l.good))
    (rw (take_all 7 (padded 7 t) (omega (arith, length_padded 7 t l.most))) (unused_codes t))

no_label : label_in_range (label_of []) ≡ true
unfolding label_in_range padded
no_label = refl

blanks_in_range : text_in_range blanks ≡ true
unfolding text_in_range blanks
blanks_in_range = refl

-- the icons, each by itself
pub record EachIcon (i : Icons) : Type 0 where
  pub s : icon_s_in_range i.s ≡ true
  pub u : icon_u_in_range i.u ≡ true
  pub f : icon_f_in_range i.f ≡ true
  pub r : icon_r_in_range i.r ≡ true
  pub p : icon_p_in_range i.p ≡ true
  pub w : icon_w_in_range i.w ≡ true

each_icon : (i : Icons) → icons_in_range i ≡ true → EachIcon i
each_icon i h =
    let e5 = both {b = icon_w_in_range i.w} h in
    let e4 = both {b = icon_p_in_range i.p} e5.0 in
    let e3 = both {b = icon_r_in_range i.r} e4.0 in
    let e2 = both {b = icon_f_in_range i.f} e3.0 in
    let e1 = both {a = icon_s_in_range i.s} {b = icon_u_in_range i.u} e2.0 in
    record { s = e1.0; u = e1.1; f = e2.1; r = e3.1; p = e4.1; w = e5.1 }

-- one icon changed: its test says what that of the former said
pub icon_keeps : (c : Core) → CoreInRange c → (i : Icons) → (EachIcon c.settings.icons → icons_in_range i ≡ icons_in_range c.settings.icons) → CoreInRange (on_icons c i)
icon_keeps c k i same = on_icons_lem c k i (same (each_icon c.settings.icons k.settings.icons) ∙ k.settings.icons)

-- a volume at a level
level_keeps : (c : Core) (which n : ℕ) → CoreInRange c → leb which 2 ≡ true → eqb which 0 ≡ false → leb n 10 ≡ true → CoreInRange (on_volume c (at_level c.settings.volume which n))
level_keeps c which n k w z h = cases (eqb n 0) refl
  where
    cases : (b : Bool) → eqb n 0 ≡ b → CoreInRange (on_volume c (cond b (record { which = 0; level = 0; mute = c.settings.volume.mute; hidden = true }) (record { which = which; level = n; mute = c.settings.volume.mute; hidden = false })))
    cases true e = on_volume_lem c k _ refl
    cases false e = on_volume_lem c k _ (rw (w, z, le-leb 1 n (omega (arith, eqb-false n 0 e)), h))

mute_keeps : (c : Core) (n : ℕ) → CoreInRange c → CoreInRange (on_volume c (muted c.settings.volume n))
mute_keeps c n k = cases (eqb n 0)
  where
    cases : (b : Bool) → CoreInRange (on_volume c (cond b (record { which = c.settings.volume.which; level = c.settings.volume.level; mute = false; hidden = c.settings.volume.hidden }) (record { which = c.settings.volume.which; level = c.settings.volume.level; mute = true; hidden = false })))
    cases true = on_volume_lem c k _ k.settings.volume
    cases false =
        on_volume_lem c k _
        (and_both (both {a = which_in_range c.settings.volume.which && level_in_range c.settings.volume.which c.settings.volume.level} k.settings.volume).0 (or-true (eqb c.settings.volume.which 0)))

-- a backlight mode and a duration in range, with no seconds left unless in auto, in the first edition
light_keeps : (c : Core) (b : Backlight) → c.edition.sister ≡ false → CoreInRange c → leb b.mode 2 ≡ true → duration_in_range b.duration.0 ≡ true → (eqb b.left.0 0 || eqb b.mode 2) ≡ true → CoreInRange (on_backlight c b)
light_keeps c b first k m d l = on_backlight_lem c k b (rw first (and_both (and_both m d) l))

pub bright : (c : Core) → CoreInRange c → backlight_in_range c.settings.backlight ≡ true
bright c k = of_first c.edition.sister c.edition.pwm c.settings.backlight k.settings.backlight

pub duration_of : (b : Backlight) → backlight_in_range b ≡ true → duration_in_range b.duration.0 ≡ true
duration_of b h = (both {a = leb b.mode 2} (both {a = leb b.mode 2 && duration_in_range b.duration.0} h).0).1

pub mode_of : (b : Backlight) → backlight_in_range b ≡ true → leb b.mode 2 ≡ true
mode_of b h = (both {a = leb b.mode 2} {b = duration_in_range b.duration.0} (both {a = leb b.mode 2 && duration_in_range b.duration.0} h).0).0

pub left_of : (b : Backlight) → backlight_in_range b ≡ true → (eqb b.left.0 0 || eqb b.mode 2) ≡ true
left_of b h = (both {a = leb b.mode 2 && duration_in_range b.duration.0} h).1

number_keeps : (c : Core) (n : ℕ) → c.edition.sister ≡ false → CoreInRange c → (eqb n 0 || duration_in_range n) ≡ true → CoreInRange (on_backlight c (light_at c.settings.backlight n))
number_keeps c n first k h = cases (eqb n 0) refl
  where
    cases : (b : Bool) → eqb n 0 ≡ b → CoreInRange (on_backlight c (cond b (record { mode = 0; duration = c.settings.backlight.duration; left = record { 0 = 0 }; keypad = c.settings.backlight.keypad }) (record { mode = c.settings.backlight.mode; duration = record { 0 = n }; left = c.settings.backlight.left; keypad = c.settings.backlight.keypad })))
    cases true e = light_keeps c _ first k refl (duration_of c.settings.backlight (bright c k)) refl
    cases false e = light_keeps c _ first k (mode_of c.settings.backlight (bright c k)) (or_right h e) (left_of c.settings.backlight (bright c k))

-- a mark that a frame can name
marks_in_range : (mode n : ℕ) → leb n (rows_named mode) ≡ true → inverse_in_range (marks_of n) ≡ true
unfolding inverse_in_range
marks_in_range mode n h = six n (most (leb mode 1) (eqb mode large) (leb-true n (rows_named mode) h))
  where
    most : (few line : Bool) → n ≤ cond line 0 (cond few 4 (cond line 1 5)) → n ≤ 5
    most few true l = omega arith
    most true false l = omega arith
    most false false l = omega arith

    six : (n : ℕ) → n ≤ 5 → inverse_in_range (marks_of n) ≡ true
    six zero l = refl
    six (suc zero) l = refl
    six (suc (suc zero)) l = refl
    six (suc (suc (suc zero))) l = refl
    six (suc (suc (suc (suc zero)))) l = refl
    six (suc (suc (suc (suc (suc zero))))) l = refl
    six (suc (suc (suc (suc (suc (suc n)))))) l = absurd (omega arith)

-- a line that is cleared has blanks in it
cleared_in_range : (s : Screen) (t : List ℕ) → text_in_range t ≡ true → text_in_range (line_cleared s t) ≡ true
unfolding text_in_range line_cleared
cleared_in_range s t h =
    let b = both {a = eqb (length t) (line_start + 24)} h in
    let start = row_start_of s.mode s.row + s.column in
    let blanks = replicate (row_end_of s.mode - s.column) blank in
    and_both {a = eqb (length (sets t start blanks)) (line_start + 24)} (rw (length-sets t start blanks) b.0)
    (every_sets is_code t start blanks (every_replicate is_code (row_end_of s.mode - s.column) blank refl) b.1)

-- in picture row 6 only low columns are stored, and no other row reaches it
low_columns : (columns : List ℕ) → every is_low_column (map (kept_in 6) columns) ≡ true
low_columns [] = refl
low_columns (x ∷ xs) = and_both (lt-ltb (x % 32) 32 (mod-lt x (omega arith))) (low_columns xs)

picture_keeps : (g : List ℕ) (row : ℕ) (columns : List ℕ) → row ≤ 6 → length columns ≤ 96 → picture_in_range g ≡ true → picture_in_range (drawn g row columns) ≡ true
unfolding picture_in_range drawn
picture_keeps g row columns r l h =
    let b = both {a = eqb (length g) (7 * 96)} h in
    and_both {a = eqb (length (sets g (row * 96) (map (kept_in row) columns))) (7 * 96)} (rw (length-sets g (row * 96) (map (kept_in row) columns)) b.0)
    (sets_keep is_low_column (6 * 96) (7 * 96) g (row * 96) (map (kept_in row) columns) (λ reach. low reach) b.1)
  where
    low : 6 * 96 < row * 96 + length (map (kept_in row) columns) → every is_low_column (map (kept_in row) columns) ≡ true
    low reach =
        let last : row ≡ 6 = omega (arith, length-map columns (kept_in row)) in
        rw last (low_columns columns)

-- Every order -----------------------------------------------------------------------------------------------------

-- the commands whose numbers and modes go by the first edition's ranges: the sister has others in their place
abbrev pub sets_times_or_light : Command → Bool
sets_times_or_light c =
    same_kind c (KeyTimes 0 0) || same_kind c (Light 0) || same_kind c LightOn || same_kind c LightAutoStart || same_kind c LightAuto || same_kind c DefaultDuration

-- what the grammar of an edition says of an order: of a command that it is no such one of the sister's, of its label, of its columns
abbrev pub Carries : Bool → Order → Type 0
Carries sister (plain c) = sets_times_or_light c ≡ true → sister ≡ false
Carries sister (label side t) = LabelText t
Carries sister (draw row columns) = PictureRow row columns

carries : {sister : Bool} → sister ≡ false → (o : Order) (f : List ℕ) → Spells o f → Carries sister o
carries first (plain c) f s = λ h. first
carries first (label side t) f s = read_label side s
carries first (draw row columns) f s = read_row s

contrast_kept_lem : (sister : Bool) (n : ℕ) → contrast_in_range n ≡ true → contrast_kept sister n ≡ true
contrast_kept_lem true n h = (both {a = leb 1 n} h).1
contrast_kept_lem false n h = h

effect_keeps : (o : Order) (c : Core) → Carries c.edition.sister o → CoreInRange c → in_range_in_mode c.settings.screen.mode o ≡ true → CoreInRange (effect o c)
effect_keeps (plain DisplayOff) c v k h = let s = k.settings.screen in on_screen_lem c k _ s.mode s.overlay s.cursor
effect_keeps (plain DisplayOn) c v k h = let s = k.settings.screen in on_screen_lem c k _ s.mode s.overlay s.cursor
effect_keeps (plain (Mode n)) c v k h = mode_keeps c n k h
effect_keeps (plain CursorShown) c v k h = on_settings_lem c k (shown_set k.settings _)
effect_keeps (plain CursorHidden) c v k h = on_settings_lem c k (shown_set k.settings _)
effect_keeps (plain Clear) c v k h =
    on_text_lem (on_screen c (at c.settings.screen 0 0)) (on_screen_lem c k _ k.settings.screen.mode k.settings.screen.overlay (home c.settings.screen.mode)) blanks blanks_in_range
effect_keeps (plain (Position row column)) c v k h =
    let b = both {a = ltb row (rows_named c.settings.screen.mode)} h in
    on_screen_lem c k _ k.settings.screen.mode k.settings.screen.overlay (named_position c.settings.screen.mode row column b.0 b.1)
effect_keeps (plain LabelsEmpty) c v k h = on_settings_lem c k (labels_set k.settings _ _ no_label no_label)
effect_keeps (label Left t) c v k h = on_settings_lem c k (labels_set k.settings (label_of t) c.settings.right (label_keeps t v) k.settings.right)
effect_keeps (label Right t) c v k h = on_settings_lem c k (labels_set k.settings c.settings.left (label_of t) k.settings.left (label_keeps t v))
effect_keeps (plain (IconS n)) c v k h = icon_keeps c k (with_icon_s c.settings.icons n) (λ e. rw (h ∙ sym e.s))
effect_keeps (plain (IconU n)) c v k h = icon_keeps c k (with_icon_u c.settings.icons n) (λ e. rw (h ∙ sym e.u))
effect_keeps (plain (IconF n)) c v k h = icon_keeps c k (with_icon_f c.settings.icons n) (λ e. rw (h ∙ sym e.f))
effect_keeps (plain (IconR n)) c v k h = icon_keeps c k (with_icon_r c.settings.icons n) (λ e. rw (h ∙ sym e.r))
effect_keeps (plain (IconP n)) c v k h = icon_keeps c k (with_icon_p c.settings.icons n) (λ e. rw (h ∙ sym e.p))
effect_keeps (plain (IconW n)) c v k h = icon_keeps c k (with_icon_w c.settings.icons n) (λ e. rw (h ∙ sym e.w))
effect_keeps (plain (Private n)) c v k h = level_keeps c 1 n k refl refl h
effect_keeps (plain (Handsfree n)) c v k h = level_keeps c 2 n k refl refl h
effect_keeps (plain (HandsfreeOfNote n)) c v k h = level_keeps c 2 n k refl refl h
effect_keeps (plain (Mute n)) c v k h = mute_keeps c n k
effect_keeps (plain (KeyTimes time1 time2)) c v k h = on_settings_lem c k (times_set k.settings _ (rw (v refl) h))
effect_keeps (plain (Buzzer n)) c v k h = on_settings_lem c k (buzzer_set k.settings _ h)
effect_keeps (plain (Light n)) c v k h = number_keeps c n (v refl) k h
effect_keeps (plain LightOn) c v k h = light_keeps c _ (v refl) k refl (duration_of c.settings.backlight (bright c k)) refl
effect_keeps (plain LightAutoStart) c v k h = light_keeps c _ (v refl) k refl (duration_of c.settings.backlight (bright c k)) (or-true (eqb c.settings.backlight.duration.0 0))
effect_keeps (plain LightAuto) c v k h = light_keeps c _ (v refl) k refl (duration_of c.settings.backlight (bright c k)) (or-true (eqb c.settings.backlight.left.0 0))
effect_keeps (plain DefaultDuration) c v k h = light_keeps c _ (v refl) k (mode_of c.settings.backlight (bright c k)) refl (left_of c.settings.backlight (bright c k))
effect_keeps (plain KeypadSet) c v k h = on_backlight_lem c k _ k.settings.backlight
effect_keeps (plain KeypadCleared) c v k h = on_backlight_lem c k _ k.settings.backlight
effect_keeps (plain (Contrast n)) c v k h = on_settings_lem c k (contrast_set k.settings n (contrast_kept_lem c.edition.sister n h))
effect_keeps (plain ContrastAsked) c v k h = k
effect_keeps (plain HookAsked) c v k h = k
effect_keeps (plain VersionAsked) c v k h = k
effect_keeps (plain ClearLine) c v k h = on_text_lem c k _ (cleared_in_range c.settings.screen c.text k.text)
effect_keeps (plain (Inverse n)) c v k h = on_settings_lem c k (inverse_set k.settings (marks_of n) (marks_in_range c.settings.screen.mode n h))
effect_keeps (draw row columns) c v k h = on_picture_lem c k _ (picture_keeps c.picture row columns (leb-true row 6 h) v.most k.picture)

pub carry_keeps : (o : Order) (c : Core) → Carries c.edition.sister o → CoreInRange c → CoreInRange (carry_out o c)
unfolding carry_out
carry_keeps o c v k = cases (in_range_in_mode c.settings.screen.mode o) refl
  where
    cases : (b : Bool) → in_range_in_mode c.settings.screen.mode o ≡ b → CoreInRange (cond b (effect o c) c)
    cases true e = effect_keeps o c v k e
    cases false e = k

-- Whatever a frame of the first edition is, the core stays in range.
pub obey_keeps : (c : Core) (frame : List ℕ) → c.edition.sister ≡ false → CoreInRange c → CoreInRange (obey_order c (order_of frame))
obey_keeps c frame first k = cases (order_of frame) refl
  where
    cases : (found : Option Order) → order_of frame ≡ found → CoreInRange (obey_order c found)
    cases none e = k
    cases (some o) e = carry_keeps o c (carries first o frame (sound frame e)) k

text_stored : (t : List ℕ) (i b : ℕ) → text_in_range t ≡ true → 0x20 ≤ b → text_in_range (set t i b) ≡ true
unfolding text_in_range
text_stored t i b g h =
    let e = both {a = eqb (length t) (line_start + 24)} g in
    and_both {a = eqb (length (set t i b)) (line_start + 24)} (rw (length-set t i b) e.0) (every_set is_code t i b (le-leb 0x20 b h) e.1)

-- Whatever text byte comes, the core stays in range.
pub store_keeps : (c : Core) (b : ℕ) → CoreInRange c → 0x20 ≤ b → CoreInRange (store_text c b)
unfolding store_text
store_keeps c b k h = cases (ltb c.settings.screen.column (row_end_of c.settings.screen.mode)) refl
  where
    cases : (small : Bool) → ltb c.settings.screen.column (row_end_of c.settings.screen.mode) ≡ small → CoreInRange (cond small (on_text (on_screen c (record { display = c.settings.screen.display; mode = c.settings.screen.mode; overlay = c.settings.screen.overlay; row = c.settings.screen.row; column = c.settings.screen.column + 1 })) (set c.text (row_start_of c.settings.screen.mode c.settings.screen.row + c.settings.screen.column) b)) c)
    cases true e =
        let p = both {a = ltb c.settings.screen.row (rows_of c.settings.screen.mode)} k.settings.screen.cursor in
        let end = row_end_of c.settings.screen.mode in
        on_text_lem _ (on_screen_lem c k _ k.settings.screen.mode k.settings.screen.overlay (and_both p.0 (le-leb (c.settings.screen.column + 1) end (omega (arith, ltb-true c.settings.screen.column end e))))) _ (text_stored c.text _ b k.text h)
    cases false e = k

-- A bad frame, and a frame with a number out of range, leave the core as it is.
pub bad_keeps : (c : Core) (frame : List ℕ) → order_of frame ≡ none → obey_order c (order_of frame) ≡ c
bad_keeps c frame e = ap (obey_order c) e

pub out_of_range_keeps : (c : Core) (frame : List ℕ) (o : Order) → order_of frame ≡ some o → in_range_in_mode c.settings.screen.mode o ≡ false → obey_order c (order_of frame) ≡ c
unfolding carry_out
out_of_range_keeps c frame o e h = ap (obey_order c) e ∙ rw h
