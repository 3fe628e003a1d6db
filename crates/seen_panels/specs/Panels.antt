-- The two panels of the icon bar ("What is seen", last two sentences; the phase of a flashing icon from request T-03). Each is one definition, for the bar and for its own question.
-- Assumes nothing.
use Rattle.std.specs.Prelude.{ℕ, ◌≡◌, refl, Bool, not, cond, ◌&&◌, eqb}
use Rattle.std.proofs.Math.Bool.{and-true}
use Rattle.std.proofs.Common.{ne_eqb}
use Rattle.record.specs.declared.Icons.{Icons}
use Rattle.record.specs.declared.Volume.{Volume}
use Rattle.seen_panels.specs.declared.Phase.{Phase}
use Rattle.seen_panels.specs.declared.Phase.TheVariants.{Lit, Pause}
use Rattle.seen_panels.specs.declared.SmsPanel.{SmsPanel}
use Rattle.seen_panels.specs.declared.SmsPanel.TheVariants as Sms
use Rattle.seen_panels.specs.declared.VolumePanel.{VolumePanel}
use Rattle.seen_panels.specs.declared.VolumePanel.TheVariants as Sound

-- whether the unread letter is lit: if U is not 0; U 255 flashes and is not lit in the pause
abbrev pub unread_lit : ℕ → Phase → Bool
unread_lit u Lit = not (eqb u 0)
unread_lit u Pause = not (eqb u 0) && not (eqb u 255)

-- Unread while that is lit, else Read if S is 1, else nothing
abbrev pub sms_panel : Icons → Phase → SmsPanel
sms_panel i phase = cond (unread_lit i.u phase) Sms.Unread (cond (eqb i.s 1) Sms.Read Sms.Nothing)

-- In the lit phase the panel is document 01's: Unread if U is not 0, else Read if S is 1, else nothing.
pub lit_as_before : (i : Icons) → sms_panel i Lit ≡ cond (not (eqb i.u 0)) Sms.Unread (cond (eqb i.s 1) Sms.Read Sms.Nothing)
lit_as_before i = refl

-- With U not 255 the phase changes nothing.
pub steady_panel : (i : Icons) → (i.u ≡ 255 → ⊥) → (phase : Phase) → sms_panel i phase ≡ sms_panel i Lit
steady_panel i steady Lit = refl
steady_panel i steady Pause = rw (ne_eqb i.u 255 steady, and-true)

-- In the pause of U 255 the panel is that of U 0: Read if S is 1, else nothing.
pub flashing_pause : (i : Icons) → i.u ≡ 255 → sms_panel i Pause ≡ cond (eqb i.s 1) Sms.Read Sms.Nothing
flashing_pause i flashes = rw flashes

-- the volume icon: private (1) or handsfree (2) at its level, if any
abbrev pub volume_icon : Volume → VolumePanel
volume_icon v = cond (eqb v.which 1) (Sound.Private v.level) (cond (eqb v.which 2) (Sound.Handsfree v.level) Sound.Nothing)

-- nothing if hidden, else Mute if mute, else the volume icon if any
abbrev pub volume_panel : Volume → VolumePanel
volume_panel v = cond v.hidden Sound.Nothing (cond v.mute Sound.Mute (volume_icon v))
