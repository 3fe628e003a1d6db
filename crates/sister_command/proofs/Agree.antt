-- THE READERS AND THE GRAMMARS AGREE IN EITHER EDITION, and what follows: one order a frame, one frame an order, short and plain frames.
-- What it speaks of is in specs/Agree.antt. Assumes nothing.
use Rattle.std.specs.Prelude.{ℕ, Bool, true, false, ◌||◌, List, [], map, ◌↔◌, ◌≡◌, refl}
use Rattle.std.specs.Prelude as std
use Rattle.std.proofs.Common.{arith, true≢false, sym, subst}
use Rattle.std.proofs.Math.Option.{Option, none, some}
use Rattle.frame_table.specs.Kinds.{Kind, alike}
use Rattle.frame_table.specs.Pieces.{signs}
use Rattle.frame_table.specs.Reader as commands
use Rattle.command.specs.Order.{Order, plain, label, draw}
use Rattle.command.specs.Grammar.{Spells}
use Rattle.command.specs.InRange.{Judged, judged_in, order_numbers, numbers_of}
use Rattle.command.specs.First.{opens_label}
use Rattle.command.specs.Reading.{opens_picture, order_of}
use Rattle.command.proofs.Complete.{complete, plain_opens, opens_neither}
use Rattle.command.proofs.Sound.{sound, cond_if}
use Rattle.command.proofs.Agree.{one_said, none_said}
use Rattle.command.specs.OneSpelling.{NoData, one_match, plain_no_data}
use Rattle.command.specs.Plain.{Within, short, short_within, spells_within}
use Rattle.command.specs.Facts.{LabelText, read_label, PictureRow, read_row}
use Rattle.command.specs.declared.Command.{Command}
use Rattle.command.specs.declared.Side.{Side}
use Rattle.command.specs.declared.Side.TheVariants.{Left, Right}
use Rattle.sister_command.specs.Order.{AnyOrder, first, own}
use Rattle.sister_command.specs.Grammar.{sister_form, never_spelt, form_in, SpellsIn}
use Rattle.sister_command.specs.Sister.{ordered, kinds, sister}
use Rattle.sister_command.proofs.Sister.{tested}
use Rattle.sister_command.specs.Reading.{sister_read, order_said, as_first, sister_order_of, order_in}
use Rattle.sister_command.specs.declared.SisterReading.{SisterReading}
use Rattle.sister_command.specs.declared.SisterReading.TheVariants.{Shared, Own}
use Rattle.sister_command.specs.Agree.{if_shared}

-- Labels and pictures are spelt as in the first edition ---------------------------------------------------------------

pub same_label : (sister : Bool) (side : Side) (t : List ℕ) {f : List ℕ} → SpellsIn sister (first (label side t)) f → Spells (label side t) f
same_label true Left t s = s
same_label true Right t s = s
same_label false side t s = s

pub same_row : (sister : Bool) {row : ℕ} {cs f : List ℕ} → SpellsIn sister (first (draw row cs)) f → Spells (draw row cs) f
same_row true s = s
same_row false s = s

pub label_in : (sister : Bool) (side : Side) (t : List ℕ) {f : List ℕ} → SpellsIn sister (first (label side t)) f → LabelText t
label_in sister side t s = read_label side (same_label sister side t s)

pub row_in : (sister : Bool) {row : ℕ} {cs f : List ℕ} → SpellsIn sister (first (draw row cs)) f → PictureRow row cs
row_in sister s = read_row (same_row sister s)

-- What is spelt is read ---------------------------------------------------------------------------------------------

label_opens : (side : Side) (t : List ℕ) {f : List ℕ} → Spells (label side t) f → (opens_picture f || opens_label f) ≡ true
unfolding opens_picture
label_opens Left t (signs s rest) = refl
label_opens Right t (signs s rest) = refl

row_opens : {row : ℕ} {cs f : List ℕ} → Spells (draw row cs) f → (opens_picture f || opens_label f) ≡ true
unfolding opens_picture
row_opens (signs s rest) = refl

other_read : (o : Order) (f : List ℕ) → (opens_picture f || opens_label f) ≡ true → Spells o f → sister_order_of f ≡ some (first o)
unfolding sister_order_of
other_read o f h s = rw (h, complete o f s)

said_read : (c : SisterReading) (f : List ℕ) → SpellsIn true (ordered c) f → sister_order_of f ≡ some (ordered c)
unfolding sister_order_of sister_read
said_read c f s =
    let w = opens_neither 1 f (commands.no_other sister tested c f s) in
    rw (w.0, w.1, commands.complete sister tested c f s)

sister_complete : (o : AnyOrder) (f : List ℕ) → SpellsIn true o f → sister_order_of f ≡ some o
sister_complete (first (plain c)) f s = said_read (Shared c) f s
sister_complete (first (label side t)) f s = let w = same_label true side t s in other_read (label side t) f (label_opens side t w) w
sister_complete (first (draw row cs)) f s = other_read (draw row cs) f (row_opens s) s
sister_complete (own c) f s = said_read (Own c) f s

first_complete : (o : AnyOrder) (f : List ℕ) → SpellsIn false o f → as_first (order_of f) ≡ some o
first_complete (first o) f s = rw (complete o f s)
first_complete (own c) f s = absurd (never_spelt s)

-- What is read was spelt --------------------------------------------------------------------------------------------

abbrev Meant : List ℕ → Option AnyOrder → Type 0
Meant f none = Unit {0}
Meant f (some o) = SpellsIn true o f

other_meant : (f : List ℕ) (found : Option Order) → order_of f ≡ found → (opens_picture f || opens_label f) ≡ true → Meant f (as_first found)
other_meant f none e h = tt
other_meant f (some (plain c)) e h = let w = plain_opens c f (sound f e) in absurd (true≢false (sym (rw (w.1, w.0) at h)))
other_meant f (some (label Left t)) e h = sound f e
other_meant f (some (label Right t)) e h = sound f e
other_meant f (some (draw row cs)) e h = sound f e

meant : (f : List ℕ) → Meant f (sister_order_of f)
unfolding sister_order_of sister_read
meant f =
    cond_if (Meant f) (opens_picture f || opens_label f) (other_meant f (order_of f) refl)
    (λ e. commands.by_reading sister tested (λ (x : std.Option SisterReading). Meant f (order_said x)) f tt (λ c s. s))

first_sound : (o : AnyOrder) (f : List ℕ) (found : Option Order) → order_of f ≡ found → as_first found ≡ some o → SpellsIn false o f
first_sound o f none e h = let z : ◌≡◌ {A = ℕ} 0 1 = cc in absurd (omega arith)
first_sound o f (some p) e h = let same : first p ≡ o = cc in subst (λ (x : AnyOrder). SpellsIn false x f) same (sound f e)

-- A reader finds an order exactly where the frame spells it.
pub agree_in : (sister : Bool) (o : AnyOrder) (f : List ℕ) → (order_in sister f ≡ some o) ↔ SpellsIn sister o f
agree_in true o f = (λ e. subst (Meant f) e (meant f), sister_complete o f)
agree_in false o f = (first_sound o f (order_of f) refl, first_complete o f)

-- A frame spells one order at most.
pub one_order_in : (sister : Bool) (o o' : AnyOrder) (f : List ℕ) → SpellsIn sister o f → SpellsIn sister o' f → o ≡ o'
one_order_in sister = one_said (order_in sister) (SpellsIn sister) (agree_in sister)

-- A frame is bad exactly where it spells none.
pub bad_frame_in : (sister : Bool) (f : List ℕ) → (order_in sister f ≡ none) ↔ ((o : AnyOrder) → SpellsIn sister o f → ⊥)
bad_frame_in sister = none_said (order_in sister) (SpellsIn sister) (agree_in sister)

-- An order without picture data has one frame.
pub one_frame_in : (sister : Bool) (o : AnyOrder) (f g : List ℕ) → NoData (form_in sister o) → SpellsIn sister o f → SpellsIn sister o g → f ≡ g
one_frame_in sister o f g h s t = one_match (form_in sister o) h s t

-- Her commands, shared and own, by kinds -------------------------------------------------------------------------------

-- A command that she spells is of a kind, and what is computed to be alike for each kind with any two numbers is alike for it.
pub said_kind : (c : SisterReading) {f : List ℕ} → SpellsIn true (ordered c) f → Kind kinds c
said_kind c {f} s = tested.kind c f s

pub said_alike : {X : Type 0} (F G : SisterReading → X) → ((m n : ℕ) → map (λ (k : ℕ → ℕ → SisterReading). F (k m n)) kinds ≡ map (λ (k : ℕ → ℕ → SisterReading). G (k m n)) kinds) → (c : SisterReading) {f : List ℕ} → SpellsIn true (ordered c) f → F c ≡ G c
said_alike F G h c s = alike kinds F G h (said_kind c s)

-- A command that she shares with the first edition; and a test of these alone, computed for each kind with any two numbers.
pub shared_kind : (c : Command) {f : List ℕ} → SpellsIn true (first (plain c)) f → Kind kinds (Shared c)
shared_kind c s = said_kind (Shared c) s

pub shared_test : (test : Command → Bool) → ((m n : ℕ) → map (λ (k : ℕ → ℕ → SisterReading). if_shared test (k m n)) kinds ≡ map (λ (k : ℕ → ℕ → SisterReading). true) kinds) → (c : Command) {f : List ℕ} → SpellsIn true (first (plain c)) f → test c ≡ true
shared_test test h c s = said_alike (if_shared test) (λ (x : SisterReading). true) h (Shared c) s

-- A command of hers carries no picture data.
pub said_no_data : (c : SisterReading) {f : List ℕ} → SpellsIn true (ordered c) f → NoData (sister_form (ordered c))
said_no_data c s = plain_no_data (sister_form (ordered c)) (commands.kind_plain sister tested (said_kind c s))

said_within : (c : SisterReading) {f : List ℕ} → SpellsIn true (ordered c) f → Within 197 f
said_within c s = short_within (sister_form (ordered c)) (said_alike (λ (x : SisterReading). short (sister_form (ordered x))) (λ (x : SisterReading). true) (λ m n. refl) c s) s

-- Whatever spells an order holds neither ESC nor CR, and at most 197 bytes.
pub within_in : (sister : Bool) (o : AnyOrder) {frame : List ℕ} → SpellsIn sister o frame → Within 197 frame
within_in true (first (plain c)) s = said_within (Shared c) s
within_in true (first (label side t)) s = spells_within (label side t) (same_label true side t s)
within_in true (first (draw row cs)) s = spells_within (draw row cs) s
within_in true (own c) s = said_within (Own c) s
within_in false (first o) s = spells_within o s
within_in false (own c) s = absurd (never_spelt s)

-- THE NUMBERS OF A SHARED ORDER have the same ranges in both editions.
abbrev numbers_here : ℕ → SisterReading → List Judged
numbers_here rows (Shared c) = judged_in rows (sister_form (first (plain c)))
numbers_here rows (Own c) = []

abbrev numbers_there : ℕ → SisterReading → List Judged
numbers_there rows (Shared c) = numbers_of rows c
numbers_there rows (Own c) = []

pub same_numbers : (rows : ℕ) (o : Order) {f : List ℕ} → SpellsIn true (first o) f → judged_in rows (sister_form (first o)) ≡ order_numbers rows o
same_numbers rows (plain c) s = said_alike (numbers_here rows) (numbers_there rows) (λ m n. refl) (Shared c) s
same_numbers rows (label Left t) s = refl
same_numbers rows (label Right t) s = refl
same_numbers rows (draw row cs) s = refl
