-- WHAT A PART IS TO THE RULES of the choice screen, by the order that a closed frame spells. Assumes nothing.
use Rattle.std.specs.Prelude.{ℕ, Bool, true, false, cond, ◌||◌, List, ◌∷◌, ◌+◌, eqb, ltb, length}
use Rattle.std.specs.Prelude as std
use Rattle.lists.specs.Codes.{escape}
use Rattle.std.proofs.Math.Option.{Option, none, some}
use Rattle.record.specs.Range.{mode_in_range}
use Rattle.command.specs.Order.{Order, plain, label, draw}
use Rattle.command.specs.Kind.{first_number, same_kind}
use Rattle.command.specs.Reading.{order_of}
use Rattle.command.specs.declared.Command.{Command}
use Rattle.command.specs.declared.Command.TheVariants.{Mode, LabelsEmpty}
use Rattle.command.specs.declared.Side.{Side}
use Rattle.command.specs.declared.Side.TheVariants.{Left, Right}
use Rattle.parting.specs.Rules.{Part, text, skipped, closed, abandoned, bytes_of, Parted, done, unfinished, then}
use Rattle.choice.specs.declared.Sign.{Sign}
use Rattle.choice.specs.declared.Sign.TheVariants.{Text, Screen, LeftSet, RightSet, BothEmpty, Asked, Open, Other}

-- whether a label's text is not empty
abbrev pub has_codes : List ℕ → Bool
has_codes t = ltb 0 (length t)

-- IDn, in range or not, and IK0; no other command is spoken of, IDD and IDE neither
abbrev pub command_sign : Command → Sign
command_sign c = cond (same_kind c (Mode 0)) (Screen (first_number c)) (cond (same_kind c LabelsEmpty) BothEmpty Other)

abbrev pub label_sign : Side → Bool → Sign
label_sign Left codes = LeftSet codes
label_sign Right codes = RightSet codes

abbrev pub order_sign : Order → Sign
order_sign (plain c) = command_sign c
order_sign (label side t) = label_sign side (has_codes t)
order_sign (draw row columns) = Other

-- a frame that spells no order gets a question mark
abbrev pub frame_sign : Option Order → Sign
frame_sign none = Asked
frame_sign (some order) = order_sign order

-- so does one that is abandoned
abbrev pub part_sign : Part → Sign
part_sign (text b) = Text
part_sign (skipped b) = Other
part_sign (closed body) = frame_sign (order_of body)
part_sign (abandoned body) = Asked

-- the sign of what stands first, a part or the unfinished tail, and where the next part begins
abbrev pub read_of : ℕ → Parted → std.Option (Sign × ℕ)
read_of place done = std.None
read_of place (unfinished body) = std.Some (Open, place + length (escape ∷ body))
read_of place (then part parted) = std.Some (part_sign part, place + length (bytes_of part))

-- a test on the number of an IDn, which no other sign passes
abbrev on_screen : (ℕ → Bool) → Sign → Bool
on_screen test Text = false
on_screen test (Screen n) = test n
on_screen test (LeftSet codes) = false
on_screen test (RightSet codes) = false
on_screen test BothEmpty = false
on_screen test Asked = false
on_screen test Open = false
on_screen test Other = false

-- ID0 and ID5
abbrev pub opens_choice : Sign → Bool
opens_choice sign = on_screen (λ n. eqb n 0 || eqb n 5) sign

-- whether that is what stands first: a part, and not the unfinished tail or nothing
abbrev pub first_opens : Parted → Bool
first_opens done = false
first_opens (unfinished body) = false
first_opens (then part parted) = opens_choice (part_sign part)

-- IDn with n 0, 1, 5, 6 or 10: a text mode
abbrev pub asks_labels : Sign → Bool
asks_labels sign = on_screen mode_in_range sign

-- what the labels are wanted by: a text byte, or IDn with any n
abbrev pub is_check : Sign → Bool
is_check Text = true
is_check (Screen n) = true
is_check (LeftSet codes) = false
is_check (RightSet codes) = false
is_check BothEmpty = false
is_check Asked = false
is_check Open = false
is_check Other = false

-- whether a label stands behind a sign, by whether it stood before: the last one that was set has codes, and IK0 came not after it
abbrev pub left_after : Bool → Sign → Bool
left_after stood Text = stood
left_after stood (Screen n) = stood
left_after stood (LeftSet codes) = codes
left_after stood (RightSet codes) = stood
left_after stood BothEmpty = false
left_after stood Asked = stood
left_after stood Open = stood
left_after stood Other = stood

abbrev pub right_after : Bool → Sign → Bool
right_after stood Text = stood
right_after stood (Screen n) = stood
right_after stood (LeftSet codes) = stood
right_after stood (RightSet codes) = codes
right_after stood BothEmpty = false
right_after stood Asked = stood
right_after stood Open = stood
right_after stood Other = stood
