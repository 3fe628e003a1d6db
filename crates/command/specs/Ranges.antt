-- The ranges of the numbers that frames carry: document 01's second column, by the record's own ranges. Assumes nothing.
use Rattle.std.specs.Prelude.{ℕ, ◌<◌, Bool, true, false, not, ◌&&◌, ◌||◌, ◌≡◌, refl, leb, ltb, eqb}
use Rattle.std.proofs.Common.{arith, leb-true, ltb-true, eqb-true}
use Rattle.lists.specs.Both.{both}
use Rattle.record.specs.Range.{large, mode_in_range, overlay_in_range, icon_s_in_range, icon_u_in_range, icon_f_in_range, icon_r_in_range, icon_p_in_range, icon_w_in_range, time1_in_range, time2_in_range, buzzer_in_range, duration_in_range, contrast_in_range}
use Rattle.frame_table.specs.Pieces.{Range, most_rows}

-- an overlay that a frame can name: 11 to 18 (none is no number)
abbrev pub is_overlay : ℕ → Bool
is_overlay n = overlay_in_range n && not (eqb n 0)

-- a column that a frame can name: 0-15
abbrev pub is_column : ℕ → Bool
is_column n = leb n 15

-- a level that a frame can name: 0-10 (section 3.5.25 of the note says the same for handsfree)
abbrev pub is_level : ℕ → Bool
is_level n = leb n 10

-- a value of IEn: 0, or a duration 1-255
abbrev pub is_light : ℕ → Bool
is_light n = eqb n 0 || duration_in_range n

-- a picture row: 0-6
abbrev pub is_picture_row : ℕ → Bool
is_picture_row n = leb n 6

-- A number that a test takes has three digits at most
pub at_most : (n k : ℕ) → k < 1000 → leb n k ≡ true → n < 1000
at_most n k l h = omega (arith, leb-true n k h)

pub equal_to : (n k : ℕ) → k < 1000 → eqb n k ≡ true → n < 1000
equal_to n k l h = omega (arith, eqb-true n k h)

pub either : (n : ℕ) (a b : Bool) → (a ≡ true → n < 1000) → (b ≡ true → n < 1000) → (a || b) ≡ true → n < 1000
either n true b f g h = f refl
either n false b f g h = g h

pub one_of_four : (n i j k l : ℕ) → i < 1000 → j < 1000 → k < 1000 → l < 1000 → (eqb n i || eqb n j || eqb n k || eqb n l) ≡ true → n < 1000
one_of_four n i j k l p q r s =
    either n (eqb n i || eqb n j || eqb n k) (eqb n l)
    (either n (eqb n i || eqb n j) (eqb n k) (either n (eqb n i) (eqb n j) (equal_to n i p) (equal_to n j q)) (equal_to n k r))
    (equal_to n l s)

-- none, or from one number up to another
pub none_or_up_to : (n least most : ℕ) → most < 1000 → (eqb n 0 || (leb least n && leb n most)) ≡ true → n < 1000
none_or_up_to n least most l =
    either n (eqb n 0) (leb least n && leb n most) (equal_to n 0 (omega arith)) (λ h. at_most n most l (both {a = leb least n} {b = leb n most} h).1)

pub mode_low : (n : ℕ) → (mode_in_range n || is_overlay n) ≡ true → n < 1000
mode_low n =
    either n (mode_in_range n) (is_overlay n)
    (either n (eqb n 0 || eqb n 1 || eqb n 5 || eqb n 6) (eqb n large) (one_of_four n 0 1 5 6 (omega arith) (omega arith) (omega arith) (omega arith)) (equal_to n large (omega arith)))
    (λ h. none_or_up_to n 11 18 (omega arith) (both {a = overlay_in_range n} {b = not (eqb n 0)} h).0)

pub icon_u_low : (n : ℕ) → icon_u_in_range n ≡ true → n < 1000
icon_u_low n =
    either n (eqb n 0 || eqb n 1) (eqb n 255)
    (either n (eqb n 0) (eqb n 1) (equal_to n 0 (omega arith)) (equal_to n 1 (omega arith)))
    (equal_to n 255 (omega arith))

pub between : (n least most : ℕ) → most < 1000 → (leb least n && leb n most) ≡ true → n < 1000
between n least most l h = at_most n most l (both {a = leb least n} {b = leb n most} h).1

-- THE RANGES. Those of a row go by the text mode: a cursor frame names one of its rows, and a mark one counted from 1 on, or none by 0.
-- Each says too that its numbers have three digits at most.
abbrev pub of_row : Range
of_row = record { takes = λ rows n. ltb n rows; low = λ n h. omega (arith, ltb-true n most_rows h) }

abbrev pub of_mark : Range
of_mark = record { takes = λ rows n. leb n rows; low = λ n h. at_most n most_rows (omega arith) h }

-- the others are the same in every mode
abbrev pub everywhere : (test : ℕ → Bool) → ((n : ℕ) → test n ≡ true → n < 1000) → Range
everywhere test low = record { takes = λ rows n. test n; low = low }

abbrev pub of_mode : Range
of_mode = everywhere (λ n. mode_in_range n || is_overlay n) mode_low

abbrev pub of_column : Range
of_column = everywhere is_column (λ n h. at_most n 15 (omega arith) h)

abbrev pub of_icon_s : Range
of_icon_s = everywhere icon_s_in_range (λ n h. at_most n 1 (omega arith) h)

abbrev pub of_icon_u : Range
of_icon_u = everywhere icon_u_in_range icon_u_low

abbrev pub of_icon_f : Range
of_icon_f = everywhere icon_f_in_range (λ n h. at_most n 6 (omega arith) h)

abbrev pub of_icon_r : Range
of_icon_r = everywhere icon_r_in_range (λ n h. at_most n 1 (omega arith) h)

abbrev pub of_icon_p : Range
of_icon_p = everywhere icon_p_in_range (λ n h. at_most n 19 (omega arith) h)

abbrev pub of_icon_w : Range
of_icon_w = everywhere icon_w_in_range (λ n h. at_most n 3 (omega arith) h)

abbrev pub of_level : Range
of_level = everywhere is_level (λ n h. at_most n 10 (omega arith) h)

abbrev pub of_mute : Range
of_mute = everywhere (λ n. leb n 1) (λ n h. at_most n 1 (omega arith) h)

abbrev pub of_time1 : Range
of_time1 = everywhere time1_in_range (λ n h. between n 4 50 (omega arith) h)

abbrev pub of_time2 : Range
of_time2 = everywhere time2_in_range (λ n h. none_or_up_to n 4 50 (omega arith) h)

abbrev pub of_buzzer : Range
of_buzzer = everywhere buzzer_in_range (λ n h. at_most n 255 (omega arith) h)

abbrev pub of_light : Range
of_light = everywhere is_light (λ n h. none_or_up_to n 1 255 (omega arith) h)

abbrev pub of_contrast : Range
of_contrast = everywhere contrast_in_range (λ n h. between n 1 20 (omega arith) h)

abbrev pub of_picture_row : Range
of_picture_row = everywhere is_picture_row (λ n h. at_most n 6 (omega arith) h)
