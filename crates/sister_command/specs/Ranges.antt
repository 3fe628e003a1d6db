-- The ranges of the numbers that only the sister's frames carry (request T-06, "Frames"), by the record's own ranges where a field has one.
-- Assumes nothing.
use Rattle.std.specs.Prelude.{ℕ, ◌<◌, Bool, true, ◌&&◌, ◌||◌, ◌≡◌, leb, eqb}
use Rattle.std.proofs.Common.{arith}
use Rattle.lists.specs.Both.{both}
use Rattle.record.specs.Range.{time1_in_range, brightness_in_range, speaker_in_range}
use Rattle.frame_table.specs.Pieces.{Range}
use Rattle.command.specs.Ranges.{at_most, equal_to, either, between, everywhere}

-- &Cn: 0-1
abbrev pub of_shown : Range
of_shown = everywhere (λ n. leb n 1) (λ n h. at_most n 1 (omega arith) h)

-- IDMn: 0-12
abbrev pub of_sister_mode : Range
of_sister_mode = everywhere (λ n. leb n 12) (λ n h. at_most n 12 (omega arith) h)

-- IEn: 0, or a duration 1-250
abbrev pub of_sister_light : Range
of_sister_light = everywhere (λ n. leb n 250) (λ n h. at_most n 250 (omega arith) h)

-- IUn: 0-2
abbrev pub of_sister_icon_u : Range
of_sister_icon_u = everywhere (λ n. leb n 2) (λ n h. at_most n 2 (omega arith) h)

abbrev pub of_brightness : Range
of_brightness = everywhere brightness_in_range (λ n h. at_most n 100 (omega arith) h)

abbrev pub of_speaker : Range
of_speaker = everywhere speaker_in_range (λ n h. at_most n 7 (omega arith) h)

-- Time1, before this Time2: as in the first edition, or 0 before 0
abbrev pub is_time1_before : ℕ → ℕ → Bool
is_time1_before time2 n = time1_in_range n || (eqb n 0 && eqb time2 0)

pub time1_low : (time2 n : ℕ) → is_time1_before time2 n ≡ true → n < 1000
time1_low time2 n =
    either n (time1_in_range n) (eqb n 0 && eqb time2 0)
    (λ h. between n 4 50 (omega arith) h) (λ h. equal_to n 0 (omega arith) (both {a = eqb n 0} h).0)

abbrev pub of_time1_before : ℕ → Range
of_time1_before time2 = everywhere (is_time1_before time2) (time1_low time2)
