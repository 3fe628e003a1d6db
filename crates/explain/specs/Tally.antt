-- What is counted along a stream. Assumes nothing.
use Rattle.std.specs.Prelude.{ℕ, ◌+◌, ◌-◌, ◌%◌, ◌^◌, Bool, false, true, cond, Option, Some, ◌==◌, nat_lt}
use Rattle.parts.specs.declared.PartAt.{PartAt}
use Rattle.explain.specs.declared.tally.Fate.{Fate}
use Rattle.explain.specs.declared.tally.Tally.{Tally}

-- a fate's place among the eight
abbrev pub place_of : Fate → ℕ
place_of Fate.Stored = 0
place_of Fate.Skipped = 1
place_of Fate.Abandoned = 2
place_of Fate.Open = 3
place_of Fate.Bad = 4
place_of Fate.PassedOver = 5
place_of Fate.Obeyed = 6
place_of Fate.Refused = 7

-- whether two fates are one
abbrev pub same_fate : Fate → Fate → Bool
same_fate a b = place_of a == place_of b

-- a sum of counts, of which 64 bits are kept: no stream is so long that more are needed
abbrev pub sum : ℕ → ℕ → ℕ
sum m n = (m + n) % 2 ^ 64

-- a part's length by its body, with the bytes that are held no longer; a body that ends before it begins has none
abbrev pub length_of : PartAt → ℕ → ℕ
length_of front dropped = sum (front.body_end - front.body) dropped

-- a count, and so many more if they are counted there
abbrev pub more_if : Bool → ℕ → ℕ → ℕ
more_if counts count n = cond counts (sum count n) count

-- where the tail stands: at a part that is open, and else where it stood before
abbrev pub tail_after : Tally → Fate → Option ℕ
tail_after t fate = cond (same_fate fate Fate.Open) (Some t.place) t.tail

-- whether so many bytes that answered a part, or what became of it, make an answer: a frame that is bad, refused or abandoned is always
-- answered
abbrev pub is_answered : Fate → ℕ → Bool
is_answered Fate.Abandoned written = true
is_answered Fate.Bad written = true
is_answered Fate.Refused written = true
is_answered fate written = nat_lt 0 written

-- the tally behind a part, by what became of it: it began at this place of the window, and so many bytes answered it
unfoldable pub tally_after : Tally → Fate → ℕ → PartAt → ℕ → Tally
tally_after t fate at front written =
    record {
      place = sum t.place (sum (front.end - at) t.dropped);
      dropped = 0;
      others = false;
      text = more_if (same_fate fate Fate.Stored) t.text (length_of front t.dropped);
      skipped = more_if (same_fate fate Fate.Skipped) t.skipped (length_of front t.dropped);
      obeyed = more_if (same_fate fate Fate.Obeyed) t.obeyed 1;
      passed_over = more_if (same_fate fate Fate.PassedOver) t.passed_over 1;
      refused = more_if (same_fate fate Fate.Refused) t.refused 1;
      bad = more_if (same_fate fate Fate.Bad) t.bad 1;
      abandoned = more_if (same_fate fate Fate.Abandoned) t.abandoned 1;
      answers = more_if (is_answered fate written) t.answers 1;
      tail = tail_after t fate;
    }
