-- ESC ALWAYS OPENS A FRAME: a stream that goes on with ESC parts as its two sides do. Assumes nothing.
-- The theorems are in proofs/Joined.antt.
use Rattle.parting.specs.Rules.{abandoned, Parted, done, unfinished, then}

-- the parts of the first side, then those of the second; a tail between them is abandoned
unfoldable pub join : Parted → Parted → Parted
join done second = second
join (unfinished body) second = then (abandoned body) second
join (then part first) second = then part (join first second)
