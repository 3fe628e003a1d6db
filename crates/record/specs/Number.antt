-- How a call ended: the paper's numbers ("Numbers handed back") and their names. Definitions name a case by its number. Assumes nothing.
use Rattle.std.specs.Prelude.{ℕ, zero, suc, ◌≤◌, ◌≡◌, refl, cond, eqb, Result, Ok, Err}
use Rattle.std.proofs.Common.{arith}
use Rattle.record.specs.declared.Number.{Number}
use Rattle.record.specs.declared.Number.TheVariants.{Done, FieldOutOfRange, CommandOutOfRange, NoRoom, NotListed, UnequalLengths}
use Rattle.record.specs.declared.Refusal.{Refusal}
use Rattle.record.specs.declared.Refusal.TheVariants as Refused

-- 0: the work is done. 1: a field of the record is out of range. 2: a writer's command, label, columns or row is out of range.
-- 3: a writer's frame is longer than the room. 4: a display row above 6 or a column above 95, or an edge byte that is not listed.
-- 5: the two slices of a key log differ in length.
abbrev pub paper_number : Number → ℕ
paper_number Done = 0
paper_number FieldOutOfRange = 1
paper_number CommandOutOfRange = 2
paper_number NoRoom = 3
paper_number NotListed = 4
paper_number UnequalLengths = 5

-- the case of a number; the paper has none above 5
abbrev pub numbered : ℕ → Number
numbered n =
    cond (eqb n 0) Done
    (cond (eqb n 1) FieldOutOfRange
    (cond (eqb n 2) CommandOutOfRange
    (cond (eqb n 3) NoRoom
    (cond (eqb n 4) NotListed
    UnequalLengths))))

-- A call that hands back what it found, or why there is nothing, ended with number 0, or with that of the refusal.
abbrev pub refused_number : Refusal → Number
refused_number Refused.FieldOutOfRange = FieldOutOfRange
refused_number Refused.CommandOutOfRange = CommandOutOfRange
refused_number Refused.NoRoom = NoRoom
refused_number Refused.NotListed = NotListed
refused_number Refused.UnequalLengths = UnequalLengths

abbrev pub ended : {T : Type 0} → Result T Refusal → Number
ended (Ok found) = Done
ended (Err refusal) = refused_number refusal

-- Each number names its own case, and each case is named by its number.
pub number_of_case : (n : ℕ) → n ≤ 5 → paper_number (numbered n) ≡ n
number_of_case zero h = refl
number_of_case (suc zero) h = refl
number_of_case (suc (suc zero)) h = refl
number_of_case (suc (suc (suc zero))) h = refl
number_of_case (suc (suc (suc (suc zero)))) h = refl
number_of_case (suc (suc (suc (suc (suc zero))))) h = refl
number_of_case (suc (suc (suc (suc (suc (suc n)))))) h = absurd (omega arith)

pub case_of_number : (number : Number) → numbered (paper_number number) ≡ number
case_of_number Done = refl
case_of_number FieldOutOfRange = refl
case_of_number CommandOutOfRange = refl
case_of_number NoRoom = refl
case_of_number NotListed = refl
case_of_number UnequalLengths = refl
