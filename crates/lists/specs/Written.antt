-- A part of a list written over, as a slice of it that the code writes to. Assumes nothing.
use Rattle.std.specs.Prelude.{ℕ, ◌+◌, ◌≤◌, ◌≡◌, List, ◌++◌, length, take, drop}
use Rattle.std.proofs.Common.{sym, ap, ◌∙◌, drop-drop, append_assoc}
use Rattle.std.proofs.lemmas.List.Edits.{sets, sets-eq}
use borrow.Rule.Slice.PartMut.{put_mid}

-- A slice of n places from a place on, which now holds so many others: they stand there one after the other.
pub part_written : (s part new : List ℕ) (at n : ℕ) → part ≡ new → n ≡ length new → at + length new ≤ length s → put_mid at n s part ≡ sets s at new
part_written s part new at n e l fits =
    ap (λ (x : List ℕ). take at s ++ (x ++ drop n (drop at s))) e
    ∙ ap (λ (x : List ℕ). take at s ++ (new ++ x)) (drop-drop n at s ∙ ap (λ (k : ℕ). drop (at + k) s) l)
    ∙ sym (append_assoc (take at s) new (drop (at + length new) s))
    ∙ sym (sets-eq new s at fits)
