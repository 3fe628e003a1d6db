-- A table: the class of each byte, and the next state by state and class. State 0 refuses, state 1 is the start. Each state has an
-- example, a frame so far that leads to it. The table is right if, for every state and byte, what may come after the example and the byte
-- is what may come after the next state's example: one test over the whole table. Assumes nothing.
use Rattle.std.specs.Prelude.{ℕ, zero, suc, ◌+◌, ◌*◌, ◌%◌, Bool, true, false, ◌&&◌, ◌||◌, List, [], ◌∷◌, ◌++◌, map, eqb, leb, ltb, length, get_or}
use Rattle.std.specs.Bool.{beq}
use Rattle.lists.specs.Every.{every}
use Rattle.frame_table.specs.Rest.{Mark, sign, number, Rest, after, ends}

pub record Table : Type 0 where
  pub class : List ℕ
  -- a row for each class, a column for each state
  pub next : List ℕ
  -- how many states, and the first of those in which a frame may end
  pub states : ℕ
  pub good : ℕ

abbrev pub joined : List (List ℕ) → List ℕ
joined [] = []
joined (row ∷ rows) = row ++ joined rows

-- The tables hold letters: @ is 0, A is 1, B is 2 and so on. The state after a byte, and after a frame, by the classes, the next states and
-- how many states there are
abbrev pub state_after : List ℕ → List ℕ → ℕ → ℕ → ℕ → ℕ
state_after class next states s b = get_or next (get_or class b 0 % 64 * states + s) 0 % 64

abbrev pub state_from : List ℕ → List ℕ → ℕ → ℕ → List ℕ → ℕ
state_from class next states s [] = s
state_from class next states s (b ∷ f) = state_from class next states (state_after class next states s b) f

abbrev pub next_state : Table → ℕ → ℕ → ℕ
next_state t s b = state_after t.class t.next t.states s b

unfoldable pub accepts : Table → List ℕ → Bool
accepts t f = leb t.good (state_from t.class t.next t.states 1 f)

-- The test ----------------------------------------------------------------------------------------------------------

abbrev pub same_marks : List Mark → List Mark → Bool
same_marks [] [] = true
same_marks [] (q ∷ qs) = false
same_marks (m ∷ ms) [] = false
same_marks (sign a ∷ ms) (sign b ∷ qs) = eqb a b && same_marks ms qs
same_marks (sign a ∷ ms) (number ∷ qs) = false
same_marks (number ∷ ms) (sign b ∷ qs) = false
same_marks (number ∷ ms) (number ∷ qs) = same_marks ms qs

abbrev pub same_rests : List Rest → List Rest → Bool
same_rests [] [] = true
same_rests [] (q ∷ qs) = false
same_rests (r ∷ rs) [] = false
same_rests (r ∷ rs) (q ∷ qs) = eqb r.0 q.0 && same_marks r.1 q.1 && same_rests rs qs

-- whether some marks are in a list
abbrev pub listed : List Mark → List (List Mark) → Bool
listed ms [] = false
listed ms (qs ∷ more) = same_marks ms qs || listed ms more

-- all signs are bytes
abbrev pub low_marks : List Mark → Bool
low_marks [] = true
low_marks (sign a ∷ ms) = ltb a 256 && low_marks ms
low_marks (number ∷ ms) = low_marks ms

abbrev pub low_rests : List Rest → Bool
low_rests [] = true
low_rests (r ∷ rs) = low_marks r.1 && low_rests rs

-- the test holds at n numbers from i on
abbrev pub every_from : ℕ → ℕ → (ℕ → Bool) → Bool
every_from zero i test = true
every_from (suc n) i test = test i && every_from n (suc i) test

-- what may come in a whole frame, and after a word
abbrev pub whole : List (List Mark) → List Rest
whole forms = map (λ (ms : List Mark). (0, ms)) forms

abbrev pub after_word : List ℕ → List Rest → List Rest
after_word [] rs = rs
after_word (b ∷ w) rs = after_word w (after b rs)

abbrev pub labels : List (List Mark) → List (List ℕ) → List (List Rest)
labels forms examples = map (λ (w : List ℕ). after_word w (whole forms)) examples

abbrev pub label : List (List Rest) → ℕ → List Rest
label ls s = get_or ls s []

unfoldable pub state_right : Table → List (List Rest) → ℕ → Bool
state_right t ls s =
    beq (leb t.good s) (ends (label ls s))
    && eqb (get_or t.next (0 % 64 * t.states + s) 0 % 64) 0
    && low_rests (label ls s)
    && every_from 256 0 (λ (b : ℕ). same_rests (after b (label ls s)) (label ls (next_state t s b)))

-- every target is a state
unfoldable pub targets_valid : Table → Bool
targets_valid t = every (λ (x : ℕ). ltb (x % 64) t.states) t.next

unfoldable pub right : List (List Mark) → List (List ℕ) → Table → Bool
unfolding state_right targets_valid
right forms examples t =
    let ls = labels forms examples in
    targets_valid t
    && ltb 1 t.states
    && eqb (length t.class) 256
    && same_rests (label ls 0) []
    && same_rests (label ls 1) (whole forms)
    && every_from t.states 0 (state_right t ls)
