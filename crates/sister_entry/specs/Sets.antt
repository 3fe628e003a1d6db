-- The numbers of `Keys.antt` are sets: what a key added and a key taken out do to each key, and which set is empty. Assumes nothing.
use Rattle.std.specs.Prelude.{ℕ, zero, suc, ◌+◌, ◌*◌, ◌-◌, ◌/◌, ◌%◌, ◌^◌, ◌<◌, Bool, true, false, ◌&&◌, ◌||◌, not, ◌≡◌, refl, eqb, ltb}
use Rattle.std.proofs.Common.{arith, mod-lt, pow-suc, suc-mul, one-add, sym, ap, ◌∙◌, subst, shr_lt, pow-add, pow_pos, eqb-true, ne_eqb, le-leb, leb-true, leb-false, ltb-true, ltb-false}
use Rattle.std.proofs.Math.Nat.{div-eq_of_lt, mul-mod_left, zero-div}
use Rattle.std.specs.Int.Bits.{bit_or, bit_and, and_zero_r}
use Rattle.std.proofs.lemmas.Nat.{or_shr, or_mod, or_disjoint, and_block, and_mask, shl-shr}
use Rattle.std.proofs.Math.Pow.{pow-lt, split, high}
use Rattle.std.proofs.lemmas.Bool.{eqb-false}
use Rattle.lists.specs.Tests.{by_test}
use Rattle.sister_entry.specs.Keys.{is_key, no_keys, bit_of, is_down, with_key, without_key}

-- a key's bit, 0 or 1
abbrev bit_at : ℕ → ℕ → ℕ
bit_at down key = down / 2 ^ key % 2

-- 0 or 1, joined
joined : (a b : ℕ) → a < 2 → b < 2 → eqb (bit_or a b) 1 ≡ (eqb a 1 || eqb b 1)
joined zero zero p q = refl
joined zero (suc zero) p q = refl
joined zero (suc (suc b)) p q = absurd (omega arith)
joined (suc zero) zero p q = refl
joined (suc zero) (suc zero) p q = refl
joined (suc zero) (suc (suc b)) p q = absurd (omega arith)
joined (suc (suc a)) b p q = absurd (omega arith)

or_bit : (a b key : ℕ) → eqb (bit_at (bit_or a b) key) 1 ≡ (eqb (bit_at a key) 1 || eqb (bit_at b key) 1)
or_bit a b key =
    ap (λ (n : ℕ). eqb (n % 2) 1) (or_shr a b key)
    ∙ ap (λ (n : ℕ). eqb n 1) (or_mod (a / 2 ^ key) (b / 2 ^ key) 1)
    ∙ joined (bit_at a key) (bit_at b key) (omega arith) (omega arith)

-- A power of two has one bit.
own_bit : (key : ℕ) → bit_at (2 ^ key) key ≡ 1
own_bit key =
    let one : 1 * 2 ^ key ≡ 2 ^ key = omega arith in
    ap (λ (n : ℕ). n / 2 ^ key % 2) (sym one) ∙ ap (λ (n : ℕ). n % 2) (shl-shr 1 key)

higher_bit : (key more : ℕ) → bit_at (2 ^ (suc more + key)) key ≡ 0
higher_bit key more =
    ap (λ (n : ℕ). n / 2 ^ key % 2) (pow-add 2 (suc more) key) ∙ ap (λ (n : ℕ). n % 2) (shl-shr (2 ^ suc more) key)
    ∙ ap (λ (n : ℕ). n % 2) (pow-suc 2 more) ∙ mul-mod_left (2 ^ more) 2

other_bit : (bit key : ℕ) → (key ≡ bit → ⊥) → bit_at (2 ^ bit) key ≡ 0
other_bit bit key other =
    by_test (ltb bit key)
    (λ below. ap (λ (n : ℕ). n % 2) (div-eq_of_lt (pow-lt (ltb-true bit key below))))
    (λ above.
    let more : suc (bit - key - 1) + key ≡ bit = omega (arith, ltb-false bit key above, other) in
    ap (λ (n : ℕ). bit_at (2 ^ n) key) (sym more) ∙ higher_bit key (bit - key - 1))

is_bit : (bit key : ℕ) → eqb (bit_at (2 ^ bit) key) 1 ≡ eqb key bit
is_bit bit key =
    by_test (eqb key bit)
    (λ is. ap (λ (n : ℕ). eqb (bit_at (2 ^ bit) n) 1) (eqb-true key bit is) ∙ ap (λ (n : ℕ). eqb n 1) (own_bit bit) ∙ sym is)
    (λ no. ap (λ (n : ℕ). eqb n 1) (other_bit bit key (eqb-false key bit no)) ∙ sym no)

with_bit : (down bit key : ℕ) → eqb (bit_at (bit_or down (2 ^ bit)) key) 1 ≡ (eqb (bit_at down key) 1 || eqb key bit)
with_bit down bit key = or_bit down (2 ^ bit) key ∙ ap (λ (b : Bool). eqb (bit_at down key) 1 || b) (is_bit bit key)

-- What is no key is not equal to one.
no_key : (bit key : ℕ) → is_key bit ≡ true → is_key key ≡ false → eqb key bit ≡ false
no_key bit key low high = ne_eqb key bit (λ same. omega (arith, same, leb-true bit 20 low, leb-false key 20 high))

-- With a key added that key is down, and each other one as it was.
pub key_added : (down added key : ℕ) → is_key added ≡ true → is_down (with_key down added) key ≡ (is_down down key || eqb key added)
unfolding is_down with_key bit_of
key_added down added key low =
    by_test (is_key key)
    (λ is. rw (low, is) (with_bit down added key))
    (λ no. rw (no, no_key added key low no))

-- A number with a bit is an even count of that bit, and one more, and a rest below it.
parted : (down key : ℕ) → eqb (bit_at down key) 1 ≡ true → down ≡ (down / 2 ^ key - 1) * 2 ^ key + 2 ^ key + down % 2 ^ key
parted down key is =
    let count : suc (down / 2 ^ key - 1) ≡ down / 2 ^ key = omega (arith, eqb-true (bit_at down key) 1 is) in
    sym (split down key) ∙ ap (λ (n : ℕ). n * 2 ^ key + down % 2 ^ key) (sym count)
    ∙ ap (λ (n : ℕ). n + down % 2 ^ key) (suc-mul (down / 2 ^ key - 1) (2 ^ key))

-- A bit that is taken out is clear, and the rest and the bit are the set of before.
out : (down key : ℕ) → eqb (bit_at down key) 1 ≡ true → (bit_at (down - 2 ^ key) key ≡ 0) × (bit_or (down - 2 ^ key) (2 ^ key) ≡ down)
out down key is = (
  ap (λ (n : ℕ). bit_at n key) rest ∙ ap (λ (n : ℕ). n % 2) (high count key small) ∙ even,
  or_disjoint (down - 2 ^ key) (2 ^ key) apart ∙ omega (arith, parted down key is),
)
  where
    count : ℕ
    count = down / 2 ^ key - 1

    even : count % 2 ≡ 0
    even = omega (arith, eqb-true (bit_at down key) 1 is)

    small : down % 2 ^ key < 2 ^ key
    small = mod-lt down (pow_pos key)

    rest : down - 2 ^ key ≡ count * 2 ^ key + down % 2 ^ key
    rest = omega (arith, parted down key is)

    apart : bit_and (down - 2 ^ key) (2 ^ key) ≡ 0
    apart =
        let one : 2 ^ key ≡ 1 * 2 ^ key + 0 = omega arith in
        ap (λ (n : ℕ). bit_and n (2 ^ key)) rest ∙ ap (λ (n : ℕ). bit_and (count * 2 ^ key + down % 2 ^ key) n) one
        ∙ and_block key count 1 (down % 2 ^ key) 0 small (pow_pos key)
        ∙ ap (λ (n : ℕ). n * 2 ^ key + bit_and (down % 2 ^ key) 0) (and_mask count 1 ∙ even)
        ∙ ap (λ (n : ℕ). 0 * 2 ^ key + n) (and_zero_r (down % 2 ^ key))
        ∙ omega arith

and_false : (a : Bool) → (a && false) ≡ false
and_false true = refl
and_false false = refl

and_true : (a : Bool) → (a && true) ≡ a
and_true true = refl
and_true false = refl

or_none : (a : Bool) → (a || false) ≡ a
or_none true = refl
or_none false = refl

-- `after` is `before` without what is `out`.
without : (k after before out : Bool) → (out ≡ true → after ≡ false) → (out ≡ false → before ≡ after) → (k && after) ≡ ((k && before) && not out)
without k after before true gone same = ap (λ (b : Bool). k && b) (gone refl) ∙ and_false k ∙ sym (and_false (k && before))
without k after before false gone same = sym (and_true (k && before) ∙ ap (λ (b : Bool). k && b) (same refl))

-- With a key taken out that key is not down, and each other one as it was.
pub key_taken_out : (down taken key : ℕ) → is_key taken ≡ true → is_down (without_key down taken) key ≡ (is_down down key && not (eqb key taken))
unfolding is_down without_key bit_of
key_taken_out down taken key low =
    by_test (eqb (bit_at down taken) 1)
    (λ is.
    rw (low, is)
    (without (is_key key) (eqb (bit_at (down - 2 ^ taken) key) 1) (eqb (bit_at down key) 1) (eqb key taken)
    (λ same. ap (λ (n : ℕ). eqb (bit_at (down - 2 ^ taken) n) 1) (eqb-true key taken same) ∙ ap (λ (n : ℕ). eqb n 1) (out down taken is).0)
    (λ other.
    ap (λ (n : ℕ). eqb (bit_at n key) 1) (sym (out down taken is).1) ∙ with_bit (down - 2 ^ taken) taken key
    ∙ ap (λ (b : Bool). eqb (bit_at (down - 2 ^ taken) key) 1 || b) other
    ∙ or_none (eqb (bit_at (down - 2 ^ taken) key) 1))))
    (λ no.
    rw (low, no)
    (without (is_key key) (eqb (bit_at down key) 1) (eqb (bit_at down key) 1) (eqb key taken)
    (λ same. ap (λ (n : ℕ). eqb (bit_at down n) 1) (eqb-true key taken same) ∙ no) (λ other. refl)))

-- Without its highest bit a number is below it.
lower : (down key : ℕ) → down < 2 ^ suc key → eqb (bit_at down key) 1 ≡ false → down < 2 ^ key
lower down key low clear =
    let two : down / 2 ^ key < 2 = shr_lt 1 key (subst (λ (n : ℕ). down < 2 ^ n) (sym (one-add key)) low) in
    let none : down / 2 ^ key ≡ 0 = omega (arith, eqb-false (bit_at down key) 1 clear, two) in
    omega (arith, split down key, ap (λ (n : ℕ). n * 2 ^ key) none, mod-lt down (pow_pos key))

no_bit : (n down : ℕ) → down < 2 ^ n → ((key : ℕ) → key < n → eqb (bit_at down key) 1 ≡ false) → down ≡ 0
no_bit zero down low clear = omega (arith, low)
no_bit (suc n) down low clear = no_bit n down (lower down n low (clear n (omega arith))) (λ key below. clear key (omega arith))

-- A set of keys 0 to 20 in which no key is down is the empty one.
pub none_down : (down : ℕ) → down < 2 ^ 21 → ((key : ℕ) → is_down down key ≡ false) → down ≡ no_keys
unfolding is_down
none_down down low none =
    no_bit 21 down low
    (λ key below. ap (λ (b : Bool). b && eqb (bit_at down key) 1) (sym (le-leb key 20 (omega arith))) ∙ none key)

pub no_keys_lem : (key : ℕ) → is_down no_keys key ≡ false
unfolding is_down
no_keys_lem key = ap (λ (n : ℕ). is_key key && eqb (n % 2) 1) (zero-div (2 ^ key)) ∙ and_false (is_key key)
