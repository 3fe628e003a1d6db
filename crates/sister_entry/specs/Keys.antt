-- A set of keys: the bit 2 ^ k for each key k that is in it. Assumes nothing.
use Rattle.std.specs.Prelude.{ℕ, ◌*◌, ◌-◌, ◌/◌, ◌%◌, ◌^◌, ◌<◌, ◌≤◌, Bool, true, cond, ◌&&◌, ◌≡◌, eqb, leb}
use Rattle.std.proofs.Common.{arith, mod-eq_of_lt, mul-le-mul_right, eqb-true}
use Rattle.std.specs.Int.Bits.{bit_or}
use Rattle.std.proofs.Math.Pow.{pow-lt, split}
use Rattle.lists.specs.Both.{both}

-- the keys that can be in a set: 0 to 20. HOOK and PTT are never in it
abbrev pub is_key : ℕ → Bool
is_key key = leb key 20

abbrev pub no_keys : ℕ
no_keys = 0

-- a key's bit; what is no key has none
unfoldable pub bit_of : ℕ → ℕ
bit_of key = cond (is_key key) (2 ^ key) 0

-- whether a key is in the set
unfoldable pub is_down : ℕ → ℕ → Bool
is_down down key = is_key key && eqb (down / 2 ^ key % 2) 1

-- the set with a key added
unfoldable pub with_key : ℕ → ℕ → ℕ
with_key down key = bit_or down (bit_of key)

-- the set with a key taken out
unfoldable pub without_key : ℕ → ℕ → ℕ
without_key down key = cond (is_down down key) (down - bit_of key) down

-- Laws ------------------------------------------------------------------------------------------------------------

pub low_bit : (key : ℕ) → key ≤ 20 → 2 ^ key < 2 ^ 21
low_bit key low = pow-lt {j = 21} (omega arith)

-- The bit of a key, shifted to its place, does not run over.
pub small_bit : (key : ℕ) → key ≤ 20 → (1 * 2 ^ key) % 2 ^ 32 ≡ 2 ^ key
small_bit key low = let one : 1 * 2 ^ key ≡ 2 ^ key = omega arith in rw one (mod-eq_of_lt (omega (arith, low_bit key low)))

-- The bit of a key that is in the set can be taken from it.
pub bit_at_most : (down key : ℕ) → is_down down key ≡ true → bit_of key ≤ down
unfolding is_down bit_of
bit_at_most down key is =
    let tests = both {a = is_key key} {b = eqb (down / 2 ^ key % 2) 1} is in
    let odd : 1 ≤ down / 2 ^ key = omega (arith, eqb-true (down / 2 ^ key % 2) 1 tests.1) in
    rw tests.0 (omega (arith, split down key, mul-le-mul_right (2 ^ key) odd))
