-- Bits of numbers and of byte lists, runs of them as numbers, and byte lists with a run replaced.
-- Document 01, "Buffer fields": "Bit k is bit k mod 8 of byte k div 8, lowest first", "Bits outside stay".
-- Assumes nothing.
use Rattle.std.specs.Prelude.{ℕ, zero, suc, ◌+◌, ◌-◌, ◌*◌, ◌/◌, ◌%◌, ◌^◌, Bool, true, false, List, [], ◌∷◌, leb, ltb, length, get_or}

-- bit k of a number
unfoldable pub bit_of : ℕ → ℕ → ℕ
bit_of x k = x / 2 ^ k % 2

-- bit k of a byte list: bit k mod 8 of byte k div 8, lowest first; 0 past the end, so that a shorter list is extended with zeros
unfoldable pub bit_at : List ℕ → ℕ → ℕ
bit_at s k = bit_of (get_or s (k / 8) 0) (k % 8)

-- the number whose n bits are f's from o on, lowest first
unfoldable pub run : (ℕ → ℕ) → ℕ → ℕ → ℕ
run f o zero = 0
run f o (suc n) = f o + 2 * run f (suc o) n

-- the m bytes whose bits are f's from o on
unfoldable pub bytes : (ℕ → ℕ) → ℕ → ℕ → List ℕ
bytes f o zero = []
bytes f o (suc m) = run f o 8 ∷ bytes f (o + 8) m

abbrev pub pick : Bool → ℕ → ℕ → ℕ
pick true a b = a
pick false a b = b

-- f with its n bits from o on replaced by g's from 0 on
unfoldable pub put : (ℕ → ℕ) → ℕ → ℕ → (ℕ → ℕ) → ℕ → ℕ
put f o n g k = pick (leb o k) (pick (ltb k (o + n)) (g (k - o)) (f k)) (f k)

-- f from o on
abbrev pub from : (ℕ → ℕ) → ℕ → ℕ → ℕ
from f o k = f (o + k)

-- s with its n bits from o on replaced by g's; it stays as long as it is, and all its other bits stay
unfoldable pub with_bits : List ℕ → ℕ → ℕ → (ℕ → ℕ) → List ℕ
with_bits s o n g = bytes (put (bit_at s) o n g) 0 (length s)

-- the number in the n bits of s from o on
abbrev pub get_bits : List ℕ → ℕ → ℕ → ℕ
get_bits s o n = run (bit_at s) o n

-- s with its n bits from o on replaced by the lowest of v, which has zeros above
abbrev pub set_bits : List ℕ → ℕ → ℕ → ℕ → List ℕ
set_bits s o n v = with_bits s o n (bit_of v)

-- the n bits of s from o on, and zeros above them
abbrev pub run_bits : List ℕ → ℕ → ℕ → ℕ → ℕ
run_bits s o n = put (λ _. 0) 0 n (from (bit_at s) o)

-- how many bytes n bits take
abbrev pub bytes_for : ℕ → ℕ
bytes_for n = (n + 7) / 8
