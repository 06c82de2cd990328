-- What is written into an output. Document 01, "Script program": "Each answer is `status=` and `value=`", "Hex is printed in lower case".
-- Assumes nothing.
use Rattle.std.specs.Prelude.{ℕ, zero, suc, ◌+◌, ◌/◌, ◌%◌, cond, List, [], ◌∷◌, ◌++◌, ltb, set}

-- an output with these bytes written from a place on; a byte that falls past its end is left away
unfoldable pub over : List ℕ → ℕ → List ℕ → List ℕ
over o at [] = o
over o at (x ∷ b) = over (set o at x) (at + 1) b

-- a digit of hex, in lower case: 48 is `0`, 97 is `a`
unfoldable pub hex_digit : ℕ → ℕ
hex_digit d = cond (ltb d 10) (48 + d) (87 + d)

-- two digits a byte, the higher first
unfoldable pub hex_text : List ℕ → List ℕ
hex_text [] = []
hex_text (x ∷ b) = hex_digit (x / 16) ∷ hex_digit (x % 16) ∷ hex_text b

-- the decimal digits of a number that has at most k: those of its tenth, then its last
unfoldable pub decimal_digits : ℕ → ℕ → List ℕ
decimal_digits zero n = []
decimal_digits (suc k) n = cond (ltb n 10) ((48 + n) ∷ []) (decimal_digits k (n / 10) ++ ((48 + n % 10) ∷ []))

-- a number of 64 bits: 2^64 − 1 has 20 digits
unfoldable pub decimal_text : ℕ → List ℕ
decimal_text n = decimal_digits 20 n
