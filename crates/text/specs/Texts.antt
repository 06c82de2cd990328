-- The number that a text of digits says. Document 01, "Conversions": "leading zeros are free; no digit, another character or a number over
-- 2^64 − 1 is 1"; "Script program": "decimal Integer (leading zeros free)".
-- Assumes nothing.
use Rattle.std.specs.Prelude.{ℕ, ◌+◌, ◌-◌, ◌*◌, ◌^◌, Bool, true, cond, ◌&&◌, Option, Some, None, List, [], ◌∷◌, ltb, length}

-- a character as a digit: 0 to 9, A to F, a to f; 255 for any other
unfoldable pub digit_of : ℕ → ℕ
digit_of c =
    cond (ltb c 48) 255
    (cond (ltb c 58) (c - 48)
    (cond (ltb c 65) 255
    (cond (ltb c 71) (c - 55)
    (cond (ltb c 97) 255
    (cond (ltb c 103) (c - 87) 255)))))

-- every character is a digit of the base
unfoldable pub all_digits : ℕ → List ℕ → Bool
all_digits b [] = true
all_digits b (c ∷ s) = ltb (digit_of c) b && all_digits b s

-- acc, followed by the digits
unfoldable pub value_from : ℕ → ℕ → List ℕ → ℕ
value_from b acc [] = acc
value_from b acc (c ∷ s) = value_from b (acc * b + digit_of c) s

-- at least one digit, no other character, and a number of 64 bits
unfoldable pub number_of : ℕ → List ℕ → Option ℕ
number_of b s = cond (ltb 0 (length s) && (all_digits b s && ltb (value_from b 0 s) (2 ^ 64))) (Some (value_from b 0 s)) None
