-- Bytes written as hex pairs. Document 01, "Script program": "hex pairs of either case (at most 256 bytes)".
-- Assumes nothing.
use Rattle.std.specs.Prelude.{ℕ, ◌+◌, ◌*◌, Bool, true, false, cond, ◌&&◌, Option, Some, None, List, [], ◌∷◌, ◌++◌, ltb, leb, length, drop}
use Rattle.text.specs.Texts.{digit_of}

pub data Pairs : Type 0 where
  pairs : List ℕ → Pairs
  none : Pairs

-- a byte in front of bytes
abbrev pub behind : ℕ → Pairs → Pairs
behind x (pairs b) = pairs (x ∷ b)
behind x none = none

-- the bytes that hex pairs say, the higher digit first; a digit without another and any other character: none
unfoldable pub pairs_of : List ℕ → Pairs
pairs_of [] = pairs []
pairs_of (h ∷ []) = none
pairs_of (h ∷ l ∷ s) = cond (ltb (digit_of h) 16 && ltb (digit_of l) 16) (behind (digit_of h * 16 + digit_of l) (pairs_of s)) none

-- at most so many bytes
unfoldable pub within : ℕ → Pairs → Pairs
within n (pairs b) = cond (leb (length b) n) (pairs b) none
within n none = none

abbrev pub are_pairs : Pairs → Bool
are_pairs (pairs b) = true
are_pairs none = false

abbrev pub bytes_of : Pairs → List ℕ
bytes_of (pairs b) = b
bytes_of none = []

-- the answer, and what the output holds after
pub record Filled : Type 0 where
  pub answer : Option ℕ
  pub out : List ℕ

abbrev pub filled : Option ℕ → List ℕ → Filled
filled a out = record { answer = a; out = out }

-- bytes at the front of an output, which keeps what it has behind them
abbrev pub filling : Pairs → List ℕ → Filled
filling (pairs b) out = filled (Some (length b)) (b ++ drop (length b) out)
filling none out = filled None out

-- the bytes that the output holds; where it is too short, as where there are none
unfoldable pub pairs_into : Pairs → List ℕ → Filled
pairs_into p out = filling (within (length out) p) out
