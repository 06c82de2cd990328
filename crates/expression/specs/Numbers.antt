-- Document 01, "Operators": Add, And, increment, decrement, shifts. "Two operands: left, then right, then the operator's own number."
-- Assumes nothing.
use Rattle.std.specs.Prelude.{ℕ, ◌+◌, ◌-◌, ◌*◌, ◌/◌, ◌%◌, ◌^◌, min, cond, ◌||◌, List, [], ◌∷◌, nat_lt}
use Rattle.bits.specs.Bits.{bit_of, run}
use Rattle.types.specs.Refusals.{first_of, judged}
use Rattle.types.specs.declared.refusal.Refusal.{Refusal}
use Rattle.types.specs.declared.refusal.Refusal.TheVariants as R
use Rattle.types.specs.declared.value.AmlValue.{AmlValue}
use Rattle.buffer_field.specs.BufferFields.{too_long}
use Rattle.value.specs.Conversions.{integer_bits, held_by, to_integer, lent}
use Rattle.std.specs.Prelude.{Result, Ok, Err}

-- what is made of a number, or of what converting refused
abbrev pub and_then : {A : Type 0} → Result ℕ Refusal → (ℕ → A) → (Refusal → A) → A
and_then (Ok n) f g = f n
and_then (Err r) f g = g r

-- 27 before all else, of both operands
abbrev pub both_lent : {A : Type 0} → List ℕ → List ℕ → A → (Refusal → A) → A
both_lent s t a f = judged (first_of ((too_long s || too_long t, R.TooManyBytes) ∷ [])) a f

-- an operator is a function on numbers, with its own refusal
unfoldable pub unary : (ℕ → Result ℕ Refusal) → AmlValue → List ℕ → Result ℕ Refusal
unary f a s = lent s (and_then (to_integer (held_by a s)) f Err) Err

-- both operands, or the first refusal
unfoldable pub operands : AmlValue → List ℕ → AmlValue → List ℕ → Result (ℕ × ℕ) Refusal
operands a s b t =
    both_lent s t (and_then (to_integer (held_by a s)) (λ x. and_then (to_integer (held_by b t)) (λ y. Ok (x, y)) Err) Err) Err

abbrev pub applied : (ℕ → ℕ → Result ℕ Refusal) → Result (ℕ × ℕ) Refusal → Result ℕ Refusal
applied f (Ok p) = f p.0 p.1
applied f (Err r) = Err r

unfoldable pub binary : (ℕ → ℕ → Result ℕ Refusal) → AmlValue → List ℕ → AmlValue → List ℕ → Result ℕ Refusal
binary f a s b t = applied f (operands a s b t)

-- "wrap at 2^64"
abbrev pub wrapped : ℕ → Result ℕ Refusal
wrapped n = Ok (n % 2 ^ integer_bits)

abbrev pub add : ℕ → ℕ → Result ℕ Refusal
add x y = wrapped (x + y)

abbrev pub increment : ℕ → Result ℕ Refusal
increment x = wrapped (x + 1)

abbrev pub decrement : ℕ → Result ℕ Refusal
decrement x = wrapped (x + (2 ^ integer_bits - 1))

-- "And is bitwise": a function of two bits, at every place
abbrev pub bitwise : (ℕ → ℕ → ℕ) → ℕ → ℕ → Result ℕ Refusal
bitwise f x y = Ok (run (λ k. f (bit_of x k) (bit_of y k)) 0 integer_bits)

abbrev pub and : ℕ → ℕ → Result ℕ Refusal
and x y = bitwise min x y

-- "7, 8: left, right shift count of 64 or more"
abbrev pub shift_left : ℕ → ℕ → Result ℕ Refusal
shift_left x y = cond (nat_lt y integer_bits) (wrapped (x * 2 ^ y)) (Err R.InvalidShiftLeft)

abbrev pub shift_right : ℕ → ℕ → Result ℕ Refusal
shift_right x y = cond (nat_lt y integer_bits) (Ok (x / 2 ^ y)) (Err R.InvalidShiftRight)
