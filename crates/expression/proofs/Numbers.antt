-- The operators on numbers: what an operator makes of its operands' conversions is what its definition says, and the machine's sums, shifts
-- and conjunction are those of the definitions.
-- Assumes nothing.
use Rattle.std.proofs.Common.{◌≡◌, ℕ, ◌+◌, ◌*◌, ◌/◌, ◌%◌, ◌^◌, ◌<◌, ◌≤◌, min, List, length, sym, ap, ◌∙◌, lt_of_le_of_lt, zero-add, arith, le-ltb, lt-ltb}
use lib.Bits.{bit_and, and_le_l}
use Rattle.bits.specs.Bits.{bit_of}
use Rattle.bits.proofs.Laws.{run_eq}
use Rattle.bits.proofs.Words.{bit_of_and}
use Rattle.types.specs.declared.refusal.Refusal.{Refusal}
use Rattle.types.specs.declared.refusal.Refusal.TheVariants as R
use Rattle.types.specs.declared.value.AmlValue.{AmlValue}
use Rattle.value.specs.Conversions.{as_integer, held_by, to_integer}
use Rattle.std.specs.Prelude.{Result, Ok, Err}
use Rattle.expression.specs.Numbers.{and_then, unary, operands, decrement, and, shift_left, shift_right}
use Rattle.value.proofs.Lent.{as_integer_short}
use Rattle.expression.proofs.Lent.{lent_then, both_first, both_second, both_short}

-- ---- one operand

module _ (f : ℕ → Result ℕ Refusal) (v : AmlValue) (s : List ℕ) (a : Result ℕ Refusal) (e : a ≡ as_integer v s) where
  made : and_then a f Err ≡ unary f v s
  unfolding unary
  made = rw e (sym (lent_then f Err v s))

  pub unary_refused : (q : Refusal) → a ≡ Err q → a ≡ unary f v s
  unary_refused q h = h ∙ sym (ap (λ (i : Result ℕ Refusal). and_then i f Err) h) ∙ made

  pub unary_number : (x : ℕ) → a ≡ Ok x → (r : Result ℕ Refusal) → r ≡ f x → r ≡ unary f v s
  unary_number x h r g = g ∙ sym (ap (λ (i : Result ℕ Refusal). and_then i f Err) h) ∙ made

-- ---- two operands

module _ (a : AmlValue) (s : List ℕ) (b : AmlValue) (t : List ℕ) where
  pub operands_long : 65536 < length t → Err R.TooManyBytes ≡ operands a s b t
  unfolding operands
  operands_long h = sym (both_second s t _ Err h)

  module _ (h : length t ≤ 65536) (first : Result ℕ Refusal) (e : first ≡ as_integer a s) where
    pub two : operands a s b t ≡ and_then first (λ x. and_then (as_integer b t) (λ y. Ok (x, y)) Err) Err
    unfolding operands
    two = both_first s t _ Err h ∙ rw (lent_then _ Err a s, as_integer_short b t, e)

    pub operands_left : (q : Refusal) → first ≡ Err q → Err q ≡ operands a s b t
    operands_left q l = rw (two, l)

    module _ (x : ℕ) (l : first ≡ Ok x) (second : Result ℕ Refusal) (d : second ≡ as_integer b t) where
      pub operands_right : (q : Refusal) → second ≡ Err q → Err q ≡ operands a s b t
      operands_right q m = rw (two, l, ← d, m)

      pub operands_two : (y : ℕ) → second ≡ Ok y → Ok (x, y) ≡ operands a s b t
      operands_two y m = rw (two, l, ← d, m)

  -- with neither slice too long, by the conversions themselves
  pub operands_short : length s ≤ 65536 → length t ≤ 65536
      → operands a s b t ≡ and_then (to_integer (held_by a s)) (λ x. and_then (to_integer (held_by b t)) (λ y. Ok (x, y)) Err) Err
  unfolding operands
  operands_short l h = both_short s t _ Err l h

-- ---- what the machine computes

-- one less, by a difference that wraps
pub one_less : (x r : ℕ) → x < 2 ^ 64 → r < 2 ^ 64 → (r + 1) % 2 ^ 64 ≡ x → Ok r ≡ decrement x
one_less x r h l e = ap Ok (omega arith)

pub and_bits : (x y : ℕ) → x < 2 ^ 64 → Ok (bit_and x y) ≡ and x y
and_bits x y h = ap Ok (run_eq (λ k. min (bit_of x k) (bit_of y k)) (bit_and x y) 0 64 (lt_of_le_of_lt (and_le_l x y) h) (λ i l. rw zero-add (bit_of_and x y i)))

pub left_few : (x y : ℕ) → y < 64 → Ok (x * 2 ^ y % 2 ^ 64) ≡ shift_left x y
left_few x y h = rw (lt-ltb y 64 h)

pub left_many : (x y : ℕ) → 64 ≤ y → Err R.InvalidShiftLeft ≡ shift_left x y
left_many x y h = rw (le-ltb y 64 h)

pub right_few : (x y : ℕ) → y < 64 → Ok (x / 2 ^ y) ≡ shift_right x y
right_few x y h = rw (lt-ltb y 64 h)

pub right_many : (x y : ℕ) → 64 ≤ y → Err R.InvalidShiftRight ≡ shift_right x y
right_many x y h = rw (le-ltb y 64 h)
