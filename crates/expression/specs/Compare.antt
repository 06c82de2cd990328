-- Document 01, "Operators": "Compare reads a FieldUnit on the left, converts the right side to the left's type, orders integers by size and bytes
-- lexicographically, a prefix first; a Boolean counts as its integer." Order: 27, 4, the left field's refusals, the right side's.
-- Assumes nothing.
use Rattle.std.specs.Prelude.{ℕ, cond, List, [], ◌∷◌, nat_lt}
use Rattle.types.specs.declared.refusal.Refusal.TheVariants as R
use Rattle.types.specs.declared.value.AmlType.TheVariants as T
use Rattle.types.specs.declared.value.AmlValue.{AmlValue}
use Rattle.value.specs.Conversions.{Held, boolean, integer, string, buffer, buffer_field, field_unit, kind, held_by, truth_number, to_integer, to_buffer, to_string, Bytes, these, none, field_unit_content, Content, number, bytes_read, refusal}
use Rattle.expression.specs.Numbers.{and_then, both_lent}
use Rattle.std.specs.declared.cmp.Ordering.TheVariants as Or
use Rattle.std.specs.declared.cmp.Ordering.{Ordering}
use Rattle.std.specs.Prelude.{Result, Ok, Err}
use Rattle.types.specs.declared.refusal.Refusal.{Refusal}

abbrev pub compare_numbers : ℕ → ℕ → Result Ordering Refusal
compare_numbers x y = cond (nat_lt x y) (Ok Or.Less) (cond (nat_lt y x) (Ok Or.Greater) (Ok Or.Equal))

-- of both operands, or what converting them refused
abbrev pub compared_operands : Result (ℕ × ℕ) Refusal → Result Ordering Refusal
compared_operands (Ok p) = compare_numbers p.0 p.1
compared_operands (Err r) = Err r

-- the first byte that differs decides; "a prefix first"
unfoldable pub compare_bytes : List ℕ → List ℕ → Result Ordering Refusal
compare_bytes [] [] = Ok Or.Equal
compare_bytes [] (y ∷ t) = Ok Or.Less
compare_bytes (x ∷ s) [] = Ok Or.Greater
compare_bytes (x ∷ s) (y ∷ t) = cond (nat_lt x y) (Ok Or.Less) (cond (nat_lt y x) (Ok Or.Greater) (compare_bytes s t))

abbrev pub numbers : ℕ → Held → Result Ordering Refusal
numbers x right = and_then (to_integer right) (compare_numbers x) Err

abbrev pub texts : List ℕ → Bytes → Result Ordering Refusal
texts l (these r) = compare_bytes l r
texts l (none r) = Err r

-- a FieldUnit on the left, once read
abbrev pub contents : Content → Held → Result Ordering Refusal
contents (number x) right = numbers x right
contents (bytes_read l) right = texts l (to_buffer right)
contents (refusal r) right = Err r

unfoldable pub compared : Held → Held → Result Ordering Refusal
compared (boolean b) right = numbers (truth_number b) right
compared (integer x) right = numbers x right
compared (string l) right = texts l (to_string right)
compared (buffer l) right = texts l (to_buffer right)
compared (buffer_field o n s) right = Err (R.TypeCannotBeCompared T.BufferField)
compared (field_unit f s) right = contents (field_unit_content f s) right
compared (kind t) right = Err (R.TypeCannotBeCompared t)

unfoldable pub compare : AmlValue → List ℕ → AmlValue → List ℕ → Result Ordering Refusal
compare a s b t = both_lent s t (compared (held_by a s) (held_by b t)) Err
