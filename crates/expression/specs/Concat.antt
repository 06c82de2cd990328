-- Document 01, "Operators": Concat, with its names, and ConcatRes.
-- Assumes nothing.
use Rattle.std.specs.Prelude.{ℕ, ◌+◌, ◌-◌, ◌%◌, ◌||◌, List, [], ◌∷◌, ◌++◌, length, take, ◌==◌}
use Rattle.bits.specs.Bits.{bit_of, bytes}
use Rattle.types.specs.Refusals.{first_of, judged}
use Rattle.types.specs.declared.refusal.Refusal.{Refusal}
use Rattle.types.specs.declared.refusal.Refusal.TheVariants as R
use Rattle.types.specs.declared.value.AmlType.{AmlType}
use Rattle.types.specs.declared.value.AmlType.TheVariants as T
use Rattle.types.specs.declared.value.AmlValue.{AmlValue}
use Rattle.value.specs.Conversions.{Held, boolean, integer, string, buffer, buffer_field, field_unit, kind, held_by, truth_number, to_integer, to_buffer, Bytes, these, none, no, Given, given, giving}
use Rattle.expression.specs.declared.concat.ConcatValue.TheVariants as Cv
use Rattle.expression.specs.declared.concat.ConcatValue.{ConcatValue}
use Rattle.std.specs.Prelude.{Result, Ok, Err}
use Rattle.expression.specs.Numbers.{and_then, both_lent}

-- ---- Concat

-- [Buffer Field], [Field], [Device], [Control Method], [Mutex], [Operation Region], [Package], [Processor], [Power Resource], [Thermal Zone];
-- Integer, String and Buffer have none
abbrev pub name_of : AmlType → List ℕ
name_of T.BufferField = 91 ∷ 66 ∷ 117 ∷ 102 ∷ 102 ∷ 101 ∷ 114 ∷ 32 ∷ 70 ∷ 105 ∷ 101 ∷ 108 ∷ 100 ∷ 93 ∷ []
name_of T.FieldUnit = 91 ∷ 70 ∷ 105 ∷ 101 ∷ 108 ∷ 100 ∷ 93 ∷ []
name_of T.Device = 91 ∷ 68 ∷ 101 ∷ 118 ∷ 105 ∷ 99 ∷ 101 ∷ 93 ∷ []
name_of T.Method = 91 ∷ 67 ∷ 111 ∷ 110 ∷ 116 ∷ 114 ∷ 111 ∷ 108 ∷ 32 ∷ 77 ∷ 101 ∷ 116 ∷ 104 ∷ 111 ∷ 100 ∷ 93 ∷ []
name_of T.Mutex = 91 ∷ 77 ∷ 117 ∷ 116 ∷ 101 ∷ 120 ∷ 93 ∷ []
name_of T.OpRegion = 91 ∷ 79 ∷ 112 ∷ 101 ∷ 114 ∷ 97 ∷ 116 ∷ 105 ∷ 111 ∷ 110 ∷ 32 ∷ 82 ∷ 101 ∷ 103 ∷ 105 ∷ 111 ∷ 110 ∷ 93 ∷ []
name_of T.Package = 91 ∷ 80 ∷ 97 ∷ 99 ∷ 107 ∷ 97 ∷ 103 ∷ 101 ∷ 93 ∷ []
name_of T.Processor = 91 ∷ 80 ∷ 114 ∷ 111 ∷ 99 ∷ 101 ∷ 115 ∷ 115 ∷ 111 ∷ 114 ∷ 93 ∷ []
name_of T.PowerResource = 91 ∷ 80 ∷ 111 ∷ 119 ∷ 101 ∷ 114 ∷ 32 ∷ 82 ∷ 101 ∷ 115 ∷ 111 ∷ 117 ∷ 114 ∷ 99 ∷ 101 ∷ 93 ∷ []
name_of T.ThermalZone = 91 ∷ 84 ∷ 104 ∷ 101 ∷ 114 ∷ 109 ∷ 97 ∷ 108 ∷ 32 ∷ 90 ∷ 111 ∷ 110 ∷ 101 ∷ 93 ∷ []
name_of T.Integer = []
name_of T.String = []
name_of T.Buffer = []

-- its string or name; "the right must be a String or a named kind, else 1"
abbrev pub text_of : Held → Bytes
text_of (string s) = these s
text_of (buffer_field o n s) = these (name_of T.BufferField)
text_of (field_unit f s) = these (name_of T.FieldUnit)
text_of (kind t) = these (name_of t)
text_of (boolean b) = none (no T.Integer T.String)
text_of (integer n) = none (no T.Integer T.String)
text_of (buffer s) = none (no T.Buffer T.String)

-- the bytes of a text; none where there is no text
abbrev pub text_bytes : Bytes → List ℕ
text_bytes (these l) = l
text_bytes (none r) = []

-- what Concat makes: a Buffer, a String, or a refusal
pub data Joined : Type 0 where
  a_buffer : List ℕ → Joined
  a_string : List ℕ → Joined
  refused : Refusal → Joined

-- "Integer or Boolean left gives 16 bytes, both integers lowest byte first"
abbrev pub number_bytes : ℕ → List ℕ
number_bytes n = bytes (bit_of n) 0 8

abbrev pub join_numbers : ℕ → Held → Joined
join_numbers x right = and_then (to_integer right) (λ y. a_buffer (number_bytes x ++ number_bytes y)) refused

-- the same of both operands, or what converting them refused
abbrev pub join_operands : Result (ℕ × ℕ) Refusal → Joined
join_operands (Ok p) = a_buffer (number_bytes p.0 ++ number_bytes p.1)
join_operands (Err r) = refused r

-- "Buffer left appends the right as buffer"
abbrev pub join_buffers : List ℕ → Bytes → Joined
join_buffers l (these r) = a_buffer (l ++ r)
join_buffers l (none r) = refused r

-- "any other left is its string or name"
abbrev pub join_texts : List ℕ → Bytes → Joined
join_texts l (these r) = a_string (l ++ r)
join_texts l (none r) = refused r

-- the same of both texts, the left one's refusal first
abbrev pub join_both : Bytes → Bytes → Joined
join_both (these l) right = join_texts l right
join_both (none r) right = refused r

unfoldable pub joined : Held → Held → Joined
joined (boolean b) right = join_numbers (truth_number b) right
joined (integer x) right = join_numbers x right
joined (buffer l) right = join_buffers l (to_buffer right)
joined (string l) right = join_texts l (text_of right)
joined (buffer_field o n s) right = join_texts (name_of T.BufferField) (text_of right)
joined (field_unit f s) right = join_texts (name_of T.FieldUnit) (text_of right)
joined (kind t) right = join_texts (name_of t) (text_of right)

pub record Concatenated : Type 0 where
  pub answer : Result ConcatValue Refusal
  pub out : List ℕ

abbrev pub concatenated : Result ConcatValue Refusal → List ℕ → Concatenated
concatenated a out = record { answer = a; out = out }

abbrev pub a_buffer_of : Result ℕ Refusal → Result ConcatValue Refusal
a_buffer_of (Ok n) = Ok (Cv.Buffer n)
a_buffer_of (Err r) = Err r

abbrev pub a_string_of : Result ℕ Refusal → Result ConcatValue Refusal
a_string_of (Ok n) = Ok (Cv.String n)
a_string_of (Err r) = Err r

-- 20 last
abbrev pub delivered : Joined → List ℕ → Concatenated
delivered (a_buffer l) out = concatenated (a_buffer_of (giving (these l) out).answer) (giving (these l) out).out
delivered (a_string l) out = concatenated (a_string_of (giving (these l) out).answer) (giving (these l) out).out
delivered (refused r) out = concatenated (Err r) out

unfoldable pub concat : AmlValue → List ℕ → AmlValue → List ℕ → List ℕ → Concatenated
concat a s b t out = both_lent s t (delivered (joined (held_by a s) (held_by b t)) out) (λ r. concatenated (Err r) out)

-- ---- ConcatRes

unfoldable pub sum : List ℕ → ℕ
sum [] = 0
sum (x ∷ l) = x + sum l

-- "each operand without its last 2 bytes (empty adds nothing)"
abbrev pub body : List ℕ → List ℕ
body l = take (length l - 2) l

-- "then 0x79 and the byte that makes the sum 0 modulo 256"
abbrev pub ended : List ℕ → List ℕ
ended l = l ++ (0x79 ∷ (256 - (sum l + 0x79) % 256) % 256 ∷ [])

-- "6: ConcatRes, an operand of length 1"
abbrev pub resources : List ℕ → List ℕ → Bytes
resources l r =
    judged (first_of ((length l == 1 || (length r == 1), R.ResourceDescriptorTooShort) ∷ [])) (these (ended (body l ++ body r))) none

abbrev pub join_right : List ℕ → Bytes → Bytes
join_right l (these r) = resources l r
join_right l (none r) = none r

abbrev pub join_resources : Bytes → Bytes → Bytes
join_resources (these l) right = join_right l right
join_resources (none r) right = none r

unfoldable pub concat_res : AmlValue → List ℕ → AmlValue → List ℕ → List ℕ → Given
concat_res a s b t out =
    both_lent s t (giving (join_resources (to_buffer (held_by a s)) (to_buffer (held_by b t))) out) (λ r. given (Err r) out)
