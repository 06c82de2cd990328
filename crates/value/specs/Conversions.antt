-- Document 01, "Conversions". What converts to what stands here and nowhere else; operators, sizes, field writes and compare cite it.
-- Assumes nothing.
use Rattle.std.specs.Prelude.{ℕ, ◌-◌, ◌^◌, Bool, true, false, cond, not, List, [], ◌∷◌, ◌++◌, ltb, leb, eqb, length, drop}
use Rattle.bits.specs.Bits.{get_bits, run_bits, bytes, bytes_for}
use Rattle.types.specs.Values.{type_of, type_number_of}
use Rattle.types.specs.Refusals.{first_of, judged}
use Rattle.types.specs.declared.refusal.Refusal.{Refusal}
use Rattle.types.specs.declared.refusal.Refusal.TheVariants as R
use Rattle.types.specs.declared.value.AmlType.{AmlType}
use Rattle.types.specs.declared.value.AmlType.TheVariants as T
use Rattle.types.specs.declared.value.AmlValue.{AmlValue}
use Rattle.types.specs.declared.value.AmlValue.TheVariants as Val
use Rattle.types.specs.declared.value.FieldUnit.{FieldUnit}
use Rattle.buffer_field.specs.BufferFields.{too_long, out_of_bounds}
use Rattle.field_unit.specs.Calls.{read_field}
use Rattle.field_unit.specs.declared.whole.UnitRead.{UnitRead}
use Rattle.std.specs.Prelude.{Result, Ok, Err}
use Rattle.value.specs.declared.convert.Converted.TheVariants as Co
use Rattle.value.specs.declared.convert.Converted.{Converted}

-- ---- integers

-- "Integer (64 bits)"
abbrev pub integer_bits : ℕ
integer_bits = 64

-- "Boolean true is all ones, false 0"
abbrev pub truth_number : Bool → ℕ
truth_number true = 2 ^ integer_bits - 1
truth_number false = 0

-- "A Buffer gives its first 8 bytes, lowest first; shorter ones are extended with zeros, an empty one is 0"
abbrev pub buffer_number : List ℕ → ℕ
buffer_number s = get_bits s 0 integer_bits

-- ---- a value and its bytes

pub data Held : Type 0 where
  boolean : Bool → Held
  integer : ℕ → Held
  string : List ℕ → Held
  buffer : List ℕ → Held
  buffer_field : ℕ → ℕ → List ℕ → Held
  field_unit : FieldUnit → List ℕ → Held
  -- the contentless kinds
  kind : AmlType → Held

abbrev pub held_by : AmlValue → List ℕ → Held
held_by (Val.Boolean b) s = boolean b
held_by (Val.Integer n) s = integer n
held_by Val.String s = string s
held_by Val.Buffer s = buffer s
held_by (Val.BufferField o n) s = buffer_field o n s
held_by (Val.Field f) s = field_unit f s
held_by Val.OpRegion s = kind T.OpRegion
held_by Val.Device s = kind T.Device
held_by Val.Method s = kind T.Method
held_by Val.Processor s = kind T.Processor
held_by Val.Mutex s = kind T.Mutex
held_by Val.Package s = kind T.Package
held_by Val.PowerResource s = kind T.PowerResource
held_by Val.ThermalZone s = kind T.ThermalZone

-- what reading a field gives, or its own refusal
pub data Content : Type 0 where
  number : ℕ → Content
  bytes_read : List ℕ → Content
  refusal : Refusal → Content

-- "Reading 0 to 64 bits gives an Integer .., more gives a Buffer of length/8 bytes rounded up, unused top bits zero"
unfoldable pub buffer_field_content : ℕ → ℕ → List ℕ → Content
buffer_field_content o n s =
    judged (first_of ((out_of_bounds s o n, R.BufferFieldIndexesOutOfBounds) ∷ []))
    (cond (leb n integer_bits) (number (get_bits s o n)) (bytes_read (bytes (run_bits s o n) 0 (bytes_for n))))
    refusal

abbrev pub unit_content : Result UnitRead Refusal → Content
unit_content (Ok u) = number u.value
unit_content (Err r) = refusal r

abbrev pub field_unit_content : FieldUnit → List ℕ → Content
field_unit_content f s = unit_content (read_field s f)

-- 1: the type of the value where the conversion stopped, and the type wanted
abbrev pub no : AmlType → AmlType → Refusal
no present wanted = R.IncompatibleValueConversion present wanted

-- ---- to integer: "Fields are read, then converted. String: refused, 1."

abbrev pub content_integer : Content → Result ℕ Refusal
content_integer (number n) = Ok n
content_integer (bytes_read l) = Ok (buffer_number l)
content_integer (refusal r) = Err r

unfoldable pub to_integer : Held → Result ℕ Refusal
to_integer (boolean b) = Ok (truth_number b)
to_integer (integer n) = Ok n
to_integer (string s) = Err (no T.String T.Integer)
to_integer (buffer s) = Ok (buffer_number s)
to_integer (buffer_field o n s) = content_integer (buffer_field_content o n s)
to_integer (field_unit f s) = content_integer (field_unit_content f s)
to_integer (kind t) = Err (no t T.Integer)

-- ---- to bool: "Integer not 0, or Boolean"; "To bool, the wanted type is Integer"

unfoldable pub to_bool : Held → Result Bool Refusal
to_bool (boolean b) = Ok b
to_bool (integer n) = Ok (not (eqb n 0))
to_bool (string s) = Err (no T.String T.Integer)
to_bool (buffer s) = Err (no T.Buffer T.Integer)
to_bool (buffer_field o n s) = Err (no T.BufferField T.Integer)
to_bool (field_unit f s) = Err (no T.FieldUnit T.Integer)
to_bool (kind t) = Err (no t T.Integer)

-- ---- to buffer, to string: bytes, or a refusal

pub data Bytes : Type 0 where
  these : List ℕ → Bytes
  none : Refusal → Bytes

-- "Buffer, or a BufferField over 64 bits; fields are read first, their own refusals before 1"
abbrev pub content_buffer : Content → Bytes
content_buffer (number n) = none (no T.Integer T.Buffer)
content_buffer (bytes_read l) = these l
content_buffer (refusal r) = none r

unfoldable pub to_buffer : Held → Bytes
to_buffer (boolean b) = none (no T.Integer T.Buffer)
to_buffer (integer n) = none (no T.Integer T.Buffer)
to_buffer (string s) = none (no T.String T.Buffer)
to_buffer (buffer s) = these s
to_buffer (buffer_field o n s) = content_buffer (buffer_field_content o n s)
to_buffer (field_unit f s) = content_buffer (field_unit_content f s)
to_buffer (kind t) = none (no t T.Buffer)

-- "String only; a FieldUnit is read first likewise, a BufferField is refused unread"
abbrev pub content_string : Content → Bytes
content_string (number n) = none (no T.Integer T.String)
content_string (bytes_read l) = none (no T.Buffer T.String)
content_string (refusal r) = none r

unfoldable pub to_string : Held → Bytes
to_string (boolean b) = none (no T.Integer T.String)
to_string (integer n) = none (no T.Integer T.String)
to_string (string s) = these s
to_string (buffer s) = none (no T.Buffer T.String)
to_string (buffer_field o n s) = none (no T.BufferField T.String)
to_string (field_unit f s) = content_string (field_unit_content f s)
to_string (kind t) = none (no t T.String)

-- the refusal of a FieldUnit, where neither a buffer nor a string comes of its Integer
abbrev pub unit_refusal : Content → AmlType → Refusal
unit_refusal (number n) wanted = no T.Integer wanted
unit_refusal (bytes_read l) wanted = no T.Buffer wanted
unit_refusal (refusal r) wanted = r

-- ---- calls: 27 first, then the conversion, 20 last

abbrev pub lent : {A : Type 0} → List ℕ → A → (Refusal → A) → A
lent s a f = judged (first_of ((too_long s, R.TooManyBytes) ∷ [])) a f

unfoldable pub as_integer : AmlValue → List ℕ → Result ℕ Refusal
as_integer v s = lent s (to_integer (held_by v s)) Err

unfoldable pub as_bool : AmlValue → List ℕ → Result Bool Refusal
as_bool v s = lent s (to_bool (held_by v s)) Err

-- the answer, and what the output holds after: "output bytes past the result keep their content"
pub record Given : Type 0 where
  pub answer : Result ℕ Refusal
  pub out : List ℕ

abbrev pub given : Result ℕ Refusal → List ℕ → Given
given a out = record { answer = a; out = out }

-- bytes at the front of an output, which keeps what it has behind them
abbrev pub into : List ℕ → List ℕ → List ℕ
into l out = l ++ drop (length l) out

-- "20: output shorter than the result"
unfoldable pub giving : Bytes → List ℕ → Given
giving (these l) out =
    judged (first_of ((ltb (length out) (length l), R.OutputTooShort) ∷ [])) (given (Ok (length l)) (into l out)) (λ r. given (Err r) out)
giving (none r) out = given (Err r) out

unfoldable pub as_buffer : AmlValue → List ℕ → List ℕ → Given
as_buffer v s out = lent s (giving (to_buffer (held_by v s)) out) (λ r. given (Err r) out)

unfoldable pub as_string : AmlValue → List ℕ → List ℕ → Given
as_string v s out = lent s (giving (to_string (held_by v s)) out) (λ r. given (Err r) out)

-- ---- to a named type: "the value itself where the type is already right .., else Integer or Buffer as above, else 1"

pub record GivenType : Type 0 where
  pub answer : Result Converted Refusal
  pub out : List ℕ

abbrev pub given_type : Result Converted Refusal → List ℕ → GivenType
given_type a out = record { answer = a; out = out }

abbrev pub integer_type : Result ℕ Refusal → Result Converted Refusal
integer_type (Ok n) = Ok (Co.Integer n)
integer_type (Err r) = Err r

abbrev pub length_type : Result ℕ Refusal → Result Converted Refusal
length_type (Ok n) = Ok (Co.Buffer n)
length_type (Err r) = Err r

-- what a value of another type becomes
abbrev pub to_type : AmlType → AmlType → Held → List ℕ → GivenType
to_type present T.Integer h out = given_type (integer_type (to_integer h)) out
to_type present T.Buffer h out = given_type (length_type (giving (to_buffer h) out).answer) (giving (to_buffer h) out).out
to_type present T.BufferField h out = given_type (Err (no present T.BufferField)) out
to_type present T.FieldUnit h out = given_type (Err (no present T.FieldUnit)) out
to_type present T.Device h out = given_type (Err (no present T.Device)) out
to_type present T.Method h out = given_type (Err (no present T.Method)) out
to_type present T.Mutex h out = given_type (Err (no present T.Mutex)) out
to_type present T.OpRegion h out = given_type (Err (no present T.OpRegion)) out
to_type present T.Package h out = given_type (Err (no present T.Package)) out
to_type present T.PowerResource h out = given_type (Err (no present T.PowerResource)) out
to_type present T.Processor h out = given_type (Err (no present T.Processor)) out
to_type present T.String h out = given_type (Err (no present T.String)) out
to_type present T.ThermalZone h out = given_type (Err (no present T.ThermalZone)) out

abbrev pub same_type : AmlType → AmlType → Bool
same_type a b = eqb (type_number_of a) (type_number_of b)

unfoldable pub as_type : AmlValue → List ℕ → AmlType → List ℕ → GivenType
as_type v s wanted out =
    lent s
    (cond (same_type (type_of v) wanted) (given_type (Ok Co.Same) out) (to_type (type_of v) wanted (held_by v s) out))
    (λ r. given_type (Err r) out)
