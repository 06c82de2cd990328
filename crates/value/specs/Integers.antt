-- Document 01, "Conversions": `ToInteger`.
-- Assumes nothing.
use Rattle.std.specs.Prelude.{ℕ, Bool, cond, ◌&&◌, List, eqb, leb, length, get_or, drop}
use Rattle.types.specs.declared.value.AmlType.TheVariants as T
use Rattle.types.specs.declared.value.AmlValue.{AmlValue}
use Rattle.text.specs.Texts.{number_of}
use Rattle.std.specs.Prelude.{Result, Ok, Err, Option, Some, None}
use Rattle.types.specs.declared.refusal.Refusal.{Refusal}
use Rattle.value.specs.Conversions.{Held, boolean, integer, string, buffer, buffer_field, field_unit, kind, held_by, buffer_number, no, lent}

-- it begins with lower-case `0x`
abbrev pub is_hex : List ℕ → Bool
is_hex s = leb 2 (length s) && (eqb (get_or s 0 0) 48 && eqb (get_or s 1 0) 120)

-- "A string is decimal digits, or lower-case `0x` and hex digits of either case"
abbrev pub text_number : List ℕ → Option ℕ
text_number s = cond (is_hex s) (number_of 16 (drop 2 s)) (number_of 10 s)

abbrev pub text_answer : Option ℕ → Result ℕ Refusal
text_answer (Some n) = Ok n
text_answer None = Err (no T.String T.Integer)

-- "Integer, Buffer, String; else 1, a Boolean too"
unfoldable pub parsed : Held → Result ℕ Refusal
parsed (boolean b) = Err (no T.Integer T.Integer)
parsed (integer n) = Ok n
parsed (string s) = text_answer (text_number s)
parsed (buffer s) = Ok (buffer_number s)
parsed (buffer_field o n s) = Err (no T.BufferField T.Integer)
parsed (field_unit f s) = Err (no T.FieldUnit T.Integer)
parsed (kind t) = Err (no t T.Integer)

unfoldable pub def_to_integer : AmlValue → List ℕ → Result ℕ Refusal
def_to_integer v s = lent s (parsed (held_by v s)) Err
