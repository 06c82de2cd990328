-- Document 01, "Script program": "Ops: add, and, inc, dec, shl, shr, mid, concat, concatres, toint, cmp", and how their answers are shown.
-- Assumes nothing.
use Rattle.std.specs.Prelude.{ℕ, Bool, cond, ◌&&◌, List, [], ◌∷◌, ◌++◌, eqb, length}
use Rattle.types.specs.Refusals.{number_of}
use Rattle.types.specs.declared.refusal.Refusal.{Refusal}
use Rattle.types.specs.declared.value.AmlValue.{AmlValue}
use Rattle.types.specs.declared.value.AmlValue.TheVariants as Val
use Rattle.text.specs.Lines.{begins}
use Rattle.text.specs.Written.{decimal_text, hex_text}
use Rattle.value.specs.Conversions.{held_by, to_buffer, Bytes, these, none}
use Rattle.value.specs.Integers.{def_to_integer}
use Rattle.std.specs.declared.cmp.Ordering.TheVariants as Or
use Rattle.std.specs.declared.cmp.Ordering.{Ordering}
use Rattle.std.specs.Prelude.{Result, Ok, Err, Option, Some, None}
use Rattle.expression.specs.Numbers.{unary, binary, add, and, increment, decrement, shift_left, shift_right}
use Rattle.expression.specs.Compare.{compare}
use Rattle.expression.specs.Mid.{mid}
use Rattle.expression.specs.Concat.{Joined, a_buffer, a_string, refused, joined, join_resources}
use Rattle.script.specs.declared.op.NumberOp.{NumberOp}
use Rattle.script.specs.declared.op.NumberOp.TheVariants as N
use Rattle.script.specs.declared.op.Op.{Op}
use Rattle.script.specs.declared.op.Op.TheVariants as O

-- ---- answers: a status, and the text of a value

pub record Shown : Type 0 where
  pub status : ℕ
  pub text : List ℕ

abbrev pub shown : List ℕ → Shown
shown l = record { status = 0; text = l }

-- "`-` on refusal"
abbrev pub refused_by : Refusal → Shown
refused_by r = record { status = number_of r; text = 45 ∷ [] }

abbrev pub of_integer : Result ℕ Refusal → Shown
of_integer (Ok n) = shown (decimal_text n)
of_integer (Err r) = refused_by r

-- "cmp 0, 1, 2 for less, equal, greater"
abbrev pub of_compare : Result Ordering Refusal → Shown
of_compare (Ok Or.Less) = shown (48 ∷ [])
of_compare (Ok Or.Equal) = shown (49 ∷ [])
of_compare (Ok Or.Greater) = shown (50 ∷ [])
of_compare (Err r) = refused_by r

-- "a buffer behind `x`, a string behind `s`"
abbrev pub buffer_letter : List ℕ
buffer_letter = 120 ∷ []

abbrev pub string_letter : List ℕ
string_letter = 115 ∷ []

abbrev pub of_bytes : List ℕ → Bytes → Shown
of_bytes letter (these l) = shown (letter ++ hex_text l)
of_bytes letter (none r) = refused_by r

abbrev pub of_joined : Joined → Shown
of_joined (a_buffer l) = shown (buffer_letter ++ hex_text l)
of_joined (a_string l) = shown (string_letter ++ hex_text l)
of_joined (refused r) = refused_by r

-- a part of a String is a String; of anything else that has parts, a Buffer
abbrev pub letter_of : AmlValue → List ℕ
letter_of Val.String = string_letter
letter_of Val.Buffer = buffer_letter
letter_of (Val.Boolean b) = buffer_letter
letter_of (Val.Integer n) = buffer_letter
letter_of (Val.BufferField o n) = buffer_letter
letter_of (Val.Field f) = buffer_letter
letter_of Val.OpRegion = buffer_letter
letter_of Val.Device = buffer_letter
letter_of Val.Method = buffer_letter
letter_of Val.Processor = buffer_letter
letter_of Val.Mutex = buffer_letter
letter_of Val.Package = buffer_letter
letter_of Val.PowerResource = buffer_letter
letter_of Val.ThermalZone = buffer_letter

-- ---- what each op answers, of a, b and c with their bytes

abbrev pub number_op : NumberOp → AmlValue → List ℕ → AmlValue → List ℕ → Result ℕ Refusal
number_op N.Add a s b t = binary add a s b t
number_op N.And a s b t = binary and a s b t
number_op N.Increment a s b t = unary increment a s
number_op N.Decrement a s b t = unary decrement a s
number_op N.ShiftLeft a s b t = binary shift_left a s b t
number_op N.ShiftRight a s b t = binary shift_right a s b t
number_op N.ToInteger a s b t = def_to_integer a s

unfoldable pub answer_of : Op → AmlValue → List ℕ → AmlValue → List ℕ → AmlValue → List ℕ → Shown
answer_of (O.Number f) a s b t c u = of_integer (number_op f a s b t)
answer_of O.Mid a s b t c u = of_bytes (letter_of a) (mid a s b t c u)
answer_of O.Concat a s b t c u = of_joined (joined (held_by a s) (held_by b t))
answer_of O.ConcatRes a s b t c u = of_bytes buffer_letter (join_resources (to_buffer (held_by a s)) (to_buffer (held_by b t)))
answer_of O.Compare a s b t c u = of_compare (compare a s b t)

-- ---- the table: a name, which operator it is, how many of a, b, c it uses: as many as the operator has, in ACPI's order (Mid: source, index, length)

pub record Row : Type 0 where
  pub name : List ℕ
  pub op : Op
  pub used : ℕ

abbrev pub row : List ℕ → Op → ℕ → Row
row name op used = record { name = name; op = op; used = used }

abbrev pub ops : List Row
ops =
    row (97 ∷ 100 ∷ 100 ∷ []) (O.Number N.Add) 2
    ∷ row (97 ∷ 110 ∷ 100 ∷ []) (O.Number N.And) 2
    ∷ row (105 ∷ 110 ∷ 99 ∷ []) (O.Number N.Increment) 1
    ∷ row (100 ∷ 101 ∷ 99 ∷ []) (O.Number N.Decrement) 1
    ∷ row (115 ∷ 104 ∷ 108 ∷ []) (O.Number N.ShiftLeft) 2
    ∷ row (115 ∷ 104 ∷ 114 ∷ []) (O.Number N.ShiftRight) 2
    ∷ row (109 ∷ 105 ∷ 100 ∷ []) O.Mid 3
    ∷ row (99 ∷ 111 ∷ 110 ∷ 99 ∷ 97 ∷ 116 ∷ []) O.Concat 2
    ∷ row (99 ∷ 111 ∷ 110 ∷ 99 ∷ 97 ∷ 116 ∷ 114 ∷ 101 ∷ 115 ∷ []) O.ConcatRes 2
    ∷ row (116 ∷ 111 ∷ 105 ∷ 110 ∷ 116 ∷ []) (O.Number N.ToInteger) 1
    ∷ row (99 ∷ 109 ∷ 112 ∷ []) O.Compare 2
    ∷ []

abbrev pub same : List ℕ → List ℕ → Bool
same name l = eqb (length l) (length name) && begins name l

-- the row of a name
unfoldable pub row_of : List Row → List ℕ → Option (Op × ℕ)
row_of [] l = None
row_of (r ∷ rows) l = cond (same r.name l) (Some (r.op, r.used)) (row_of rows l)
