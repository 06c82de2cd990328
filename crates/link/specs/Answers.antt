-- Document 01, "Refusal numbers": "Every refusal returns its number alone (1 adds the present and wanted types; 3, 4, 5 the type met)".
-- What a call answers, as the numbers that a host takes. Types go by ACPI's numbers, 0 where there is none.
-- Assumes nothing.
use Rattle.std.specs.Prelude.{ℕ, Bool, cond, ⊤, Result, Ok, Err}
use Rattle.types.specs.Refusals.{number_of, types_of}
use Rattle.types.specs.Values.{type_number_of}
use Rattle.types.specs.declared.refusal.Refusal.{Refusal}
use Rattle.buffer_field.specs.declared.FieldValue.TheVariants as Fi
use Rattle.buffer_field.specs.declared.FieldValue.{FieldValue}
use Rattle.std.specs.declared.cmp.Ordering.TheVariants as Or
use Rattle.std.specs.declared.cmp.Ordering.{Ordering}
use Rattle.expression.specs.declared.concat.ConcatValue.TheVariants as Cv
use Rattle.expression.specs.declared.concat.ConcatValue.{ConcatValue}
use Rattle.expression.specs.declared.mid.Part.{Part}
use Rattle.field_unit.specs.declared.whole.UnitRead.{UnitRead}
use Rattle.value.specs.declared.convert.Converted.TheVariants as Co
use Rattle.value.specs.declared.convert.Converted.{Converted}
use Rattle.types.specs.declared.refusal.Types.{Types}
use Rattle.types.specs.declared.refusal.Types.TheVariants as Carried
use Rattle.types.specs.declared.value.AmlType.{AmlType}
use Rattle.types.specs.declared.value.AmlType.TheVariants as T
use Rattle.value.specs.declared.status.StatusObject.{StatusObject}
use Rattle.value.specs.Status.{status_number}
use Rattle.link.specs.declared.answer.Answer.{Answer}

-- nothing was refused: a value of this kind, after so many loads and stores
abbrev pub accepted : ℕ → ℕ → ℕ → Answer
accepted kind count value = record { status = 0; present = 0; wanted = 0; kind = kind; count = count; value = value }

-- the present type of 1, the type met of 3, 4 and 5
abbrev pub present_of : Types → ℕ
present_of Carried.Nothing = 0
present_of (Carried.Met t) = type_number_of t
present_of (Carried.Conversion a b) = type_number_of a

-- the wanted type of 1
abbrev pub wanted_of : Types → ℕ
wanted_of Carried.Nothing = 0
wanted_of (Carried.Met t) = 0
wanted_of (Carried.Conversion a b) = type_number_of b

unfoldable pub refused_by : Refusal → Answer
refused_by r = record { status = number_of r; present = present_of (types_of r); wanted = wanted_of (types_of r); kind = 0; count = 0; value = 0 }

-- the host named a kind that is none: no call of the layer is made, so no number of document 01 is given
unfoldable pub no_such_kind : Answer
no_such_kind = record { status = 255; present = 0; wanted = 0; kind = 0; count = 0; value = 0 }

-- ---- values

-- a type alone
unfoldable pub kind_answer : AmlType → Answer
kind_answer t = accepted (type_number_of t) 0 0

unfoldable pub integer_answer : Result ℕ Refusal → Answer
integer_answer (Ok n) = accepted (type_number_of T.Integer) 0 n
integer_answer (Err r) = refused_by r

-- the number that a host's Boolean has as its kind
abbrev pub boolean_kind : ℕ
boolean_kind = 17

unfoldable pub bool_answer : Result Bool Refusal → Answer
bool_answer (Ok b) = accepted boolean_kind 0 (cond b 1 0)
bool_answer (Err r) = refused_by r

-- so many bytes of the output, of this kind
unfoldable pub bytes_answer : ℕ → Result ℕ Refusal → Answer
bytes_answer kind (Ok n) = accepted kind 0 n
bytes_answer kind (Err r) = refused_by r

-- kind 0: the value itself
unfoldable pub type_answer : Result Converted Refusal → Answer
type_answer (Ok Co.Same) = accepted 0 0 0
type_answer (Ok (Co.Integer n)) = accepted (type_number_of T.Integer) 0 n
type_answer (Ok (Co.Buffer n)) = accepted (type_number_of T.Buffer) 0 n
type_answer (Err r) = refused_by r

unfoldable pub status_answer : Result StatusObject Refusal → Answer
status_answer (Ok s) = accepted (type_number_of T.Integer) 0 (status_number s)
status_answer (Err r) = refused_by r

-- "cmp 0, 1, 2 for less, equal, greater"
unfoldable pub compare_answer : Result Ordering Refusal → Answer
compare_answer (Ok Or.Less) = accepted (type_number_of T.Integer) 0 0
compare_answer (Ok Or.Equal) = accepted (type_number_of T.Integer) 0 1
compare_answer (Ok Or.Greater) = accepted (type_number_of T.Integer) 0 2
compare_answer (Err r) = refused_by r

unfoldable pub concat_answer : Result ConcatValue Refusal → Answer
concat_answer (Ok (Cv.String n)) = accepted (type_number_of T.String) 0 n
concat_answer (Ok (Cv.Buffer n)) = accepted (type_number_of T.Buffer) 0 n
concat_answer (Err r) = refused_by r

-- Mid: how many bytes the part has, and where in the source it begins
unfoldable pub place_answer : ℕ → Result Part Refusal → Answer
place_answer kind (Ok p) = accepted kind p.count p.at
place_answer kind (Err r) = refused_by r

abbrev pub place_count : Result Part Refusal → ℕ
place_count (Ok p) = p.count
place_count (Err r) = 0

-- ---- fields

-- an Integer; or a Buffer, by how many bytes of the output it took
unfoldable pub read_answer : Result FieldValue Refusal → Answer
read_answer (Ok (Fi.Integer x)) = accepted (type_number_of T.Integer) 0 x
read_answer (Ok (Fi.Buffer n)) = accepted (type_number_of T.Buffer) 0 n
read_answer (Err r) = refused_by r

unfoldable pub outcome_answer : Result ⊤ Refusal → Answer
outcome_answer (Ok tt) = accepted 0 0 0
outcome_answer (Err r) = refused_by r

unfoldable pub unit_read_answer : Result UnitRead Refusal → Answer
unit_read_answer (Ok u) = accepted (type_number_of T.Integer) u.count u.value
unit_read_answer (Err r) = refused_by r

unfoldable pub unit_written_answer : Result ℕ Refusal → Answer
unit_written_answer (Ok n) = accepted 0 n 0
unit_written_answer (Err r) = refused_by r

-- how many loads and stores were made
abbrev pub read_count : Result UnitRead Refusal → ℕ
read_count (Ok u) = u.count
read_count (Err r) = 0

abbrev pub written_count : Result ℕ Refusal → ℕ
written_count (Ok n) = n
written_count (Err r) = 0
