-- Document 01, "Operators": "Mid answers the part of the source from index to the smaller of index + length (unbounded) and the end, bytewise;
-- index at or past the end gives empty." "Mid: index, length, 5." "one call for the number, one for the part, empty if refused".
-- Assumes nothing.
use Rattle.std.specs.Prelude.{◌≡◌, ℕ, min, ◌||◌, List, [], ◌∷◌, length, take, drop}
use Rattle.types.specs.Refusals.{first_of, judged}
use Rattle.types.specs.declared.refusal.Refusal.TheVariants as R
use Rattle.expression.specs.declared.mid.Part.{Part}
use Rattle.std.specs.Prelude.{⊤, Result, Ok, Err}
use Rattle.types.specs.declared.refusal.Refusal.{Refusal}
use Rattle.types.specs.declared.value.AmlType.TheVariants as T
use Rattle.types.specs.declared.value.AmlValue.{AmlValue}
use Rattle.buffer_field.specs.BufferFields.{too_long}
use Rattle.value.specs.Conversions.{Held, boolean, integer, string, buffer, buffer_field, field_unit, kind, held_by, to_integer, as_integer, Bytes, these, none}
use Rattle.expression.specs.Numbers.{and_then}

-- from index to the smaller of index + length and the end
abbrev pub part : List ℕ → ℕ → ℕ → List ℕ
part s index n = take n (drop index s)

-- "5: Mid of something other than Buffer or String"
abbrev pub source : Held → ℕ → ℕ → Bytes
source (string s) i n = these (part s i n)
source (buffer s) i n = these (part s i n)
source (boolean b) i n = none (R.TypeCannotBeSliced T.Integer)
source (integer x) i n = none (R.TypeCannotBeSliced T.Integer)
source (buffer_field o m s) i n = none (R.TypeCannotBeSliced T.BufferField)
source (field_unit f s) i n = none (R.TypeCannotBeSliced T.FieldUnit)
source (kind t) i n = none (R.TypeCannotBeSliced t)

-- the source, the index and the length, each with its bytes
unfoldable pub mid : AmlValue → List ℕ → AmlValue → List ℕ → AmlValue → List ℕ → Bytes
mid v s i is n ns =
    judged (first_of ((too_long s || (too_long is || too_long ns), R.TooManyBytes) ∷ []))
    (and_then (to_integer (held_by i is)) (λ x. and_then (to_integer (held_by n ns)) (λ y. source (held_by v s) x y) none) none)
    none

abbrev pub mid_outcome : Bytes → Result ⊤ Refusal
mid_outcome (these l) = Ok tt
mid_outcome (none r) = Err r

abbrev pub mid_part : Bytes → List ℕ
mid_part (these l) = l
mid_part (none r) = []

-- where the part begins in a source of this size: at its index, or at the end
abbrev pub place_of : Result ℕ Refusal → ℕ → ℕ
place_of (Ok x) size = min x size
place_of (Err r) size = 0

-- there, and of how many bytes
abbrev pub placed : Bytes → ℕ → Result Part Refusal
placed (these l) at = Ok (record { at = at; count = length l })
placed (none r) at = Err r

abbrev pub mid_place : AmlValue → List ℕ → AmlValue → List ℕ → AmlValue → List ℕ → Result Part Refusal
mid_place v s i is n ns = placed (mid v s i is n ns) (place_of (as_integer i is) (length s))

-- the bytes so placed in the source are the part
abbrev pub PartIsThePart : Type 0
PartIsThePart =
    (v : AmlValue) (s : List ℕ) (i : AmlValue) (is : List ℕ) (n : AmlValue) (ns : List ℕ)
    → take (length (mid_part (mid v s i is n ns))) (drop (place_of (as_integer i is) (length s)) s) ≡ mid_part (mid v s i is n ns)
