-- Document 01, "Field units": "A write first converts its value to integer". Order: "9, 28, 29, 21, 22, then what converting the value refuses".
-- Assumes nothing.
use Rattle.std.specs.Prelude.{ℕ, ◌||◌, List, [], ◌∷◌, length}
use Rattle.types.specs.Refusals.{first_of, judged}
use Rattle.types.specs.declared.refusal.Refusal.TheVariants as R
use Rattle.types.specs.declared.value.AmlValue.{AmlValue}
use Rattle.types.specs.declared.value.FieldUnit.{FieldUnit}
use Rattle.buffer_field.specs.BufferFields.{too_long}
use Rattle.field_unit.specs.Calls.{checked, writing, write_field, Wrote, wrote}
use Rattle.std.specs.Prelude.{Result, Ok, Err}
use Rattle.types.specs.declared.refusal.Refusal.{Refusal}
use Rattle.value.specs.Conversions.{held_by, to_integer}

-- of a number, or of what converting refused
abbrev pub write_integer : List ℕ → FieldUnit → Result ℕ Refusal → Wrote
write_integer s f (Ok n) = write_field s f n
write_integer s f (Err r) = wrote (Err r) s

-- a value and its bytes, written to the field f of the region s
unfoldable pub write_value : List ℕ → FieldUnit → AmlValue → List ℕ → Wrote
write_value s f v bytes =
    judged (first_of ((too_long s || too_long bytes, R.TooManyBytes) ∷ []))
    (judged (checked (writing f 0) (length s)) (write_integer s f (to_integer (held_by v bytes))) (λ r. wrote (Err r) s))
    (λ r. wrote (Err r) s)
