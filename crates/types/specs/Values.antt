-- Document 01, "The part taken": the values and their types.
-- Assumes nothing.
use Rattle.std.specs.Prelude.{ℕ, Bool, not, cond, ◌&&◌, List, [], ◌∷◌, eqb, leb, get_or, Result, Ok, Err}
use Rattle.types.specs.declared.value.AmlType.{AmlType}
use Rattle.types.specs.declared.value.AmlType.TheVariants as T
use Rattle.types.specs.declared.value.NoType.{NoType}
use Rattle.types.specs.declared.value.AmlValue.{AmlValue}
use Rattle.types.specs.declared.value.AmlValue.TheVariants as Val

-- "a Boolean's type is Integer"
abbrev pub type_of : AmlValue → AmlType
type_of (Val.Boolean b) = T.Integer
type_of (Val.Integer n) = T.Integer
type_of Val.String = T.String
type_of Val.Buffer = T.Buffer
type_of (Val.BufferField o n) = T.BufferField
type_of (Val.Field f) = T.FieldUnit
type_of Val.OpRegion = T.OpRegion
type_of Val.Device = T.Device
type_of Val.Method = T.Method
type_of Val.Processor = T.Processor
type_of Val.Mutex = T.Mutex
type_of Val.Package = T.Package
type_of Val.PowerResource = T.PowerResource
type_of Val.ThermalZone = T.ThermalZone

-- ACPI 6.4, ObjectType: the number of a type
abbrev pub type_number_of : AmlType → ℕ
type_number_of T.Integer = 1
type_number_of T.String = 2
type_number_of T.Buffer = 3
type_number_of T.Package = 4
type_number_of T.FieldUnit = 5
type_number_of T.Device = 6
type_number_of T.Method = 8
type_number_of T.Mutex = 9
type_number_of T.OpRegion = 10
type_number_of T.PowerResource = 11
type_number_of T.Processor = 12
type_number_of T.ThermalZone = 13
type_number_of T.BufferField = 14

-- which numbers are types: 0 and 7 are ACPI's Uninitialized and Event, which document 01 has not taken
abbrev pub is_type : ℕ → Bool
is_type n = not (eqb n 0) && (not (eqb n 7) && leb n 14)

-- the types by their numbers; where there is none, nobody looks
abbrev pub of_types : List AmlType
of_types =
    T.Package
    ∷ T.Integer
    ∷ T.String
    ∷ T.Buffer
    ∷ T.Package
    ∷ T.FieldUnit
    ∷ T.Device
    ∷ T.Package
    ∷ T.Method
    ∷ T.Mutex
    ∷ T.OpRegion
    ∷ T.PowerResource
    ∷ T.Processor
    ∷ T.ThermalZone
    ∷ T.BufferField
    ∷ []

unfoldable pub type_named : ℕ → AmlType
type_named n = get_or of_types n T.Package

-- the type of a number, or that it is none
abbrev pub type_at : ℕ → Result AmlType NoType
type_at n = cond (is_type n) (Ok (type_named n)) (Err (record { 0 = n }))
