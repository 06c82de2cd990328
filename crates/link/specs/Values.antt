-- A value as a host names it: its kind by ACPI's number (ObjectType; 6.4, 19.6.97), 17 for a Boolean; the numbers that belong to the kind. 0, 7, 15
-- and 16 are ACPI's Uninitialized, Event, DDB Handle and Debug, which document 01 has not taken: they and all above 17 are no kind.
-- Assumes nothing.
use Rattle.std.specs.Prelude.{ℕ, Bool, not, cond, ◌&&◌, ◌||◌, List, [], ◌∷◌, eqb, get_or}
use Rattle.types.specs.Values.{is_type, type_named}
use Rattle.types.specs.declared.value.AmlType.{AmlType}
use Rattle.types.specs.declared.value.AmlValue.{AmlValue}
use Rattle.types.specs.declared.value.AmlValue.TheVariants as Val
use Rattle.link.specs.Fields.{field_of}
use Rattle.link.specs.declared.given.HostValue.{HostValue}

abbrev pub is_kind : ℕ → Bool
is_kind n = eqb n 17 || is_type n

-- what stands where there is no kind; nobody looks at it
abbrev pub other : AmlValue
other = Val.Package

-- what a host's numbers are of each kind, from 0 on
abbrev pub of_kinds : HostValue → List AmlValue
of_kinds h =
    other
    ∷ Val.Integer h.number
    ∷ Val.String
    ∷ Val.Buffer
    ∷ Val.Package
    ∷ Val.Field (field_of h.space h.flags h.offset h.length)
    ∷ Val.Device
    ∷ other
    ∷ Val.Method
    ∷ Val.Mutex
    ∷ Val.OpRegion
    ∷ Val.PowerResource
    ∷ Val.Processor
    ∷ Val.ThermalZone
    ∷ Val.BufferField h.offset h.length
    ∷ other
    ∷ other
    ∷ Val.Boolean (not (eqb h.number 0))
    ∷ []

unfoldable pub value_of : HostValue → AmlValue
value_of h = get_or (of_kinds h) h.kind other

-- what is made of the value, where it has a kind; and else
unfoldable pub with_value : {A : Type 0} → HostValue → (AmlValue → A) → A → A
with_value h f z = cond (is_kind h.kind) (f (value_of h)) z

unfoldable pub with_both : {A : Type 0} → HostValue → HostValue → (AmlValue → AmlValue → A) → A → A
with_both l r f z = cond (is_kind l.kind && is_kind r.kind) (f (value_of l) (value_of r)) z

unfoldable pub with_type : {A : Type 0} → HostValue → ℕ → (AmlValue → AmlType → A) → A → A
with_type h n f z = cond (is_kind h.kind && is_type n) (f (value_of h) (type_named n)) z
