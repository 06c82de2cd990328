-- A field unit as a host names it: the region's space by ACPI's number (6.4, 19.6.100), flags, offset and length as they are.
-- Assumes nothing.
use Rattle.std.specs.Prelude.{ℕ}
use Rattle.types.specs.Spaces.{space_of}
use Rattle.types.specs.declared.value.FieldUnit.{FieldUnit}

abbrev pub field_of : ℕ → ℕ → ℕ → ℕ → FieldUnit
field_of space flags offset size = record { space = space_of space; flags = record { 0 = flags }; offset = offset; length = size }
