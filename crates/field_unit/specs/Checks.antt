-- Document 01, refusals 9, 21, 22, 27, 28, 29, in the order "27 first .. Field units: 9, 28, 29, 21, 22".
-- Assumes nothing.
use Rattle.std.specs.Prelude.{ℕ, ◌+◌, ◌-◌, ◌*◌, ◌/◌, Bool, true, false, ◌&&◌, ◌||◌, not, [], ◌∷◌, leb, ltb, eqb}
use Rattle.types.specs.Flags.{access_bits, rule_bits, access_width}
use Rattle.types.specs.Refusals.{Checks}
use Rattle.types.specs.declared.refusal.Refusal.TheVariants as R
use Rattle.types.specs.declared.value.RegionSpace.{RegionSpace}
use Rattle.types.specs.declared.value.RegionSpace.TheVariants as S
use Rattle.types.specs.declared.value.FieldUnit.{FieldUnit}

-- "28: region space other than SystemMemory, SystemIo, PciConfig"
abbrev pub supported : RegionSpace → Bool
supported S.SystemMemory = true
supported S.SystemIo = true
supported S.PciConfig = true
supported S.EmbeddedControl = false
supported S.SMBus = false
supported S.SystemCmos = false
supported S.PciBarTarget = false
supported S.IPMI = false
supported S.GeneralPurposeIo = false
supported S.GenericSerialBus = false
supported (S.OemDefined n) = false

-- SystemIo and PciConfig have no access of 64 bits
abbrev pub narrow : RegionSpace → Bool
narrow S.SystemMemory = false
narrow S.SystemIo = true
narrow S.PciConfig = true
narrow S.EmbeddedControl = false
narrow S.SMBus = false
narrow S.SystemCmos = false
narrow S.PciBarTarget = false
narrow S.IPMI = false
narrow S.GeneralPurposeIo = false
narrow S.GenericSerialBus = false
narrow (S.OemDefined n) = false

-- "9: field flags: access 6 to 15, or (writes only) update rule 3"
abbrev pub bad_flags : Bool → ℕ → Bool
bad_flags write flags = leb 6 (access_bits flags) || (write && eqb (rule_bits flags) 3)

-- "A field touches units offset div w to (offset + length − 1) div w."
abbrev pub first_unit : ℕ → ℕ → ℕ
first_unit w o = o / w

abbrev pub last_unit : ℕ → ℕ → ℕ → ℕ
last_unit w o n = (o + n - 1) / w

-- "22: an access unit of the field isn't whole inside the region", of so many bytes
abbrev pub outside : ℕ → ℕ → ℕ → ℕ → Bool
outside w o n size = ltb (8 * size) (last_unit w o n * w + w)

-- 21, 22: where the field lies
abbrev pub place_checks : ℕ → ℕ → ℕ → ℕ → Checks
place_checks w o n size =
    (eqb n 0 || ltb 64 n, R.FieldUnitLength)
    ∷ (outside w o n size, R.FieldUnitOutsideRegion)
    ∷ []

-- the checks of a read or a write of a field unit, in a region of so many bytes
unfoldable pub field_checks : Bool → FieldUnit → ℕ → Checks
field_checks write f size =
    (ltb 65536 size, R.TooManyBytes)
    ∷ (bad_flags write f.flags.0, R.InvalidFieldFlags)
    ∷ (not (supported f.space), R.UnsupportedRegionSpace)
    ∷ (eqb (access_width f.flags.0) 64 && narrow f.space, R.QWordAccessInSpace)
    ∷ place_checks (access_width f.flags.0) f.offset f.length size
