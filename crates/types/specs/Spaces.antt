-- ACPI 6.4, 19.6.100: the number of a region's space.
-- Assumes nothing.
use Rattle.std.specs.Prelude.{ℕ, List, [], ◌∷◌, get_or}
use Rattle.types.specs.declared.value.RegionSpace.{RegionSpace}
use Rattle.types.specs.declared.value.RegionSpace.TheVariants as S

-- the spaces by their numbers from 0 on
abbrev pub spaces : List RegionSpace
spaces =
    S.SystemMemory
    ∷ S.SystemIo
    ∷ S.PciConfig
    ∷ S.EmbeddedControl
    ∷ S.SMBus
    ∷ S.SystemCmos
    ∷ S.PciBarTarget
    ∷ S.IPMI
    ∷ S.GeneralPurposeIo
    ∷ S.GenericSerialBus
    ∷ []

unfoldable pub space_of : ℕ → RegionSpace
space_of n = get_or spaces n (S.OemDefined n)

-- a space's number again
abbrev pub space_number : RegionSpace → ℕ
space_number S.SystemMemory = 0
space_number S.SystemIo = 1
space_number S.PciConfig = 2
space_number S.EmbeddedControl = 3
space_number S.SMBus = 4
space_number S.SystemCmos = 5
space_number S.PciBarTarget = 6
space_number S.IPMI = 7
space_number S.GeneralPurposeIo = 8
space_number S.GenericSerialBus = 9
space_number (S.OemDefined n) = n
