-- Document 01, "Field units": the list of loads and stores that a read or a write makes, and what each does.
-- All of it is for a field of any length; 64 stands in the checks and in the answers alone.
-- Assumes nothing.
use Rattle.std.specs.Prelude.{ℕ, zero, suc, ◌+◌, ◌-◌, ◌*◌, min, max, Bool, true, false, cond, ◌&&◌, not, List, [], ◌∷◌, ◌++◌, leb}
use Rattle.bits.specs.Bits.{bit_of, run, put, from, get_bits, set_bits}
use Rattle.field_unit.specs.Checks.{first_unit, last_unit}
use Rattle.types.specs.declared.flags.FieldUpdateRule.{FieldUpdateRule}
use Rattle.types.specs.declared.flags.FieldUpdateRule.TheVariants as U
use Rattle.field_unit.specs.declared.access.Access.{Access}
use Rattle.field_unit.specs.declared.access.Access.TheVariants.{Load, Store}

-- a read, or a write of these bits under this rule, of the field of size bits at offset, in units of width bits
pub record Plan : Type 0 where
  pub write : Bool
  pub rule : FieldUpdateRule
  pub width : ℕ
  pub offset : ℕ
  pub size : ℕ
  pub bits : ℕ → ℕ

-- ---- the units

abbrev pub first : Plan → ℕ
first p = first_unit p.width p.offset

abbrev pub last : Plan → ℕ
last p = last_unit p.width p.offset p.size

-- how many units it touches
abbrev pub units : Plan → ℕ
units p = last p + 1 - first p

-- where unit u begins, in bits: "Units of that width count from the region's start"
abbrev pub base : Plan → ℕ → ℕ
base p u = u * p.width

-- the field's bits in unit u: from bit lo of the region up to bit hi
abbrev pub lo : Plan → ℕ → ℕ
lo p u = max p.offset (base p u)

abbrev pub hi : Plan → ℕ → ℕ
hi p u = min (p.offset + p.size) (base p u + p.width)

-- "a wholly covered unit"
abbrev pub covered : Plan → ℕ → Bool
covered p u = leb p.offset (base p u) && leb (base p u + p.width) (p.offset + p.size)

-- ---- the list

abbrev pub unit_of : Access → ℕ
unit_of (Load u) = u
unit_of (Store u) = u

-- "a partly covered one under Preserve is loaded, then stored ..; under the other rules it is stored"
abbrev pub part_accesses : FieldUpdateRule → ℕ → List Access
part_accesses U.Preserve u = Load u ∷ Store u ∷ []
part_accesses U.WriteAsOnes u = Store u ∷ []
part_accesses U.WriteAsZeros u = Store u ∷ []

-- "A read loads each unit once .. A write .. a wholly covered unit is stored"
unfoldable pub unit_accesses : Plan → ℕ → List Access
unit_accesses p u = cond p.write (cond (covered p u) (Store u ∷ []) (part_accesses p.rule u)) (Load u ∷ [])

-- a unit that is loaded before it is stored
abbrev pub keeps : FieldUpdateRule → Bool
keeps U.Preserve = true
keeps U.WriteAsOnes = false
keeps U.WriteAsZeros = false

unfoldable pub partly : Plan → ℕ → Bool
partly p u = p.write && (keeps p.rule && not (covered p u))

-- "ascending": those of m units from u on
unfoldable pub accesses_from : Plan → ℕ → ℕ → List Access
accesses_from p u zero = []
accesses_from p u (suc m) = unit_accesses p u ++ accesses_from p (suc u) m

abbrev pub accesses : Plan → List Access
accesses p = accesses_from p (first p) (units p)

-- ---- what one access does

-- the region, and what the loads so far hold for the accesses to come
pub record Progress : Type 0 where
  pub region : List ℕ
  pub held : ℕ

-- a read has the field's bits of the units up to u: those held, and those of unit u, which holds x. Bits that no load gave count as 0.
unfoldable pub gathered : Plan → ℕ → ℕ → ℕ → ℕ
gathered p u h x =
    run (put (bit_of h) (lo p u - p.offset) (hi p u - lo p u) (from (bit_of x) (lo p u - base p u))) 0 (hi p u - p.offset)

-- the bits around the field: "with its other bits kept", "with them all one or all zero"
unfoldable pub others : FieldUpdateRule → (ℕ → ℕ) → ℕ → ℕ
others U.Preserve f k = f k
others U.WriteAsOnes f k = 1
others U.WriteAsZeros f k = 0

-- the unit that a write stores: its field's bits are those to write, the others go by the rule
unfoldable pub merged : Plan → ℕ → ℕ → ℕ
merged p u h =
    run (put (others p.rule (bit_of h)) (lo p u - base p u) (hi p u - lo p u) (from p.bits (lo p u - p.offset))) 0 p.width

-- a load takes the unit, little-endian; a write holds it for the store that follows. A store puts the unit in place; nothing is held after it.
unfoldable pub act : Plan → Access → Progress → Progress
act p (Load u) s =
    record {
      region = s.region;
      held =
          cond p.write (get_bits s.region (base p u) p.width) (gathered p u s.held (get_bits s.region (base p u) p.width));
    }
act p (Store u) s = record { region = set_bits s.region (base p u) p.width (merged p u s.held); held = 0 }

-- one after the other
unfoldable pub acts : Plan → List Access → Progress → Progress
acts p [] s = s
acts p (a ∷ l) s = acts p l (act p a s)

abbrev pub progress : List ℕ → ℕ → Progress
progress s h = record { region = s; held = h }

abbrev pub opening : List ℕ → Progress
opening s = progress s 0

-- the whole list, run in order
abbrev pub whole : Plan → List ℕ → Progress
whole p s = acts p (accesses p) (opening s)
