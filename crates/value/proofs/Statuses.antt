-- A status is five bits of an Integer below 32, each found by a division; any other value is refused by 10.
-- Assumes nothing.
use mathlib.Core.Path.{◌≡◌, refl, ap}
use mathlib.Core.List.{List, [], ◌∷◌}
use Prim.Native.Nat.{ℕ, ◌/◌, ◌%◌, ◌^◌, ◌≤◌, ◌<◌}
use lib.Dec.{eqb}
use denote.Enum.Declared.{tag_of}
use types.Run.{OneOf, miss}
use borrow.Author.Tests.{lt-ltb, le-ltb}
use Rattle.bits.specs.Bits.{bit_of}
use Rattle.bits.proofs.Laws.{bit_of_zero}
use Rattle.types.specs.declared.refusal.Refusal.TheVariants as R
use Rattle.types.specs.declared.value.AmlValue.{AmlValue}
use Rattle.types.specs.declared.value.AmlValue.TheVariants as Val
use Rattle.types.specs.contracts.value.AmlValue.{the_type}
use Rattle.value.specs.Conversions.{integer, held_by}
use Rattle.value.specs.Status.{status_of, to_status}
use Rattle.value.specs.declared.status.StatusObject.{StatusObject}
use Rattle.std.specs.Prelude.{Ok, Err}

pub bit_by_division : (n k : ℕ) → bit_of n k ≡ n / 2 ^ k % 2
unfolding bit_of
bit_by_division n k = refl

-- the five bits by division
abbrev pub status_parts : ℕ → StatusObject
status_parts n =
    record {
      present = eqb (n % 2) 1;
      enabled = eqb (n / 2 % 2) 1;
      show_in_ui = eqb (n / 4 % 2) 1;
      functional = eqb (n / 8 % 2) 1;
      battery_present = eqb (n / 16 % 2) 1;
    }

pub status_parts_lem : (n : ℕ) → status_of n ≡ status_parts n
status_parts_lem n = rw (bit_of_zero n, bit_by_division n 1, bit_by_division n 2, bit_by_division n 3, bit_by_division n 4)

pub status_of_lem : (n : ℕ) → n < 32 → to_status (integer n) ≡ Ok (status_parts n)
unfolding to_status
status_of_lem n h = rw (lt-ltb n 32 h) (ap Ok (status_parts_lem n))

pub status_high : (n : ℕ) → 32 ≤ n → to_status (integer n) ≡ Err R.InvalidStatusObject
unfolding to_status
status_high n h = rw (le-ltb n 32 h)

-- the places in the enum of all kinds but Integer
abbrev pub not_status : List ℕ
not_status = 0 ∷ 2 ∷ 3 ∷ 4 ∷ 5 ∷ 6 ∷ 7 ∷ 8 ∷ 9 ∷ 10 ∷ 11 ∷ 12 ∷ 13 ∷ []

pub no_status : (v : AmlValue) (s : List ℕ) → OneOf not_status (tag_of the_type v) → to_status (held_by v s) ≡ Err R.InvalidStatusObject
unfolding to_status
no_status (Val.Integer n) s k = absurd (miss not_status 1 tt k)
no_status (Val.Boolean b) s k = refl
no_status Val.String s k = refl
no_status Val.Buffer s k = refl
no_status (Val.BufferField o n) s k = refl
no_status (Val.Field f) s k = refl
no_status Val.OpRegion s k = refl
no_status Val.Device s k = refl
no_status Val.Method s k = refl
no_status Val.Processor s k = refl
no_status Val.Mutex s k = refl
no_status Val.Package s k = refl
no_status Val.PowerResource s k = refl
no_status Val.ThermalZone s k = refl
