-- How many accesses there can be. A field of at most 64 bits in units of at least 8 spans at most nine of them, and a write adds one for the
-- first unit and one for the last: a read makes at most 9, a write at most 11, and both are reached by 64 bits at offset 7 with byte access.
-- Assumes nothing.
use mathlib.Core.Path.{◌≡◌, refl}
use mathlib.Core.Bool.{false}
use Prim.Native.Nat.{ℕ, ◌+◌, ◌-◌, ◌≤◌}
use native.Mathlib.Nat.{add-mul, mul-le-mul_right, lt-div-mul-add, div-mul-le_self}
use native.Mathlib.Omega.{arith}
use Rattle.bits.proofs.Laws.{lt_cases, eq_cases}
use Rattle.types.specs.Flags.{access_width}
use Rattle.types.specs.Refusals.{first_of}
use Rattle.types.specs.declared.value.FieldUnit.{FieldUnit}
use Rattle.types.specs.declared.value.RegionSpace.TheVariants as S
use Rattle.field_unit.specs.Checks.{first_unit, last_unit, field_checks}
use lib.ListN.{length}
use Rattle.field_unit.specs.Accesses.{Plan, first, last, partly, unit_accesses, accesses_from, accesses}
use Rattle.field_unit.specs.Calls.{plan_of, count_of, Accepted, reading, writing}
use Rattle.field_unit.specs.declared.access.FieldOp.{FieldOp}
use Rattle.field_unit.proofs.Accepted.{facts, first_last}
use Rattle.field_unit.proofs.Units.{extra_most}
use Rattle.field_unit.proofs.Listing.{count_one, count_many, count_read}

pub units_most : (w o n : ℕ) → 8 ≤ w → 1 ≤ n → n ≤ 64 → last_unit w o n ≤ first_unit w o + 8
units_most w o n h g l =
    let a = lt-div-mul-add {a = o} {b = w} (omega arith) in
    let b = div-mul-le_self (o + n - 1) w in
    lt_cases (first_unit w o + 8) (last_unit w o n) (last_unit w o n ≤ first_unit w o + 8)
    (λ q.
    let m = mul-le-mul_right w q in
    let s = native.Mathlib.Nat.suc-mul (first_unit w o + 8) w in
    let t = add-mul (first_unit w o) 8 w in
    omega arith)
    (λ q. q)

pub most_of : (p : Plan) → 8 ≤ p.width → 1 ≤ p.size → p.size ≤ 64 → length (accesses p) ≤ 11
most_of p w h g =
    let m = units_most p.width p.offset p.size w h g in
    let l = first_last p.width p.offset p.size (omega arith) h in
    let a = extra_most (partly p (first p)) in
    let b = extra_most (partly p (last p)) in
    eq_cases (first p) (last p) (length (accesses p) ≤ 11)
    (λ q. omega (arith, count_one p q))
    (λ d. omega (arith, count_many p (omega arith) h (omega arith)))

pub count_most : (op : FieldOp) (size : ℕ) → Accepted op size → count_of op ≤ 11
count_most op size e = let f = facts op size e in most_of (plan_of op) f.wide.0 f.fits.0 f.fits.1

pub read_count_most : (op : FieldOp) (size : ℕ) → op.write ≡ false → Accepted op size → count_of op ≤ 9
read_count_most op size w e =
    let f = facts op size e in
    let p = plan_of op in
    let m = units_most p.width p.offset p.size f.wide.0 f.fits.0 f.fits.1 in
    omega (arith, count_read p (omega (arith, f.wide)) f.fits.0 w)

-- 64 bits at offset 7, byte access, Preserve
abbrev pub widest : FieldUnit
widest = record { space = S.SystemMemory; flags = record { 0 = 1 }; offset = 7; length = 64 }

pub read_reaches : (Accepted (reading widest) 9) × (count_of (reading widest) ≡ 9)
unfolding first_of field_checks access_width accesses_from unit_accesses
read_reaches = (refl, refl)

pub write_reaches : (v : ℕ) → (Accepted (writing widest v) 9) × (count_of (writing widest v) ≡ 11)
unfolding first_of field_checks access_width accesses_from unit_accesses
write_reaches v = (refl, refl)
