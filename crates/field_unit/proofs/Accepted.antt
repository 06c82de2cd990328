-- What an accepted operation is known by: no check of it holds, so each test is false, and a false test is a fact on numbers. The rest is
-- arithmetic with the last unit's end inside the region.
-- Assumes nothing.
use mathlib.Core.Path.{◌≡◌}
use mathlib.Core.Bool.{true, ◌&&◌}
use Prim.Native.Nat.{ℕ, ◌+◌, ◌-◌, ◌*◌, ◌≤◌, ◌<◌}
use native.Mathlib.Nat.{lt-div-mul-add, div-mul-le_self, mul-le-mul_right, le-div_iff_mul-le}
use native.Mathlib.Omega.{arith}
use borrow.Author.Tests.{leb-false, ltb-false, eqb-false}
use lib.Dec.{leb, ltb, eqb}
use Rattle.types.specs.Flags.{access_bits, rule_bits, access_width}
use Rattle.types.proofs.Judging.{NoneHolds, none_holds}
use Rattle.types.proofs.Tests.{or_none, and_no}
use Rattle.field_unit.proofs.Parts.{width_least, width_most}
use Rattle.types.proofs.Widths.{Width, width_bounds}
use Rattle.field_unit.specs.Checks.{place_checks, field_checks, first_unit, last_unit}
use Rattle.field_unit.specs.Calls.{Accepted}
use Rattle.field_unit.specs.declared.access.FieldOp.{FieldOp}

-- every unit from the first to the last meets the field, and ends no later than the last
pub unit_inside : (w o n u : ℕ) → 0 < w → 1 ≤ n → first_unit w o ≤ u → u ≤ last_unit w o n
    → (o < u * w + w) × (u * w < o + n) × (u * w ≤ last_unit w o n * w)
unit_inside w o n u h g a b =
    let l = lt-div-mul-add {a = o} h in
    let m = mul-le-mul_right w a in
    let q = mul-le-mul_right w b in
    let d = div-mul-le_self (o + n - 1) w in
    (omega arith, omega arith, omega arith)

pub first_last : (w o n : ℕ) → 0 < w → 1 ≤ n → first_unit w o ≤ last_unit w o n
first_last w o n h g = (le-div_iff_mul-le h).1 (omega (arith, div-mul-le_self o w))

-- the last unit begins before the field ends, and ends no earlier
pub last_meets : (w o n : ℕ) → Width w → 1 ≤ n → (last_unit w o n * w < o + n) × (o + n ≤ last_unit w o n * w + w) × (w ≤ 64)
last_meets w o n ok g =
    let least = width_least w ok in
    let l = lt-div-mul-add {a = o + n - 1} {b = w} (omega arith) in
    let d = div-mul-le_self (o + n - 1) w in
    (omega arith, omega arith, width_most w ok)

-- the facts: there is a width, the field has bits and no more than a word, and it ends inside the greatest region
pub record Facts (op : FieldOp) : Type 0 where
  pub access : access_bits op.field.flags.0 < 6
  pub wide : (8 ≤ access_width op.field.flags.0) × (access_width op.field.flags.0 ≤ 64)
  pub fits : (1 ≤ op.field.length) × (op.field.length ≤ 64)
  pub ends : op.field.offset + op.field.length ≤ 524288

place : (w o n size : ℕ) → NoneHolds (place_checks w o n size) → (1 ≤ n) × (n ≤ 64) × (last_unit w o n * w + w ≤ 8 * size)
place w o n size h =
    let a = or_none (eqb n 0) (ltb 64 n) h.0 in
    let z = eqb-false n 0 a.0 in
    let m = ltb-false 64 n a.1 in
    let i = ltb-false (8 * size) (last_unit w o n * w + w) h.1.0 in
    (omega arith, m, i)

pub facts : (op : FieldOp) (size : ℕ) → Accepted op size → Facts op
unfolding field_checks
facts op size e =
    let f = op.field.flags.0 in
    let w = access_width f in
    let o = op.field.offset in
    let n = op.field.length in
    let h = none_holds (field_checks op.write op.field size) e in
    let s = ltb-false 65536 size h.0 in
    let b = or_none (leb 6 (access_bits f)) (op.write && eqb (rule_bits f) 3) h.1.0 in
    let a = leb-false 6 (access_bits f) b.0 in
    let p = place w o n size h.1.1.1.1 in
    let wb = width_bounds f a in
    let l = lt-div-mul-add {a = o + n - 1} {b = w} (omega arith) in
    record { access = a; wide = wb; fits = (p.0, p.1); ends = omega arith }

-- where it lies: the last unit ends inside the region, and with it the field; and a write has no update rule 3
pub record Placed (op : FieldOp) (size : ℕ) : Type 0 where
  pub size_most : size ≤ 65536
  pub rule : op.write ≡ true → rule_bits op.field.flags.0 ≡ 3 → ⊥
  pub last_inside : last_unit (access_width op.field.flags.0) op.field.offset op.field.length * access_width op.field.flags.0 + access_width op.field.flags.0 ≤ 8 * size
  pub end_most : op.field.offset + op.field.length ≤ 8 * size

pub placed : (op : FieldOp) (size : ℕ) → Accepted op size → Placed op size
unfolding field_checks
placed op size e =
    let f = op.field.flags.0 in
    let w = access_width f in
    let o = op.field.offset in
    let n = op.field.length in
    let h = none_holds (field_checks op.write op.field size) e in
    let s = ltb-false 65536 size h.0 in
    let b = or_none (leb 6 (access_bits f)) (op.write && eqb (rule_bits f) 3) h.1.0 in
    let p = place w o n size h.1.1.1.1 in
    let wb = width_bounds f (leb-false 6 (access_bits f) b.0) in
    let l = lt-div-mul-add {a = o + n - 1} {b = w} (omega arith) in
    record {
      size_most = s;
      rule = λ h. eqb-false (rule_bits f) 3 (and_no op.write (eqb (rule_bits f) 3) b.1 h);
      last_inside = p.2;
      end_most = omega arith;
    }

-- a unit of the field: it meets the field, and lies whole inside the region
pub record Inside (w o n size u : ℕ) : Type 0 where
  pub meets : o < u * w + w
  pub starts : u * w < o + n
  pub ends : u * w + w ≤ 8 * size

pub inside : (op : FieldOp) (size u : ℕ) → Accepted op size → first_unit (access_width op.field.flags.0) op.field.offset ≤ u
    → u ≤ last_unit (access_width op.field.flags.0) op.field.offset op.field.length
    → Inside (access_width op.field.flags.0) op.field.offset op.field.length size u
inside op size u e a b =
    let f = facts op size e in
    let p = placed op size e in
    let i = unit_inside (access_width op.field.flags.0) op.field.offset op.field.length u (omega (arith, f.wide)) f.fits.0 a b in
    record { meets = i.0; starts = i.1; ends = omega (arith, p.last_inside, i.2) }
