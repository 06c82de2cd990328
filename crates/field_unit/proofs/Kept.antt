-- What an operation that the checks accept is known by: its width is one of four, and each of its units meets the field.
-- Assumes nothing.
use mathlib.Core.Path.{◌≡◌, ap}
use Prim.Native.Nat.{ℕ, suc, ◌+◌, ◌-◌, ◌*◌, ◌/◌, ◌≤◌, ◌<◌, min}
use native.Mathlib.Nat.{mul-le-mul_left, mul-le-mul_right, suc-mul, div-mul-le_self, lt-div-mul-add}
use native.Mathlib.Omega.{arith}
use Rattle.types.proofs.Widths.{Width, width_is}
use Rattle.field_unit.specs.Accesses.{first, last}
use Rattle.field_unit.specs.Calls.{plan_of}
use Rattle.field_unit.specs.declared.checked.Checked.{Checked}
use Rattle.field_unit.proofs.Parts.{unit_place, unit_size}
use Rattle.field_unit.proofs.Accepted.{unit_inside, first_last}

module _ (c : Checked) where
  pub width_ok : Width c.width
  width_ok = rw c.width_is (width_is c.op.field.flags.0 c.access)

  pub ordered : first (plan_of c.op) ≤ last (plan_of c.op)
  ordered = rw (← c.width_is) (first_last c.width c.op.field.offset c.op.field.length (omega (arith, c.wide)) c.fits.0)

  -- units are few
  pub small : last (plan_of c.op) ≤ 65536
  small =
      rw (← c.width_is)
      (let n = c.op.field.offset + c.op.field.length - 1 in
      omega (arith, c.ends, div-mul-le_self n c.width, mul-le-mul_left (n / c.width) c.wide.0))

  -- a unit of the field
  pub unit : (u : ℕ) → first (plan_of c.op) ≤ u → u ≤ last (plan_of c.op)
      → (c.op.field.offset < u * c.width + c.width) × (u * c.width < c.op.field.offset + c.op.field.length)
  unit u a b =
      let i = unit_inside c.width c.op.field.offset c.op.field.length u (omega (arith, c.wide)) c.fits.0 (rw c.width_is a) (rw c.width_is b) in
      (i.0, i.1)

  -- the first begins at the field's first bit or before it
  pub begins : (u : ℕ) → u ≡ first (plan_of c.op) → u * c.width ≤ c.op.field.offset
  begins u e =
      let q : u ≡ c.op.field.offset / c.width = rw c.width_is e in
      omega (arith, div-mul-le_self c.op.field.offset c.width, ap (λ (x : ℕ). x * c.width) q)

  -- past the last the field has ended
  pub over : (u : ℕ) → last (plan_of c.op) < u → c.op.field.offset + c.op.field.length ≤ u * c.width
  over u h =
      let n = c.op.field.offset + c.op.field.length - 1 in
      let m : suc (n / c.width) * c.width ≤ u * c.width = mul-le-mul_right c.width (rw c.width_is h) in
      omega (arith, c.fits, c.wide, suc-mul (n / c.width) c.width, lt-div-mul-add {a = n} {b = c.width} (omega (arith, c.wide)))

  -- a unit is whole bytes
  pub place : (u : ℕ) → 8 * (u * c.width / 8) ≡ u * c.width
  place u = unit_place c.width u width_ok

  pub bytes : 8 * min (c.width / 8) 8 ≡ c.width
  bytes = unit_size c.width width_ok
