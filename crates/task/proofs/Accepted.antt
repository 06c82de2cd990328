-- An operation that passes its checks makes an access: its length is not 0 and its width is one of the table's, so its last unit does not lie before
-- its first.
-- Assumes nothing.
use Prim.Native.Nat.{ℕ, zero, suc, ◌+◌, ◌-◌, ◌/◌, ◌≤◌, ◌<◌}
use native.Mathlib.Omega.{arith}
use native.Mathlib.Nat.{div-mul-le_self, le-div_iff_mul-le}
use mathlib.Core.Path.{◌≡◌}
use mathlib.Core.Bool.{Bool, true, false, cond}
use mathlib.Core.List.{[], ◌∷◌}
use lib.Dec.{leb, eqb}
use lib.ListN.{length, get_or, length-append}
use borrow.Author.Tests.{leb-false, eqb-false}
use Rattle.types.specs.Flags.{access_width, access_bits, widths}
use Rattle.types.specs.declared.flags.FieldUpdateRule.{FieldUpdateRule}
use Rattle.types.specs.declared.flags.FieldUpdateRule.TheVariants as U
use Rattle.field_unit.specs.Checks.{field_checks}
use Rattle.field_unit.specs.Accesses.{Plan, first, units, covered, unit_accesses, part_accesses, accesses_from}
use Rattle.field_unit.specs.Calls.{plan_of, count_of, Accepted}
use Rattle.field_unit.specs.declared.access.Access.TheVariants.{Load, Store}
use Rattle.field_unit.specs.declared.access.FieldOp.{FieldOp}
use Rattle.types.proofs.Judging.{none_holds}
use Rattle.types.proofs.Tests.{or_none}

width_some : (flags : ℕ) → access_bits flags < 6 → 0 < access_width flags
unfolding access_width
width_some flags h = go (access_bits flags) h
  where
    go : (a : ℕ) → a < 6 → 0 < get_or widths a 0
    go zero l = omega arith
    go (suc zero) l = omega arith
    go (suc (suc zero)) l = omega arith
    go (suc (suc (suc zero))) l = omega arith
    go (suc (suc (suc (suc zero)))) l = omega arith
    go (suc (suc (suc (suc (suc zero))))) l = omega arith
    go (suc (suc (suc (suc (suc (suc a)))))) l = absurd (omega arith)

unit_some : (p : Plan) (u : ℕ) → 0 < length (unit_accesses p u)
unfolding unit_accesses
unit_some p u = go p.write (covered p u) p.rule
  where
    go : (w c : Bool) (r : FieldUpdateRule) → 0 < length (cond w (cond c (Store u ∷ []) (part_accesses r u)) (Load u ∷ []))
    go false c r = omega arith
    go true true r = omega arith
    go true false U.Preserve = omega arith
    go true false U.WriteAsOnes = omega arith
    go true false U.WriteAsZeros = omega arith

from_some : (p : Plan) (u m : ℕ) → 0 < m → 0 < length (accesses_from p u m)
unfolding accesses_from
from_some p u zero h = absurd (omega arith)
from_some p u (suc m) h = simp length-append (omega (arith, unit_some p u))

-- a field of n bits, in units of w bits
units_some : (w o n : ℕ) → 0 < w → (n ≡ 0 → ⊥) → o / w ≤ (o + n - 1) / w
units_some w o n pos some = let d = div-mul-le_self o w in (le-div_iff_mul-le pos).1 (omega arith)

pub accepted_count : (o : FieldOp) (size : ℕ) → Accepted o size → 0 < count_of o
unfolding field_checks
accepted_count o size e =
    let n = none_holds (field_checks o.write o.field size) e in
    let flags = o.field.flags.0 in
    let access : access_bits flags < 6 = leb-false 6 (access_bits flags) (or_none (leb 6 (access_bits flags)) _ n.1.0).0 in
    let some : o.field.length ≡ 0 → ⊥ = eqb-false o.field.length 0 (or_none (eqb o.field.length 0) _ n.1.1.1.1.0).0 in
    let order = units_some (access_width flags) o.field.offset o.field.length (width_some flags access) some in
    from_some (plan_of o) (first (plan_of o)) (units (plan_of o)) (omega arith)
