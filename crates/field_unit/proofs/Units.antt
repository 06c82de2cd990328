-- The accesses of one unit, by cases: a read loads it; a write stores it, and loads it before where it keeps bits of it. A unit between the
-- first and the last is covered by the field, so it is never loaded by a write.
-- Assumes nothing.
use mathlib.Core.Path.{◌≡◌, refl, sym, ap, ◌∙◌}
use mathlib.Core.Bool.{Bool, true, false, cond, ◌&&◌, not}
use mathlib.Core.List.{[], ◌∷◌}
use Prim.Native.Nat.{ℕ, ◌+◌, ◌-◌, ◌≤◌, ◌<◌}
use native.Mathlib.Nat.{suc-mul, lt-div-mul-add, div-mul-le_self, mul-le-mul_right}
use native.Mathlib.Omega.{arith}
use borrow.Author.Tests.{le-leb}
use mir.Val.{bool_byte}
use lib.Dec.{leb}
use lib.ListN.{length}
use Rattle.types.specs.declared.flags.FieldUpdateRule.{FieldUpdateRule}
use Rattle.types.specs.declared.flags.FieldUpdateRule.TheVariants as U
use Rattle.field_unit.specs.Accesses.{Plan, first, last, base, covered, part_accesses, unit_accesses, keeps, partly}
use Rattle.field_unit.specs.declared.access.Access.TheVariants.{Load, Store}

-- ---- is it loaded before it is stored?

pub partly_read : (p : Plan) (u : ℕ) → p.write ≡ false → partly p u ≡ false
unfolding partly
partly_read p u e = ap (λ (t : Bool). t && (keeps p.rule && not (covered p u))) e

pub partly_write : (p : Plan) (u : ℕ) → partly p u ≡ true → p.write ≡ true
unfolding partly
partly_write p u e = go p.write (keeps p.rule && not (covered p u)) e
  where
    go : (t b : Bool) → (t && b) ≡ true → t ≡ true
    go true b h = refl
    go false b h = h

pub partly_covered : (p : Plan) (u : ℕ) → covered p u ≡ true → partly p u ≡ false
unfolding partly
partly_covered p u e = ap (λ (t : Bool). p.write && (keeps p.rule && not t)) e ∙ go p.write (keeps p.rule)
  where
    go : (a b : Bool) → (a && (b && false)) ≡ false
    go true true = refl
    go true false = refl
    go false b = refl

pub covered_between : (p : Plan) (u : ℕ) → p.offset ≤ base p u → base p u + p.width ≤ p.offset + p.size → covered p u ≡ true
covered_between p u h g =
    ap (λ (t : Bool). t && leb (base p u + p.width) (p.offset + p.size)) (le-leb p.offset (base p u) h)
    ∙ le-leb (base p u + p.width) (p.offset + p.size) g

pub middle_covered : (p : Plan) (u : ℕ) → 0 < p.width → 1 ≤ p.size → first p < u → u < last p → covered p u ≡ true
middle_covered p u h g a b =
    let l = lt-div-mul-add {a = p.offset} h in
    let m = mul-le-mul_right p.width a in
    let q = mul-le-mul_right p.width b in
    let d = div-mul-le_self (p.offset + p.size - 1) p.width in
    let s = suc-mul (first p) p.width in
    let t = suc-mul u p.width in
    covered_between p u (omega arith) (omega arith)

pub middle_stored : (p : Plan) (u : ℕ) → 0 < p.width → 1 ≤ p.size → first p < u → u < last p → partly p u ≡ false
middle_stored p u h g a b = partly_covered p u (middle_covered p u h g a b)

-- ---- its accesses

pub unit_read : (p : Plan) (u : ℕ) → p.write ≡ false → unit_accesses p u ≡ Load u ∷ []
unfolding unit_accesses
unit_read p u e = ap (λ (t : Bool). cond t (cond (covered p u) (Store u ∷ []) (part_accesses p.rule u)) (Load u ∷ [])) e

-- of a write, as its rule and its cover say
of_write : (u : ℕ) (r : FieldUpdateRule) (c : Bool)
    → cond c (Store u ∷ []) (part_accesses r u) ≡ cond (keeps r && not c) (Load u ∷ Store u ∷ []) (Store u ∷ [])
of_write u U.Preserve true = refl
of_write u U.Preserve false = refl
of_write u U.WriteAsOnes true = refl
of_write u U.WriteAsOnes false = refl
of_write u U.WriteAsZeros true = refl
of_write u U.WriteAsZeros false = refl

unit_write : (p : Plan) (u : ℕ) → p.write ≡ true → unit_accesses p u ≡ cond (partly p u) (Load u ∷ Store u ∷ []) (Store u ∷ [])
unfolding unit_accesses partly
unit_write p u e =
    ap (λ (t : Bool). cond t (cond (covered p u) (Store u ∷ []) (part_accesses p.rule u)) (Load u ∷ [])) e
    ∙ of_write u p.rule (covered p u)
    ∙ ap (λ (t : Bool). cond (t && (keeps p.rule && not (covered p u))) (Load u ∷ Store u ∷ []) (Store u ∷ [])) (sym e)

pub unit_partly : (p : Plan) (u : ℕ) → partly p u ≡ true → unit_accesses p u ≡ Load u ∷ Store u ∷ []
unit_partly p u e =
    unit_write p u (partly_write p u e) ∙ ap (λ (t : Bool). cond t (Load u ∷ Store u ∷ []) (Store u ∷ [])) e

pub unit_stored : (p : Plan) (u : ℕ) → p.write ≡ true → partly p u ≡ false → unit_accesses p u ≡ Store u ∷ []
unit_stored p u w e = unit_write p u w ∙ ap (λ (t : Bool). cond t (Load u ∷ Store u ∷ []) (Store u ∷ [])) e

-- one more where it is loaded first
abbrev pub extra : Bool → ℕ
extra b = cond b 1 0

pub extra_most : (b : Bool) → extra b ≤ 1
extra_most true = omega arith
extra_most false = omega arith

-- as the code counts it
pub byte_is : (b : Bool) → bool_byte b ≡ extra b
byte_is true = refl
byte_is false = refl

pub unit_count : (p : Plan) (u : ℕ) → length (unit_accesses p u) ≡ 1 + extra (partly p u)
unit_count p u = by_write p.write refl
  where
    by_partly : (t : Bool) → partly p u ≡ t → p.write ≡ true → length (unit_accesses p u) ≡ 1 + extra (partly p u)
    by_partly true e w = ap length (unit_partly p u e) ∙ ap (λ (t : Bool). 1 + extra t) (sym e)
    by_partly false e w = ap length (unit_stored p u w e) ∙ ap (λ (t : Bool). 1 + extra t) (sym e)

    by_write : (t : Bool) → p.write ≡ t → length (unit_accesses p u) ≡ 1 + extra (partly p u)
    by_write true w = by_partly (partly p u) refl w
    by_write false w = ap length (unit_read p u w) ∙ ap (λ (t : Bool). 1 + extra t) (sym (partly_read p u w))
