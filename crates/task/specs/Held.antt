-- Document 01, "Refusal numbers", of the task table: "Held bits that no load gave count as 0."
-- Assumes nothing.
use Rattle.std.specs.Prelude.{ℕ, ◌+◌, ◌≤◌, ◌<◌, ◌≡◌, cond, List}
use Rattle.bits.specs.Bits.{bit_of}
use Rattle.field_unit.specs.Accesses.{Plan, lo, hi, progress, act}
use Rattle.field_unit.specs.Calls.{plan_of, count_of, access_at}
use Rattle.field_unit.specs.declared.access.Access.{Access}
use Rattle.field_unit.specs.declared.access.Access.TheVariants.{Load, Store}
use Rattle.field_unit.specs.declared.access.FieldOp.{FieldOp}

-- a write's load gives the unit's bits; a read's gives the field's bits of the unit, at their places in the field
abbrev pub Gives : Plan → Access → ℕ → Type 0
Gives p (Load u) i = cond p.write (i < p.width) ((lo p u ≤ p.offset + i) × (p.offset + i < hi p u))
Gives p (Store u) i = ⊥

abbrev pub Loads : Access → Type 0
Loads (Load u) = Unit {0}
Loads (Store u) = ⊥

-- bit i of what is held before access k: a load gave it, and there was no store since
pub record Given (o : FieldOp) (k i : ℕ) : Type 0 where
  pub by : ℕ
  pub before : by < k
  pub gives : Gives (plan_of o) (access_at o by) i
  pub since : (n : ℕ) → by < n → n < k → Loads (access_at o n)

-- what an access does goes only by those bits: the others may be anything, and so count as 0
abbrev pub OnlyGivenBitsCount : Type 0
OnlyGivenBitsCount =
    (o : FieldOp) (k : ℕ) → k < count_of o → (s : List ℕ) (h g : ℕ) → ((i : ℕ) → Given o k i → bit_of h i ≡ bit_of g i)
    → act (plan_of o) (access_at o k) (progress s h) ≡ act (plan_of o) (access_at o k) (progress s g)
