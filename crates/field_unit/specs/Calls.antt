-- Document 01, "Field units": what a whole read and a whole write answer, and the region after; what the next single access does.
-- Assumes nothing.
use Rattle.std.specs.Prelude.{ℕ, ◌≡◌, ◌≤◌, true, false, cond, List, [], ◌∷◌, ltb, length, get_or}
use Rattle.bits.specs.Bits.{bit_of}
use Rattle.types.specs.Flags.{rule_bits, access_width}
use Rattle.types.specs.Refusals.{first_of, judged}
use Rattle.field_unit.specs.declared.whole.UnitRead.{UnitRead}
use Rattle.std.specs.Prelude.{⊤, Result, Ok, Err, Option, Some, None}
use Rattle.types.specs.declared.refusal.Refusal.{Refusal}
use Rattle.types.specs.declared.flags.FieldUpdateRule.{FieldUpdateRule}
use Rattle.types.specs.declared.flags.FieldUpdateRule.TheVariants as U
use Rattle.types.specs.declared.value.FieldUnit.{FieldUnit}
use Rattle.field_unit.specs.Checks.{field_checks}
use Rattle.field_unit.specs.Accesses.{Plan, Progress, progress, first, last, accesses, act, whole}
use Rattle.field_unit.specs.declared.access.Access.{Access}
use Rattle.field_unit.specs.declared.access.Access.TheVariants.{Load}
use Rattle.field_unit.specs.declared.access.FieldOp.{FieldOp}

-- "0 Preserve, 1 WriteAsOnes, 2 WriteAsZeros"; 3 is refused for a write, and no read looks
abbrev pub rule_of : ℕ → FieldUpdateRule
rule_of flags = get_or (U.Preserve ∷ U.WriteAsOnes ∷ []) (rule_bits flags) U.WriteAsZeros

-- "A write .. cuts [its value] to the length": of its bits the field's first `length` are taken, and no other
abbrev pub plan_of : FieldOp → Plan
plan_of o =
    record {
      write = o.write;
      rule = rule_of o.field.flags.0;
      width = access_width o.field.flags.0;
      offset = o.field.offset;
      size = o.field.length;
      bits = bit_of o.value;
    }

abbrev pub reading : FieldUnit → FieldOp
reading f = record { write = false; field = f; value = 0 }

abbrev pub writing : FieldUnit → ℕ → FieldOp
writing f v = record { write = true; field = f; value = v }

-- unit u is one of the field's
abbrev pub Touches : FieldOp → ℕ → Type 0
Touches o u = (first (plan_of o) ≤ u) × (u ≤ last (plan_of o))

-- "The reported count is the number of these loads and stores"
abbrev pub count_of : FieldOp → ℕ
count_of o = length (accesses (plan_of o))

-- what checking an operation answers, for a region of so many bytes
abbrev pub checked : FieldOp → ℕ → Result ⊤ Refusal
checked o size = first_of (field_checks o.write o.field size)

-- no check holds
abbrev pub Accepted : FieldOp → ℕ → Type 0
Accepted o size = checked o size ≡ Ok tt

unfoldable pub count : FieldOp → ℕ → Result ℕ Refusal
count o size = judged (checked o size) (Ok (count_of o)) Err

unfoldable pub read_field : List ℕ → FieldUnit → Result UnitRead Refusal
read_field s f =
    judged (checked (reading f) (length s))
    (Ok (record { value = (whole (plan_of (reading f)) s).held; count = count_of (reading f) }))
    Err

-- the answer, and what the region holds after
pub record Wrote : Type 0 where
  pub answer : Result ℕ Refusal
  pub region : List ℕ

abbrev pub wrote : Result ℕ Refusal → List ℕ → Wrote
wrote a s = record { answer = a; region = s }

unfoldable pub write_field : List ℕ → FieldUnit → ℕ → Wrote
write_field s f v =
    judged (checked (writing f v) (length s))
    (wrote (Ok (count_of (writing f v))) (whole (plan_of (writing f v)) s).region)
    (λ r. wrote (Err r) s)

-- ---- the next single access

-- access k of an operation, counted from 0
abbrev pub access_at : FieldOp → ℕ → Access
access_at o k = get_or (accesses (plan_of o)) k (Load 0)

pub record Stepped : Type 0 where
  pub answer : Result (Option ℕ) Refusal
  pub region : List ℕ

abbrev pub stepped : Result (Option ℕ) Refusal → List ℕ → Stepped
stepped a s = record { answer = a; region = s }

abbrev pub held : Progress → Stepped
held s = stepped (Ok (Some s.held)) s.region

-- access k, with what the loads before it hold; over where there is none
unfoldable pub next_access : List ℕ → FieldOp → ℕ → ℕ → Stepped
next_access s o k h =
    judged (checked o (length s))
    (cond (ltb k (count_of o))
    (held (act (plan_of o) (access_at o k) (progress s h)))
    (stepped (Ok None) s))
    (λ r. stepped (Err r) s)
