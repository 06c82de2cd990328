-- A whole call makes at most 11 loads and stores, so their count fits its place in an answer: an accepted one by the bound on the list of
-- accesses, and a refused one makes none.
-- Assumes nothing.
use mathlib.Core.Path.{◌≡◌, refl}
use mathlib.Core.Bool.{◌||◌}
use mathlib.Core.List.{List, [], ◌∷◌}
use Prim.Native.Nat.{ℕ, ◌≤◌}
use native.Mathlib.Omega.{arith}
use lib.ListN.{length}
use Rattle.types.specs.Refusals.{judged, first_of}
use Rattle.types.specs.declared.refusal.Refusal.TheVariants as R
use Rattle.std.specs.Prelude.{⊤, Result, Ok, Err}
use Rattle.types.specs.declared.refusal.Refusal.{Refusal}
use Rattle.types.specs.declared.value.AmlValue.{AmlValue}
use Rattle.types.specs.declared.value.FieldUnit.{FieldUnit}
use Rattle.buffer_field.specs.BufferFields.{too_long}
use Rattle.value.specs.Conversions.{held_by, to_integer}
use Rattle.value.specs.FieldWrites.{write_integer, write_value}
use Rattle.field_unit.specs.Accesses.{whole}
use Rattle.field_unit.specs.declared.whole.UnitRead.{UnitRead}
use Rattle.field_unit.specs.Calls.{plan_of, reading, writing, count_of, checked, wrote, read_field, write_field}
use Rattle.field_unit.proofs.Bounds.{count_most}
use Rattle.link.specs.Answers.{read_count, written_count}

pub read_most : (s : List ℕ) (f : FieldUnit) {r : Result UnitRead Refusal} → r ≡ read_field s f → read_count r ≤ 11
unfolding read_field
read_most s f e = rw e (go (checked (reading f) (length s)) refl)
  where
    go : (o : Result ⊤ Refusal) → checked (reading f) (length s) ≡ o
        → read_count (judged o (Ok (record { value = (whole (plan_of (reading f)) s).held; count = count_of (reading f) })) Err) ≤ 11
    go (Ok tt) e = count_most (reading f) (length s) e
    go (Err r) e = omega arith

write_fits : (s : List ℕ) (f : FieldUnit) (v : ℕ) → written_count (write_field s f v).answer ≤ 11
unfolding write_field
write_fits s f v = go (checked (writing f v) (length s)) refl
  where
    go : (o : Result ⊤ Refusal) → checked (writing f v) (length s) ≡ o
        → written_count
        (judged o (wrote (Ok (count_of (writing f v))) (whole (plan_of (writing f v)) s).region) (λ r. wrote (Err r) s)).answer
        ≤ 11
    go (Ok tt) e = count_most (writing f v) (length s) e
    go (Err r) e = omega arith

pub write_most : (s : List ℕ) (f : FieldUnit) (v : ℕ) {r : Result ℕ Refusal} → r ≡ (write_field s f v).answer → written_count r ≤ 11
write_most s f v e = rw e (write_fits s f v)

value_fits : (s : List ℕ) (f : FieldUnit) (v : AmlValue) (b : List ℕ) → written_count (write_value s f v b).answer ≤ 11
unfolding write_value
value_fits s f v b = lent (first_of ((too_long s || too_long b, R.TooManyBytes) ∷ []))
  where
    number : (n : Result ℕ Refusal) → written_count (write_integer s f n).answer ≤ 11
    number (Ok n) = write_fits s f n
    number (Err r) = omega arith

    field : (o : Result ⊤ Refusal) → written_count (judged o (write_integer s f (to_integer (held_by v b))) (λ r. wrote (Err r) s)).answer ≤ 11
    field (Ok tt) = number (to_integer (held_by v b))
    field (Err r) = omega arith

    lent : (o : Result ⊤ Refusal)
        → written_count
        (judged o (judged (checked (writing f 0) (length s)) (write_integer s f (to_integer (held_by v b))) (λ r. wrote (Err r) s))
        (λ r. wrote (Err r) s)).answer
        ≤ 11
    lent (Ok tt) = field (checked (writing f 0) (length s))
    lent (Err r) = omega arith

pub value_most : (s : List ℕ) (f : FieldUnit) (v : AmlValue) (b : List ℕ) {r : Result ℕ Refusal} → r ≡ (write_value s f v b).answer → written_count r ≤ 11
value_most s f v b e = rw e (value_fits s f v b)
