-- A value written to a field unit: 27 of the region is among the field's own checks, so these and 27 of the bytes are all that is asked before
-- the value is converted.
-- Assumes nothing.
use mathlib.Core.Path.{◌≡◌, refl, ap, ◌∙◌}
use mathlib.Core.Bool.{Bool, true, false, ◌||◌}
use mathlib.Core.List.{List}
use Prim.Native.Nat.{ℕ, ◌≤◌, ◌<◌}
use native.Mathlib.Omega.{arith}
use lib.Dec.{ltb}
use lib.ListN.{length}
use borrow.Author.Tests.{lt-ltb, le-ltb}
use Rattle.bits.proofs.Laws.{lt_cases}
use Rattle.types.specs.Refusals.{first_of, judged}
use Rattle.types.specs.declared.refusal.Refusal.{Refusal}
use Rattle.types.specs.declared.refusal.Refusal.TheVariants as R
use Rattle.std.specs.Prelude.{Ok, Err}
use Rattle.types.specs.declared.value.AmlValue.{AmlValue}
use Rattle.types.specs.declared.value.FieldUnit.{FieldUnit}
use Rattle.field_unit.specs.Checks.{field_checks}
use Rattle.field_unit.specs.Calls.{Wrote, wrote, write_field}
use Rattle.value.specs.Conversions.{held_by, to_integer}
use Rattle.value.specs.FieldWrites.{write_integer, write_value}

-- 27 is the first of a field's checks
pub region_long : (write : Bool) (f : FieldUnit) (size : ℕ) → 65536 < size → first_of (field_checks write f size) ≡ Err R.TooManyBytes
unfolding first_of field_checks
region_long write f size l = rw (lt-ltb 65536 size l)

-- so the region of an accepted field is short enough
pub region_short : (write : Bool) (f : FieldUnit) (size : ℕ) → first_of (field_checks write f size) ≡ Ok tt → size ≤ 65536
region_short write f size d =
    lt_cases 65536 size (size ≤ 65536)
    (λ l. let z : ◌≡◌ {A = ℕ} 0 1 = cc (d, region_long write f size l) in absurd (omega arith))
    (λ l. l)

or_true : (b : Bool) → (b || true) ≡ true
or_true true = refl
or_true false = refl

module _ (s : List ℕ) (f : FieldUnit) (v : AmlValue) (bytes : List ℕ) where
  pub write_bytes_long : 65536 < length bytes → write_value s f v bytes ≡ wrote (Err R.TooManyBytes) s
  unfolding write_value first_of
  write_bytes_long l = rw (lt-ltb 65536 (length bytes) l, or_true (ltb 65536 (length s)))

  region_too_long : 65536 < length s → write_value s f v bytes ≡ wrote (Err R.TooManyBytes) s
  unfolding write_value first_of
  region_too_long h = rw (lt-ltb 65536 (length s) h)

  -- the field's checks, then the conversion, then the write
  abbrev pub judged_write : Wrote
  judged_write = judged (first_of (field_checks true f (length s))) (write_integer s f (to_integer (held_by v bytes))) (λ r. wrote (Err r) s)

  both_short : length bytes ≤ 65536 → length s ≤ 65536 → write_value s f v bytes ≡ judged_write
  unfolding write_value first_of
  both_short l h = rw (le-ltb 65536 (length s) h, le-ltb 65536 (length bytes) l)

  module _ (l : length bytes ≤ 65536) where
    pub write_judged : write_value s f v bytes ≡ judged_write
    write_judged =
        lt_cases 65536 (length s) (write_value s f v bytes ≡ judged_write)
        (λ h. rw (region_long true f (length s) h) (region_too_long h))
        (both_short l)

    pub write_refused : (r : Refusal) → first_of (field_checks true f (length s)) ≡ Err r → write_value s f v bytes ≡ wrote (Err r) s
    write_refused r d = rw (write_judged, d)

    module _ (d : first_of (field_checks true f (length s)) ≡ Ok tt) where
      pub write_unconverted : (r : Refusal) → to_integer (held_by v bytes) ≡ Err r → write_value s f v bytes ≡ wrote (Err r) s
      write_unconverted r e = rw (write_judged, d, e)

      pub write_number : (n : ℕ) → to_integer (held_by v bytes) ≡ Ok n → write_value s f v bytes ≡ write_field s f n
      write_number n e = rw (write_judged, d, e)

-- a value whose bytes are the region itself: 27 of them is among the field's checks too
pub write_refused_self : (s : List ℕ) (f : FieldUnit) (v : AmlValue) (r : Refusal)
    → first_of (field_checks true f (length s)) ≡ Err r → write_value s f v s ≡ wrote (Err r) s
write_refused_self s f v r d =
    lt_cases 65536 (length s) (write_value s f v s ≡ wrote (Err r) s)
    (λ h.
    let e : R.TooManyBytes ≡ r = cc (d, region_long true f (length s) h) in
    write_bytes_long s f v s h ∙ ap (λ (x : Refusal). wrote (Err x) s) e)
    (λ h. write_refused s f v s h r d)
