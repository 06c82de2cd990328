-- Refusal 2: offset + length exceeds the bits there are, exactly when the length does, or the offset exceeds what the length leaves.
-- Assumes nothing.
use mathlib.Core.Path.{◌≡◌, sym, ◌∙◌}
use mathlib.Core.Bool.{Bool, true, false}
use Prim.Native.Nat.{ℕ, ◌+◌, ◌-◌, ◌*◌, ◌≤◌, ◌<◌}
use native.Mathlib.Omega.{arith}
use lib.Dec.{ltb}
use borrow.Author.Tests.{lt-ltb, le-ltb}
use Rattle.bits.proofs.Laws.{lt_cases}
use Rattle.types.specs.Refusals.{first_of}
use Rattle.types.specs.declared.refusal.Refusal.TheVariants as R
use Rattle.std.specs.Prelude.{Ok, Err}
use Rattle.buffer_field.specs.BufferFields.{bounds_checks}

pub long_outside : (bits o n : ℕ) → bits < n → true ≡ ltb bits (o + n)
long_outside bits o n h = sym (lt-ltb bits (o + n) (omega arith))

pub far_outside : (bits o n : ℕ) → n ≤ bits → ltb (bits - n) o ≡ ltb bits (o + n)
far_outside bits o n h =
    lt_cases (bits - n) o (ltb (bits - n) o ≡ ltb bits (o + n))
    (λ l. lt-ltb (bits - n) o l ∙ sym (lt-ltb bits (o + n) (omega arith)))
    (λ l. le-ltb (bits - n) o l ∙ sym (le-ltb bits (o + n) (omega arith)))

-- ---- the checks: 27, then 2
module _ (size o n : ℕ) where
  pub bounds_too_long : 65536 < size → Err R.TooManyBytes ≡ first_of (bounds_checks size o n)
  unfolding first_of bounds_checks
  bounds_too_long l = rw (lt-ltb 65536 size l)

  module _ (b : Bool) (l : size ≤ 65536) (e : b ≡ ltb (8 * size) (o + n)) where
    pub bounds_outside : b ≡ true → Err R.BufferFieldIndexesOutOfBounds ≡ first_of (bounds_checks size o n)
    unfolding first_of bounds_checks
    bounds_outside t = rw (le-ltb 65536 size l, ← e, t)

    pub bounds_done : b ≡ false → Ok tt ≡ first_of (bounds_checks size o n)
    unfolding first_of bounds_checks
    bounds_done f = rw (le-ltb 65536 size l, ← e, f)
