-- What writing a field leaves, in each case of its checks: the checks before it do not hold, and its own does.
-- Assumes nothing.
use mathlib.Core.Path.{◌≡◌, refl, sym, ap, ◌∙◌}
use mathlib.Core.Bool.{Bool, true, false, ◌||◌}
use mathlib.Core.List.{List, [], ◌∷◌}
use Prim.Native.Nat.{ℕ, ◌+◌, ◌*◌, ◌≤◌, ◌<◌, min}
use native.Mathlib.Omega.{arith}
use denote.Enum.Declared.{tag_of}
use types.Run.{OneOf, miss}
use mir.Val.{bool_byte}
use lib.Dec.{ltb}
use lib.ListN.{length}
use borrow.Author.Tests.{lt-ltb, le-ltb}
use Rattle.bits.specs.Bits.{bit_of, bit_at, with_bits, set_bits}
use Rattle.bits.proofs.Laws.{bit_of_zero, lt_cases}
use Rattle.bits.proofs.With.{with_bits_cong}
use Rattle.types.specs.Values.{type_of}
use Rattle.types.specs.Refusals.{first_of}
use Rattle.types.specs.declared.refusal.Refusal.{Refusal}
use Rattle.types.specs.declared.refusal.Refusal.TheVariants as R
use Rattle.std.specs.Prelude.{Ok, Err}
use Rattle.types.specs.declared.value.AmlValue.{AmlValue}
use Rattle.types.specs.declared.value.AmlValue.TheVariants as Val
use Rattle.types.specs.declared.value.AmlType.{AmlType}
use Rattle.types.specs.contracts.value.AmlValue.{the_type}
use Rattle.buffer_field.specs.BufferFields.{bounds_checks, over, nothing, write, write_checks, write_self, wrote, written, truth}
use Rattle.buffer_field.proofs.Bounds.{bounds_too_long}

or_true : (b : Bool) → (b || true) ≡ true
or_true true = refl
or_true false = refl

-- a check between that does not hold is passed
passing : (a b : Bool) (q : Refusal)
    → first_of ((a, R.TooManyBytes) ∷ (b, R.BufferFieldIndexesOutOfBounds) ∷ [])
    ≡ first_of ((a || false, R.TooManyBytes) ∷ (false, q) ∷ (b, R.BufferFieldIndexesOutOfBounds) ∷ [])
unfolding first_of
passing true b q = refl
passing false b q = refl

-- ---- a Boolean is one bit at most, and that bit is its truth
truth_bit : (b : Bool) → bit_of (truth b) 0 ≡ truth b
truth_bit true = bit_of_zero 1
truth_bit false = bit_of_zero 0

byte_truth : (b : Bool) → bool_byte b ≡ truth b
byte_truth true = refl
byte_truth false = refl

pub boolean_bits : (s : List ℕ) (o n m v : ℕ) (b : Bool) → m ≡ min n 1 → v ≡ bool_byte b
    → set_bits s o (min m 64) v ≡ with_bits s o (min n 1) (λ _. truth b)
boolean_bits s o n m v b p e =
    let q : v ≡ truth b = e ∙ byte_truth b in
    let one : min m 64 ≡ min n 1 = omega arith in
    rw (one, q)
    (with_bits_cong s o (min n 1) (bit_of (truth b)) (λ _. truth b)
    (λ i h. let first : i ≡ 0 = omega arith in rw first (truth_bit b)))

-- ---- of a value
module _ (s bytes : List ℕ) (o n : ℕ) (v : AmlValue) where
  pub write_too_long : 65536 < length s → record { answer = Err R.TooManyBytes; buffer = s } ≡ write s o n v bytes
  unfolding write write_checks first_of
  write_too_long l = rw (lt-ltb 65536 (length s) l)

  pub write_bytes_too_long : 65536 < length bytes → record { answer = Err R.TooManyBytes; buffer = s } ≡ write s o n v bytes
  unfolding write write_checks first_of
  write_bytes_too_long h = rw (lt-ltb 65536 (length bytes) h, or_true (ltb 65536 (length s)))

  module _ (h : length bytes ≤ 65536) where
    pub write_nothing : length s ≤ 65536 → (t : AmlType) → t ≡ type_of v → written v bytes n ≡ nothing
        → record { answer = Err (R.TypeCannotBeWrittenToBufferField t); buffer = s } ≡ write s o n v bytes
    unfolding write write_checks first_of
    write_nothing l t e w = rw (le-ltb 65536 (length s) l, le-ltb 65536 (length bytes) h, w, e)

    -- a value that can be written is refused where its place is, and nowhere else
    module _ (k : ℕ) (g : ℕ → ℕ) (w : written v bytes n ≡ over k g) where
      pub write_bits : wrote s (first_of (bounds_checks (length s) o n)) (with_bits s o k g) ≡ write s o n v bytes
      unfolding write write_checks bounds_checks
      write_bits =
          rw (le-ltb 65536 (length bytes) h, w)
          (ap (λ x. wrote s x (with_bits s o k g)) (passing (ltb 65536 (length s)) (ltb (8 * length s) (o + n)) (R.TypeCannotBeWrittenToBufferField (type_of v))))

      pub write_refused : (r : Refusal) → first_of (bounds_checks (length s) o n) ≡ Err r → record { answer = Err r; buffer = s } ≡ write s o n v bytes
      write_refused r d = ap (λ x. wrote s x (with_bits s o k g)) (sym d) ∙ write_bits

      pub write_done : first_of (bounds_checks (length s) o n) ≡ Ok tt → (t : List ℕ) → t ≡ with_bits s o k g
          → record { answer = Ok tt; buffer = t } ≡ write s o n v bytes
      write_done d t e = rw e (ap (λ x. wrote s x (with_bits s o k g)) (sym d) ∙ write_bits)

-- the buffer's own bytes: 27 of them is among the checks of the place
module _ (s : List ℕ) (o n : ℕ) where
  pub self_short : first_of (bounds_checks (length s) o n) ≡ Ok tt → length s ≤ 65536
  self_short d =
      lt_cases 65536 (length s) (length s ≤ 65536) (λ l. let z : ◌≡◌ {A = ℕ} 0 1 = cc (d, bounds_too_long (length s) o n l) in absurd (omega arith)) (λ l. l)

  pub self_refused : (r : Refusal) → first_of (bounds_checks (length s) o n) ≡ Err r → record { answer = Err r; buffer = s } ≡ write_self s o n
  self_refused r d =
      lt_cases 65536 (length s) (record { answer = Err r; buffer = s } ≡ write_self s o n)
      (λ l. let e : R.TooManyBytes ≡ r = cc (d, bounds_too_long (length s) o n l) in rw (← e) (write_too_long s s o n Val.Buffer l))
      (λ l. write_refused s s o n Val.Buffer l n (bit_at s) refl r d)

-- the places in the enum of the values that cannot be written: all but 0 Boolean, 1 Integer, 3 Buffer
abbrev pub unwritten : List ℕ
unwritten = 2 ∷ 4 ∷ 5 ∷ 6 ∷ 7 ∷ 8 ∷ 9 ∷ 10 ∷ 11 ∷ 12 ∷ 13 ∷ []

pub writes_nothing : (v : AmlValue) (bytes : List ℕ) (n : ℕ) → OneOf unwritten (tag_of the_type v) → written v bytes n ≡ nothing
writes_nothing (Val.Boolean b) bytes n k = absurd (miss unwritten 0 tt k)
writes_nothing (Val.Integer x) bytes n k = absurd (miss unwritten 1 tt k)
writes_nothing Val.Buffer bytes n k = absurd (miss unwritten 3 tt k)
writes_nothing Val.String bytes n k = refl
writes_nothing (Val.BufferField p m) bytes n k = refl
writes_nothing (Val.Field f) bytes n k = refl
writes_nothing Val.OpRegion bytes n k = refl
writes_nothing Val.Device bytes n k = refl
writes_nothing Val.Method bytes n k = refl
writes_nothing Val.Processor bytes n k = refl
writes_nothing Val.Mutex bytes n k = refl
writes_nothing Val.Package bytes n k = refl
writes_nothing Val.PowerResource bytes n k = refl
writes_nothing Val.ThermalZone bytes n k = refl
