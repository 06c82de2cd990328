-- Document 01, "Buffer fields", with refusals 2, 3, 20 and 27 in the order "27 first, 20 last. .. Buffer field write: 3, 2".
-- Assumes nothing.
use Rattle.std.specs.Prelude.{ℕ, ◌+◌, ◌*◌, min, Bool, true, false, ◌&&◌, ◌||◌, List, [], ◌∷◌, ltb, leb, length}
use Rattle.bits.specs.Bits.{bit_of, bit_at, get_bits, run_bits, with_bits, bytes_for}
use Rattle.types.specs.Values.{type_of}
use Rattle.types.specs.Refusals.{Checks, first_of, judged}
use Rattle.types.specs.declared.refusal.Refusal.TheVariants as R
use Rattle.buffer_field.specs.declared.FieldValue.TheVariants as Fi
use Rattle.buffer_field.specs.declared.FieldValue.{FieldValue}
use Rattle.std.specs.Prelude.{⊤, Result, Ok, Err}
use Rattle.types.specs.declared.refusal.Refusal.{Refusal}
use Rattle.types.specs.declared.value.AmlValue.{AmlValue}
use Rattle.types.specs.declared.value.AmlValue.TheVariants as Val

-- "27: a lent operand, target or region .. over 65,536 bytes"
abbrev pub too_long : List ℕ → Bool
too_long s = ltb 65536 (length s)

-- "2: offset + length, unbounded sum, exceeds 8 × bytes"
abbrev pub out_of_bounds : List ℕ → ℕ → ℕ → Bool
out_of_bounds s o n = ltb (8 * length s) (o + n)

-- 27, then 2: a field of a buffer of so many bytes
unfoldable pub bounds_checks : ℕ → ℕ → ℕ → Checks
bounds_checks size o n =
    (ltb 65536 size, R.TooManyBytes)
    ∷ (ltb (8 * size) (o + n), R.BufferFieldIndexesOutOfBounds)
    ∷ []

-- ---- reading

-- the answer, and what the output holds after
pub record Read : Type 0 where
  pub answer : Result FieldValue Refusal
  pub out : List ℕ

-- "Reading 0 to 64 bits gives an Integer (length 0 gives 0), more gives a Buffer of length/8 bytes rounded up, unused top bits zero."
unfoldable pub read_value : List ℕ → ℕ → ℕ → List ℕ → Bool → Read
read_value s o n out true = record { answer = Ok (Fi.Integer (get_bits s o n)); out = out }
read_value s o n out false = record { answer = Ok (Fi.Buffer (bytes_for n)); out = with_bits out 0 (8 * bytes_for n) (run_bits s o n) }

unfoldable pub read_checks : List ℕ → ℕ → ℕ → List ℕ → Checks
read_checks s o n out =
    (too_long s, R.TooManyBytes)
    ∷ (out_of_bounds s o n, R.BufferFieldIndexesOutOfBounds)
    ∷ (ltb 64 n && ltb (length out) (bytes_for n), R.OutputTooShort)
    ∷ []

unfoldable pub read : List ℕ → ℕ → ℕ → List ℕ → Read
read s o n out =
    judged (first_of (read_checks s o n out)) (read_value s o n out (leb n 64)) (λ r. record { answer = Err r; out = out })

-- ---- writing

-- the bits that a value writes into a field of n bits: how many of the field's, and which
pub data Written : Type 0 where
  over : ℕ → (ℕ → ℕ) → Written
  nothing : Written

abbrev pub truth : Bool → ℕ
truth true = 1
truth false = 0

-- "Writing an Integer or Buffer overwrites the whole field, zero-extended or truncated. A Boolean sets the field's first bit and no other; in a
-- field of length 0 it sets nothing." 3: "a value other than Integer, Boolean, Buffer"
abbrev pub written : AmlValue → List ℕ → ℕ → Written
written (Val.Integer x) bytes n = over n (bit_of x)
written Val.Buffer bytes n = over n (bit_at bytes)
written (Val.Boolean b) bytes n = over (min n 1) (λ _. truth b)
written Val.String bytes n = nothing
written (Val.BufferField p m) bytes n = nothing
written (Val.Field f) bytes n = nothing
written Val.OpRegion bytes n = nothing
written Val.Device bytes n = nothing
written Val.Method bytes n = nothing
written Val.Processor bytes n = nothing
written Val.Mutex bytes n = nothing
written Val.Package bytes n = nothing
written Val.PowerResource bytes n = nothing
written Val.ThermalZone bytes n = nothing

-- the buffer after it: "Bits outside stay"
abbrev pub after : List ℕ → ℕ → Written → List ℕ
after s o (over n g) = with_bits s o n g
after s o nothing = s

abbrev pub cannot : Written → Bool
cannot (over n g) = false
cannot nothing = true

-- the answer, and what the buffer holds after
pub record Wrote : Type 0 where
  pub answer : Result ⊤ Refusal
  pub buffer : List ℕ

unfoldable pub write_checks : List ℕ → ℕ → ℕ → AmlValue → List ℕ → Checks
write_checks s o n v bytes =
    (too_long s || too_long bytes, R.TooManyBytes)
    ∷ (cannot (written v bytes n), R.TypeCannotBeWrittenToBufferField (type_of v))
    ∷ (out_of_bounds s o n, R.BufferFieldIndexesOutOfBounds)
    ∷ []

abbrev pub wrote : List ℕ → Result ⊤ Refusal → List ℕ → Wrote
wrote s a t = record { answer = a; buffer = judged a t (λ _. s) }

unfoldable pub write : List ℕ → ℕ → ℕ → AmlValue → List ℕ → Wrote
write s o n v bytes = wrote s (first_of (write_checks s o n v bytes)) (after s o (written v bytes n))

-- "A Buffer written into a field of itself is taken as it was before."
abbrev pub write_self : List ℕ → ℕ → ℕ → Wrote
write_self s o n = write s o n Val.Buffer s
