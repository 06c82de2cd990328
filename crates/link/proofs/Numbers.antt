-- The numbers of a refusal: a word has its number and its two types, a byte each, and the answer of the word's bytes is the answer of the refusal.
-- Assumes nothing.
use mathlib.Core.Path.{◌≡◌, ap, ◌∙◌}
use Prim.Native.Nat.{ℕ, ◌+◌, ◌*◌, ◌/◌, ◌%◌, ◌<◌}
use native.Mathlib.Omega.{arith}
use Rattle.types.specs.Refusals.{number_of, types_of}
use Rattle.types.specs.Values.{type_number_of}
use Rattle.types.specs.declared.refusal.Refusal.{Refusal}
use Rattle.types.specs.declared.refusal.Refusal.TheVariants as R
use Rattle.types.specs.declared.refusal.Types.{Types}
use Rattle.types.specs.declared.refusal.Types.TheVariants as Carried
use Rattle.types.specs.declared.value.AmlType.{AmlType}
use Rattle.types.specs.declared.value.AmlType.TheVariants as T
use Rattle.link.specs.declared.answer.Answer.{Answer}
use Rattle.link.specs.Answers.{present_of, wanted_of, refused_by}
use Rattle.link.specs.Words.{word_of, of_word}

-- ---- each is a byte

number_byte : (r : Refusal) → number_of r < 256
number_byte (R.IncompatibleValueConversion a b) = omega arith
number_byte R.BufferFieldIndexesOutOfBounds = omega arith
number_byte (R.TypeCannotBeWrittenToBufferField t) = omega arith
number_byte (R.TypeCannotBeCompared t) = omega arith
number_byte (R.TypeCannotBeSliced t) = omega arith
number_byte R.ResourceDescriptorTooShort = omega arith
number_byte R.InvalidShiftLeft = omega arith
number_byte R.InvalidShiftRight = omega arith
number_byte R.InvalidFieldFlags = omega arith
number_byte R.InvalidStatusObject = omega arith
number_byte R.MalformedBuffer = omega arith
number_byte R.OutputTooShort = omega arith
number_byte R.FieldUnitLength = omega arith
number_byte R.FieldUnitOutsideRegion = omega arith
number_byte R.LockHeld = omega arith
number_byte R.NoSuchTask = omega arith
number_byte R.TaskBusy = omega arith
number_byte R.TaskIdle = omega arith
number_byte R.TooManyBytes = omega arith
number_byte R.UnsupportedRegionSpace = omega arith
number_byte R.QWordAccessInSpace = omega arith
number_byte R.RegionLengthDiffers = omega arith
number_byte R.MalformedTable = omega arith
number_byte R.MalformedJob = omega arith

type_byte : (t : AmlType) → type_number_of t < 256
type_byte T.Integer = omega arith
type_byte T.String = omega arith
type_byte T.Buffer = omega arith
type_byte T.Package = omega arith
type_byte T.FieldUnit = omega arith
type_byte T.Device = omega arith
type_byte T.Method = omega arith
type_byte T.Mutex = omega arith
type_byte T.OpRegion = omega arith
type_byte T.PowerResource = omega arith
type_byte T.Processor = omega arith
type_byte T.ThermalZone = omega arith
type_byte T.BufferField = omega arith

present_byte : (t : Types) → present_of t < 256
present_byte Carried.Nothing = omega arith
present_byte (Carried.Met t) = type_byte t
present_byte (Carried.Conversion a b) = type_byte a

wanted_byte : (t : Types) → wanted_of t < 256
wanted_byte Carried.Nothing = omega arith
wanted_byte (Carried.Met t) = omega arith
wanted_byte (Carried.Conversion a b) = type_byte b

-- ---- the bytes of a word

module _ (a b c : ℕ) (ha : a < 256) (hb : b < 256) (hc : c < 256) where
  low : (a + 256 * b + 65536 * c) % 256 ≡ a
  low = omega arith

  middle : (a + 256 * b + 65536 * c) / 256 % 256 ≡ b
  middle = omega arith

  high : (a + 256 * b + 65536 * c) / 65536 % 256 ≡ c
  high = omega arith

-- ---- a refusal's word

-- the answer of a refusal's word is the answer of the refusal
pub by_word : (r : Refusal) {w : ℕ} → w ≡ word_of r → {a : Answer} → a ≡ of_word w → a ≡ refused_by r
unfolding word_of of_word refused_by
by_word r e ea =
    let s = number_of r in
    let p = present_of (types_of r) in
    let w = wanted_of (types_of r) in
    let hs : s < 256 = number_byte r in
    let hp : p < 256 = present_byte (types_of r) in
    let hw : w < 256 = wanted_byte (types_of r) in
    ea ∙ ap of_word e ∙ rw (low s p w hs hp hw, middle s p w hs hp hw, high s p w hs hp hw)
