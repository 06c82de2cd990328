-- Document 01, "Cases marked W": one table. Each line has what the definitions give, as numbers, beside what the document says.
-- Assumes nothing.
use Rattle.std.specs.Prelude.{ℕ, ◌-◌, ◌^◌, List, [], ◌∷◌, replicate}
use Rattle.types.specs.Refusals.{number_of}
use Rattle.types.specs.declared.value.RegionSpace.TheVariants as S
use Rattle.buffer_field.specs.BufferFields as B
use Rattle.buffer_field.specs.declared.FieldValue.TheVariants as Fi
use Rattle.buffer_field.specs.declared.FieldValue.{FieldValue}
use Rattle.std.specs.Prelude.{Result, Ok, Err}
use Rattle.types.specs.declared.refusal.Refusal.{Refusal}
use Rattle.types.specs.declared.value.AmlValue.TheVariants as Val
use Rattle.field_unit.specs.Calls as C
use Rattle.value.specs.Conversions.{Bytes, these, none, as_integer}
use Rattle.value.specs.Integers.{def_to_integer}
use Rattle.expression.specs.Numbers as N
use Rattle.expression.specs.Mid as M
use Rattle.expression.specs.Concat as K

-- what is given, and what the document says
pub record Case : Type 0 where
  pub given : List ℕ
  pub said : List ℕ

-- ---- answers as numbers: 0 for an accepted call, else the refusal's number; then what was answered, then the bytes

abbrev pub read_numbers : Result FieldValue Refusal → List ℕ
read_numbers (Ok (Fi.Integer n)) = 0 ∷ n ∷ []
read_numbers (Ok (Fi.Buffer n)) = 0 ∷ n ∷ []
read_numbers (Err r) = number_of r ∷ []

abbrev pub wrote_numbers : Result ℕ Refusal → List ℕ → List ℕ
wrote_numbers (Ok n) s = 0 ∷ n ∷ s
wrote_numbers (Err r) s = number_of r ∷ s

abbrev pub integer_numbers : Result ℕ Refusal → List ℕ
integer_numbers (Ok n) = 0 ∷ n ∷ []
integer_numbers (Err r) = number_of r ∷ []

abbrev pub bytes_numbers : Bytes → List ℕ
bytes_numbers (these l) = 0 ∷ l
bytes_numbers (none r) = number_of r ∷ []

abbrev pub length_numbers : Result ℕ Refusal → List ℕ → List ℕ
length_numbers (Ok n) out = 0 ∷ n ∷ out
length_numbers (Err r) out = number_of r ∷ out

-- ---- the calls

-- a buffer field of so many bits at the front of a buffer
abbrev pub field_read : List ℕ → ℕ → List ℕ
field_read s n = read_numbers (B.read s 0 n []).answer

-- a write of a field unit in SystemMemory: the count, then the region
abbrev pub unit_written : List ℕ → ℕ → ℕ → ℕ → ℕ → List ℕ
unit_written s flags o n v =
    wrote_numbers (C.write_field s (record { space = S.SystemMemory; flags = record { 0 = flags }; offset = o; length = n }) v).answer
    (C.write_field s (record { space = S.SystemMemory; flags = record { 0 = flags }; offset = o; length = n }) v).region

abbrev pub buffer_integer : List ℕ → List ℕ
buffer_integer s = integer_numbers (as_integer Val.Buffer s)

-- ConcatRes of two Buffers into an output of four bytes
abbrev pub resources : List ℕ → List ℕ → List ℕ
resources s t = length_numbers (K.concat_res Val.Buffer s Val.Buffer t (replicate 4 0)).answer (K.concat_res Val.Buffer s Val.Buffer t (replicate 4 0)).out

abbrev pub mid_of : List ℕ → ℕ → ℕ → List ℕ
mid_of s i n = bytes_numbers (M.mid Val.Buffer s (Val.Integer i) [] (Val.Integer n) [])

abbrev pub shifted : (ℕ → ℕ → Result ℕ Refusal) → ℕ → List ℕ
shifted f n = integer_numbers (N.binary f (Val.Integer 1) [] (Val.Integer n) [])

abbrev pub text_integer : List ℕ → List ℕ
text_integer s = integer_numbers (def_to_integer Val.String s)

-- flags: word access 2, dword access 3; Preserve 0, WriteAsOnes 32
unfoldable pub cases : List Case
cases =
    -- W1 field read, 8 of 1 byte: accepted; 9 of 1 byte: 2
    record { given = field_read (0xA5 ∷ []) 8; said = 0 ∷ 0xA5 ∷ [] }
    ∷ record { given = field_read (0xA5 ∷ []) 9; said = 2 ∷ [] }
    -- W2 `x` to integer 0; nine bytes, ninth ignored
    ∷ record { given = buffer_integer []; said = 0 ∷ 0 ∷ [] }
    ∷ record { given = buffer_integer (1 ∷ 2 ∷ 3 ∷ 4 ∷ 5 ∷ 6 ∷ 7 ∷ 8 ∷ 9 ∷ []); said = 0 ∷ 0x0807060504030201 ∷ [] }
    -- W3 ConcatRes of 01 02 79 00 and empty: 01 02 79 84
    ∷ record { given = resources (0x01 ∷ 0x02 ∷ 0x79 ∷ 0x00 ∷ []) []; said = 0 ∷ 4 ∷ 0x01 ∷ 0x02 ∷ 0x79 ∷ 0x84 ∷ [] }
    -- W4 both empty: 79 87
    ∷ record { given = resources [] []; said = 0 ∷ 2 ∷ 0x79 ∷ 0x87 ∷ 0 ∷ 0 ∷ [] }
    -- W5 Mid of 01 02 03, index 1, length 2^64 − 1: 02 03; index 3: empty
    ∷ record { given = mid_of (0x01 ∷ 0x02 ∷ 0x03 ∷ []) 1 (2 ^ 64 - 1); said = 0 ∷ 0x02 ∷ 0x03 ∷ [] }
    ∷ record { given = mid_of (0x01 ∷ 0x02 ∷ 0x03 ∷ []) 3 (2 ^ 64 - 1); said = 0 ∷ [] }
    -- W6 shift by 63 accepted, 64 refused
    ∷ record { given = shifted N.shift_left 63; said = 0 ∷ 2 ^ 63 ∷ [] }
    ∷ record { given = shifted N.shift_left 64; said = 7 ∷ [] }
    ∷ record { given = shifted N.shift_right 63; said = 0 ∷ 0 ∷ [] }
    ∷ record { given = shifted N.shift_right 64; said = 8 ∷ [] }
    -- W7 `0x1F` is 31; `0x`, `0X1F`, `+5`, `0x0x10` are 1
    ∷ record { given = text_integer (48 ∷ 120 ∷ 49 ∷ 70 ∷ []); said = 0 ∷ 31 ∷ [] }
    ∷ record { given = text_integer (48 ∷ 120 ∷ []); said = 1 ∷ [] }
    ∷ record { given = text_integer (48 ∷ 88 ∷ 49 ∷ 70 ∷ []); said = 1 ∷ [] }
    ∷ record { given = text_integer (43 ∷ 53 ∷ []); said = 1 ∷ [] }
    ∷ record { given = text_integer (48 ∷ 120 ∷ 48 ∷ 120 ∷ 49 ∷ 48 ∷ []); said = 1 ∷ [] }
    -- W8 region FF FF, 12 bits at 0, word, Preserve, write 0x123: 23 F1, two accesses
    ∷ record { given = unit_written (0xFF ∷ 0xFF ∷ []) 2 0 12 0x123; said = 0 ∷ 2 ∷ 0x23 ∷ 0xF1 ∷ [] }
    -- W9 eight zero bytes, offset 20, length 24, dword, Preserve, write 0xABCDEF: 00 00 F0 DE BC 0A 00 00, four accesses
    ∷ record { given = unit_written (replicate 8 0) 3 20 24 0xABCDEF; said = 0 ∷ 4 ∷ 0x00 ∷ 0x00 ∷ 0xF0 ∷ 0xDE ∷ 0xBC ∷ 0x0A ∷ 0x00 ∷ 0x00 ∷ [] }
    -- W10 as WriteAsOnes: FF FF FF DE BC FA FF FF, two
    ∷ record { given = unit_written (replicate 8 0) 35 20 24 0xABCDEF; said = 0 ∷ 2 ∷ 0xFF ∷ 0xFF ∷ 0xFF ∷ 0xDE ∷ 0xBC ∷ 0xFA ∷ 0xFF ∷ 0xFF ∷ [] }
    ∷ []
