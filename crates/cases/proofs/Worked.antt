-- The definitions give what document 01 says in every case of the table: both columns compute to the same lists.
-- Assumes nothing.
use Prim.Native.Nat.{ℕ}
use mathlib.Core.Path.{◌≡◌, refl}
use mathlib.Core.List.{List, map}
use Rattle.bits.specs.Bits.{bit_of, bit_at, run, bytes, put, with_bits}
use Rattle.types.specs.Refusals.{first_of}
use Rattle.types.specs.Flags.{access_width}
use Rattle.buffer_field.specs.BufferFields.{read_value, read_checks, read}
use Rattle.field_unit.specs.Checks.{field_checks}
use Rattle.field_unit.specs.Accesses.{unit_accesses, accesses_from, gathered, others, merged, act, acts}
use Rattle.field_unit.specs.Calls.{write_field}
use Rattle.text.specs.Texts.{digit_of, all_digits, value_from, number_of}
use Rattle.value.specs.Conversions.{to_integer, to_buffer, as_integer, giving}
use Rattle.value.specs.Integers.{parsed, def_to_integer}
use Rattle.expression.specs.Numbers.{operands, binary}
use Rattle.expression.specs.Mid.{mid}
use Rattle.expression.specs.Concat.{sum, concat_res}
use Rattle.cases.specs.Cases.{Case, cases}

abbrev given : List Case → List (List ℕ)
given l = map (λ (c : Case). c.given) l

abbrev said : List Case → List (List ℕ)
said l = map (λ (c : Case). c.said) l

pub worked : given cases ≡ said cases
unfolding cases bit_of bit_at run bytes put with_bits first_of access_width read_value read_checks read field_checks unit_accesses accesses_from gathered others merged act acts write_field digit_of all_digits value_from number_of to_integer to_buffer as_integer giving parsed def_to_integer operands binary mid sum concat_res
worked = refl
