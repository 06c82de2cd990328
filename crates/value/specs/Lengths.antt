-- How many bytes a value has as a buffer and as a string, with nothing written: what an operator knows before its first byte is stored,
-- so that 20 changes nothing.
-- Assumes nothing.
use Rattle.std.specs.Prelude.{List, ℕ, length}
use Rattle.types.specs.declared.value.AmlValue.{AmlValue}
use Rattle.value.specs.Conversions.{Bytes, these, none, held_by, to_buffer, to_string, lent}
use Rattle.std.specs.Prelude.{Result, Ok, Err}
use Rattle.types.specs.declared.refusal.Refusal.{Refusal}

abbrev pub length_of : Bytes → Result ℕ Refusal
length_of (these l) = Ok (length l)
length_of (none r) = Err r

unfoldable pub buffer_length : AmlValue → List ℕ → Result ℕ Refusal
buffer_length v s = lent s (length_of (to_buffer (held_by v s))) Err

unfoldable pub string_length : AmlValue → List ℕ → Result ℕ Refusal
string_length v s = lent s (length_of (to_string (held_by v s))) Err
