-- A length by its conversion's line: what the conversion gives, counted, or what it refuses. Of a Buffer and a String the length is the lent bytes',
-- of a BufferField over 64 bits as many bytes as its bits take.
-- Assumes nothing.
use mathlib.Core.Path.{◌≡◌, sym, ap, ◌∙◌}
use mathlib.Core.List.{List}
use Prim.Native.Nat.{ℕ, ◌≤◌, ◌<◌}
use native.Mathlib.Omega.{arith}
use denote.Enum.Declared.{tag_of}
use types.Run.{OneOf}
use lib.ListN.{length}
use Rattle.bits.specs.Bits.{run_bits, bytes_for}
use Rattle.bits.proofs.Laws.{bytes_length}
use Rattle.types.specs.Refusals.{first_of}
use Rattle.types.specs.Values.{type_of}
use Rattle.types.specs.declared.refusal.Refusal.{Refusal}
use Rattle.types.specs.declared.refusal.Refusal.TheVariants as R
use Rattle.std.specs.Prelude.{⊤, Result, Ok, Err}
use Rattle.types.specs.declared.value.AmlType.{AmlType}
use Rattle.types.specs.declared.value.AmlType.TheVariants as T
use Rattle.types.specs.declared.value.AmlValue.{AmlValue}
use Rattle.types.specs.declared.value.AmlValue.TheVariants as Val
use Rattle.types.specs.declared.value.FieldUnit.{FieldUnit}
use Rattle.types.specs.contracts.value.AmlValue.{the_type}
use Rattle.buffer_field.specs.BufferFields.{bounds_checks}
use Rattle.field_unit.specs.Calls.{read_field}
use Rattle.value.specs.Conversions.{held_by, no, buffer_field_content, field_unit_content, content_buffer, unit_refusal, to_buffer, to_string}
use Rattle.value.specs.Lengths.{length_of, buffer_length, string_length}
use Rattle.value.proofs.Lent.{lent_short, lent_long}
use Rattle.value.proofs.ByKind.{buffer_of_buffer, buffer_of_buffer_field, buffer_of_field_unit, no_buffer, string_of_string, string_of_field_unit, no_string, unread, not_string}
use Rattle.value.proofs.Fields.{checked_inside, checked_refused, content_number, content_bytes, unit_no_buffer, unit_no_string}

-- ---- a BufferField
module _ (o n : ℕ) (s : List ℕ) (l : length s ≤ 65536) (checked : Result ⊤ Refusal) (e : checked ≡ first_of (bounds_checks (length s) o n)) where
  pub field_outside : (r : Refusal) → checked ≡ Err r → Err r ≡ length_of (content_buffer (buffer_field_content o n s))
  field_outside r d = rw (checked_refused o n s l r (sym e ∙ d))

  module _ (d : checked ≡ Ok tt) where
    pub field_number : n ≤ 64 → (r : Refusal) → r ≡ no T.Integer T.Buffer → Err r ≡ length_of (content_buffer (buffer_field_content o n s))
    field_number short r g = rw (content_number o n s (checked_inside o n s l (sym e ∙ d)) short, g)

    pub field_bytes : 64 < n → Ok (bytes_for n) ≡ length_of (content_buffer (buffer_field_content o n s))
    field_bytes long =
        let m = bytes_length (run_bits s o n) 0 (bytes_for n) in
        rw (content_bytes o n s (checked_inside o n s l (sym e ∙ d)) long) (ap Ok (omega arith))

-- ---- any value
module _ (v : AmlValue) (s : List ℕ) where
  pub buffer_long : 65536 < length s → Err R.TooManyBytes ≡ buffer_length v s
  unfolding buffer_length
  buffer_long h = sym (lent_long s (length_of (to_buffer (held_by v s))) Err h)

  pub string_long : 65536 < length s → Err R.TooManyBytes ≡ string_length v s
  unfolding string_length
  string_long h = sym (lent_long s (length_of (to_string (held_by v s))) Err h)

  module _ (h : length s ≤ 65536) where
    pub buffer_counted : length_of (to_buffer (held_by v s)) ≡ buffer_length v s
    unfolding buffer_length
    buffer_counted = sym (lent_short s (length_of (to_buffer (held_by v s))) Err h)

    pub string_counted : length_of (to_string (held_by v s)) ≡ string_length v s
    unfolding string_length
    string_counted = sym (lent_short s (length_of (to_string (held_by v s))) Err h)

    pub buffer_of : v ≡ Val.Buffer → Ok (length s) ≡ buffer_length v s
    buffer_of k = rw (← buffer_counted, k, buffer_of_buffer)

    pub buffer_of_field : (o n : ℕ) → v ≡ Val.BufferField o n → (r : Result ℕ Refusal) → r ≡ length_of (content_buffer (buffer_field_content o n s)) → r ≡ buffer_length v s
    buffer_of_field o n k r g = rw (← buffer_counted, k, buffer_of_buffer_field, g)

    pub buffer_of_unit : (f : FieldUnit) → v ≡ Val.Field f → (r : Refusal) → r ≡ unit_refusal (field_unit_content f s) T.Buffer → Err r ≡ buffer_length v s
    buffer_of_unit f k r g = rw (← buffer_counted, k, buffer_of_field_unit, unit_no_buffer (read_field s f), g)

    pub buffer_of_other : OneOf unread (tag_of the_type v) → (t : AmlType) → t ≡ type_of v → (r : Refusal) → r ≡ no t T.Buffer → Err r ≡ buffer_length v s
    buffer_of_other k t f r g = rw (← buffer_counted, no_buffer v s k, g, f)

    pub string_of : v ≡ Val.String → Ok (length s) ≡ string_length v s
    string_of k = rw (← string_counted, k, string_of_string)

    pub string_of_unit : (f : FieldUnit) → v ≡ Val.Field f → (r : Refusal) → r ≡ unit_refusal (field_unit_content f s) T.String → Err r ≡ string_length v s
    string_of_unit f k r g = rw (← string_counted, k, string_of_field_unit, unit_no_string (read_field s f), g)

    pub string_of_other : OneOf not_string (tag_of the_type v) → (t : AmlType) → t ≡ type_of v → (r : Refusal) → r ≡ no t T.String → Err r ≡ string_length v s
    string_of_other k t f r g = rw (← string_counted, no_string v s k, g, f)
