-- `buffer_field::write_buffer_field` meets its contract: 27 of either, then by the value's kind.
-- Assumes nothing.
use mathlib.Core.Path.{refl, sym, ◌∙◌}
use mathlib.Core.List.{[]}
use native.Mathlib.Omega.{arith}
use Prim.Native.Nat.{min}
use Rattle.types.specs.declared.value.AmlValue.TheVariants as Val
use borrow.Enum.Refused.{opened}
use Rattle.bits.specs.Bits.{bit_of, bit_at}
use Rattle.buffer_field.specs.BufferFields.{truth}
use Rattle.buffer_field.proofs.Writing.{write_too_long, write_bytes_too_long, write_bits, write_nothing, writes_nothing}
use Rattle.buffer_field.proofs.write_buffer_field.Goals as goal

pub returns-then-buffer-gt65536 : goal.returns-then-buffer-gt65536
returns-then-buffer-gt65536 c =
    search write_too_long

pub returns-then-bytes-gt65536 : goal.returns-then-bytes-gt65536
returns-then-bytes-gt65536 c =
    search write_bytes_too_long

pub returns-in-Integer : goal.returns-in-Integer
returns-in-Integer c =
    let a = c.args in
    c.write_buffer_field_integer.ensures
    ∙ sym (write_bits a.buffer.now [] a.offset a.length (Val.Integer c.in-Integer.x) (omega arith) a.length (bit_of c.in-Integer.x) refl)
    ∙ write_bits a.buffer.now a.bytes.now a.offset a.length a.value c.if-bytes-gt65536.false a.length (bit_of c.in-Integer.x) (rw c.in-Integer.is)

pub returns-in-Boolean : goal.returns-in-Boolean
returns-in-Boolean c =
    let a = c.args in
    c.write_boolean.ensures
    ∙ sym (write_bits a.buffer.now [] a.offset a.length (Val.Boolean c.in-Boolean.b) (omega arith) (min a.length 1) (λ _. truth c.in-Boolean.b) refl)
    ∙ write_bits a.buffer.now a.bytes.now a.offset a.length a.value c.if-bytes-gt65536.false (min a.length 1) (λ _. truth c.in-Boolean.b) (rw c.in-Boolean.is)

pub returns-in-Buffer : goal.returns-in-Buffer
returns-in-Buffer c =
    let a = c.args in
    c.write_buffer_field_bytes.ensures
    ∙ sym (write_bits a.buffer.now a.bytes.now a.offset a.length Val.Buffer c.if-bytes-gt65536.false a.length (bit_at a.bytes.now) refl)
    ∙ write_bits a.buffer.now a.bytes.now a.offset a.length a.value c.if-bytes-gt65536.false a.length (bit_at a.bytes.now) (rw c.in-Buffer.is)

pub returns-in_default : goal.returns-in_default
returns-in_default c =
    search (write_nothing, writes_nothing, opened)
