-- `value::convert::buffer_field_length` meets its contract: by what checking the bounds answered, then by the length.
-- Assumes nothing.
use mathlib.Core.Path.{◌≡◌}
use native.Mathlib.Omega.{arith}
use Rattle.std.proofs.lemmas.Result.{err_from_is_err_and}
use Rattle.bits.specs.Bits.{bytes_for}
use Rattle.value.proofs.Lengths.{field_outside, field_number, field_bytes}
use Rattle.value.proofs.convert.buffer_field_length.Goals as goal

pub returns-in_err-check_buffer_field : goal.returns-in_err-check_buffer_field
returns-in_err-check_buffer_field c =
    let a = c.args in
    let p = err_from_is_err_and c.from_residual.result c.from_residual.ensures.1 in
    rw (p.1, p.2) (field_outside a.offset a.length a.bytes.now c.requires _ c.check_buffer_field.ensures _ c.in_err-check_buffer_field.was)

pub returns-then-length-le64 : goal.returns-then-length-le64
returns-then-length-le64 c =
    let a = c.args in
    field_number a.offset a.length a.bytes.now c.requires _ c.check_buffer_field.ensures c.in_ok-check_buffer_field.was c.if-length-le64.true _ c.no.ensures

pub returns : goal.returns
returns c =
    let a = c.args in
    let n : c.div_ceil.result ≡ bytes_for a.length = omega arith in
    rw n (field_bytes a.offset a.length a.bytes.now c.requires _ c.check_buffer_field.ensures c.in_ok-check_buffer_field.was c.if-length-le64.false)
