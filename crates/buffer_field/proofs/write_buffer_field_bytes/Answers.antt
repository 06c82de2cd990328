-- `buffer_field::write_buffer_field_bytes` meets its contract: 27 of the bytes, then what checking the place answered.
-- Assumes nothing.
use mathlib.Core.Path.{refl, sym, ◌∙◌}
use Rattle.std.proofs.lemmas.Result.{err_from_is_err_and}
use Rattle.types.specs.declared.value.AmlValue.TheVariants as Val
use Rattle.bits.specs.Bits.{bit_at}
use Rattle.buffer_field.proofs.Writing.{write_bytes_too_long, write_refused, write_done}
use Rattle.buffer_field.proofs.write_buffer_field_bytes.Goals as goal

pub returns-then-given-gt65536 : goal.returns-then-given-gt65536
returns-then-given-gt65536 c = search write_bytes_too_long

pub returns-in_err-check_buffer_field : goal.returns-in_err-check_buffer_field
returns-in_err-check_buffer_field c =
    let p = err_from_is_err_and c.from_residual.result c.from_residual.ensures.1 in
    rw (p.1, p.2) (write_refused c.args.buffer.now c.args.bytes.now c.args.offset c.args.length Val.Buffer c.if-given-gt65536.false c.args.length (bit_at c.args.bytes.now) refl _ (sym c.check_buffer_field.ensures ∙ c.in_err-check_buffer_field.was))

pub returns : goal.returns
returns c =
    write_done c.args.buffer.now c.args.bytes.now c.args.offset c.args.length Val.Buffer c.if-given-gt65536.false c.args.length (bit_at c.args.bytes.now) refl (sym c.check_buffer_field.ensures ∙ c.in_ok-check_buffer_field.was) _ c.write_long.ensures
