-- `buffer_field::write_buffer_field_integer` meets its contract: by what checking the place answered.
-- Assumes nothing.
use mathlib.Core.Path.{refl, sym, ◌∙◌}
use mathlib.Core.List.{[]}
use native.Mathlib.Omega.{arith}
use Rattle.std.proofs.lemmas.Result.{err_from_is_err_and}
use Rattle.types.specs.declared.value.AmlValue.TheVariants as Val
use Rattle.bits.specs.Bits.{bit_of}
use Rattle.buffer_field.proofs.Writing.{write_refused, write_done}
use Rattle.buffer_field.proofs.write_buffer_field_integer.Goals as goal

pub returns-in_err-check_buffer_field : goal.returns-in_err-check_buffer_field
returns-in_err-check_buffer_field c =
    let p = err_from_is_err_and c.from_residual.result c.from_residual.ensures.1 in
    rw (p.1, p.2) (write_refused c.args.buffer.now [] c.args.offset c.args.length (Val.Integer c.args.x) (omega arith) c.args.length (bit_of c.args.x) refl _ (sym c.check_buffer_field.ensures ∙ c.in_err-check_buffer_field.was))

pub returns : goal.returns
returns c =
    write_done c.args.buffer.now [] c.args.offset c.args.length (Val.Integer c.args.x) (omega arith) c.args.length (bit_of c.args.x) refl (sym c.check_buffer_field.ensures ∙ c.in_ok-check_buffer_field.was) _ c.write_number.ensures
