-- `buffer_field::write_boolean` meets its contract: by what checking the place answered; one bit at most is written.
-- Assumes nothing.
use mathlib.Core.Path.{refl, sym, ◌∙◌}
use mathlib.Core.List.{[]}
use native.Mathlib.Omega.{arith}
use Rattle.std.proofs.lemmas.Result.{err_from_is_err_and}
use Prim.Native.Nat.{min}
use Rattle.types.specs.declared.value.AmlValue.TheVariants as Val
use Rattle.buffer_field.specs.BufferFields.{truth}
use Rattle.buffer_field.proofs.Writing.{write_refused, write_done, boolean_bits}
use Rattle.buffer_field.proofs.write_boolean.Goals as goal

pub returns-in_err-check_buffer_field : goal.returns-in_err-check_buffer_field
returns-in_err-check_buffer_field c =
    let p = err_from_is_err_and c.from_residual.result c.from_residual.ensures.1 in
    rw (p.1, p.2) (write_refused c.args.buffer.now [] c.args.offset c.args.length (Val.Boolean c.args.b) (omega arith) (min c.args.length 1) (λ _. truth c.args.b) refl _ (sym c.check_buffer_field.ensures ∙ c.in_err-check_buffer_field.was))

pub returns : goal.returns
returns c =
    write_done c.args.buffer.now [] c.args.offset c.args.length (Val.Boolean c.args.b) (omega arith) (min c.args.length 1) (λ _. truth c.args.b) refl (sym c.check_buffer_field.ensures ∙ c.in_ok-check_buffer_field.was) _ (c.set_bits.ensures ∙ boolean_bits c.args.buffer.now c.args.offset c.args.length _ _ c.args.b (omega arith) c.from.ensures)
