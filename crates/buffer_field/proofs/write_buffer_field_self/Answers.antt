-- `buffer_field::write_buffer_field_self` meets its contract: by what checking the place answered, which has seen the length of its bytes.
-- Assumes nothing.
use mathlib.Core.Path.{refl, sym, ◌∙◌}
use Rattle.std.proofs.lemmas.Result.{err_from_is_err_and}
use Rattle.types.specs.declared.value.AmlValue.TheVariants as Val
use Rattle.bits.specs.Bits.{bit_at}
use Rattle.buffer_field.proofs.Writing.{self_short, self_refused, write_done}
use Rattle.buffer_field.proofs.write_buffer_field_self.Goals as goal

pub returns-in_err-check_buffer_field : goal.returns-in_err-check_buffer_field
returns-in_err-check_buffer_field c =
    let p = err_from_is_err_and c.from_residual.result c.from_residual.ensures.1 in
    rw (p.1, p.2) (self_refused _ _ _ _ (sym c.check_buffer_field.ensures ∙ c.in_err-check_buffer_field.was))

pub returns : goal.returns
returns c =
    let a = c.args in
    let d = sym c.check_buffer_field.ensures ∙ c.in_ok-check_buffer_field.was in
    write_done a.buffer.now a.buffer.now a.offset a.length Val.Buffer (self_short a.buffer.now a.offset a.length d) a.length (bit_at a.buffer.now) refl d _ c.write_self.ensures
