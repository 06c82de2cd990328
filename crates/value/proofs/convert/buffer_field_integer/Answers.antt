-- `value::convert::buffer_field_integer` meets its contract: by what checking the bounds answered, it is refused, or its first 64 bits are read.
-- Assumes nothing.
use mathlib.Core.Path.{sym, ap, ◌∙◌}
use Rattle.std.specs.Prelude.{Ok}
use Rattle.std.proofs.lemmas.Result.{err_from_is_err_and}
use Rattle.value.specs.Conversions.{content_integer}
use Rattle.value.proofs.Fields.{checked_refused, checked_inside, content_integer_lem}
use Rattle.value.proofs.convert.buffer_field_integer.Goals as goal

pub returns-in_err-check_buffer_field : goal.returns-in_err-check_buffer_field
returns-in_err-check_buffer_field c =
    let a = c.args in
    let p = err_from_is_err_and c.from_residual.result c.from_residual.ensures.1 in
    rw (p.1, p.2)
    (sym (ap content_integer (checked_refused a.offset a.length a.bytes.now c.requires _ (sym c.check_buffer_field.ensures ∙ c.in_err-check_buffer_field.was))))

pub returns : goal.returns
returns c =
    let a = c.args in
    let inside = checked_inside a.offset a.length a.bytes.now c.requires (sym c.check_buffer_field.ensures ∙ c.in_ok-check_buffer_field.was) in
    ap Ok c.get_bits.ensures ∙ sym (content_integer_lem a.offset a.length a.bytes.now inside)
