-- `value::field::write_value` meets its contract: refused by the bytes' length, the field's checks or the conversion, in this order, and else one write of the number.
-- Assumes nothing.
use mathlib.Core.Path.{sym, ◌∙◌}
use Rattle.std.proofs.lemmas.Result.{err_from_is_err_and}
use Rattle.value.proofs.Lent.{as_integer_short}
use Rattle.value.proofs.Writes.{write_bytes_long, write_refused, write_unconverted, write_number}
use Rattle.value.proofs.field.write_value.Goals as goal

pub returns-then-bytes-gt65536 : goal.returns-then-bytes-gt65536
returns-then-bytes-gt65536 c = sym (write_bytes_long _ _ _ _ c.if-bytes-gt65536.true)

pub returns-in_err-check_field : goal.returns-in_err-check_field
returns-in_err-check_field c =
    let p = err_from_is_err_and c.from_residual.result c.from_residual.ensures.1 in
    rw (p.1, p.2) (sym (write_refused _ _ _ _ c.if-bytes-gt65536.false _ (sym c.check_field.ensures ∙ c.in_err-check_field.was)))

pub returns-in_err-n : goal.returns-in_err-n
returns-in_err-n c =
    let l = c.if-bytes-gt65536.false in
    let p = err_from_is_err_and c.from_residual-in_err-n.result c.from_residual-in_err-n.ensures.1 in
    rw (p.1, p.2)
    (sym
    (write_unconverted _ _ _ _ l (sym c.check_field.ensures ∙ c.in_ok-check_field.was) _
    (sym (as_integer_short _ _ l) ∙ sym c.as_integer.ensures ∙ c.in_err-n.was)))

pub returns : goal.returns
returns c =
    let l = c.if-bytes-gt65536.false in
    c.write_field.ensures
    ∙ sym
    (write_number _ _ _ _ l (sym c.check_field.ensures ∙ c.in_ok-check_field.was) _
    (sym (as_integer_short _ _ l) ∙ sym c.as_integer.ensures ∙ c.in_ok-n.was))
