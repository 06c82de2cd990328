-- `value::field::write_value_self` meets its contract: as `write_value`, with the region for the value's bytes, whose length the field's checks have seen.
-- Assumes nothing.
use mathlib.Core.Path.{sym, ◌∙◌}
use mathlib.Core.Bool.{true}
use lib.ListN.{length}
use Rattle.std.proofs.lemmas.Result.{err_from_is_err_and}
use Rattle.value.proofs.Lent.{as_integer_short}
use Rattle.value.proofs.Writes.{region_short, write_refused_self, write_unconverted, write_number}
use Rattle.value.proofs.field.write_value_self.Goals as goal

pub returns-in_err-check_field : goal.returns-in_err-check_field
returns-in_err-check_field c =
    let p = err_from_is_err_and c.from_residual.result c.from_residual.ensures.1 in
    rw (p.1, p.2) (sym (write_refused_self _ _ _ _ (sym c.check_field.ensures ∙ c.in_err-check_field.was)))

pub returns-in_err-n : goal.returns-in_err-n
returns-in_err-n c =
    let a = c.args in
    let d = sym c.check_field.ensures ∙ c.in_ok-check_field.was in
    let l = region_short true a.field (length a.region.now) d in
    let p = err_from_is_err_and c.from_residual-in_err-n.result c.from_residual-in_err-n.ensures.1 in
    rw (p.1, p.2)
    (sym
    (write_unconverted _ _ _ _ l d _
    (sym (as_integer_short _ _ l) ∙ sym c.as_integer.ensures ∙ c.in_err-n.was)))

pub returns : goal.returns
returns c =
    let a = c.args in
    let d = sym c.check_field.ensures ∙ c.in_ok-check_field.was in
    let l = region_short true a.field (length a.region.now) d in
    c.write_field.ensures
    ∙ sym
    (write_number _ _ _ _ l d _
    (sym (as_integer_short _ _ l) ∙ sym c.as_integer.ensures ∙ c.in_ok-n.was))
