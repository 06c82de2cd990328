-- `value::convert::as_bool` meets its contract: each return is the conversion of one kind of value.
-- Assumes nothing.
use mathlib.Core.Path.{sym, ◌∙◌}
use borrow.Enum.Refused.{opened}
use Rattle.value.proofs.Lent.{as_bool_long, as_bool_short}
use Rattle.value.proofs.ByKind.{bool_of_boolean, bool_of_integer, no_bool}
use Rattle.value.proofs.convert.as_bool.Goals as goal

pub returns-then-bytes-gt65536 : goal.returns-then-bytes-gt65536
returns-then-bytes-gt65536 c = sym (as_bool_long _ _ c.if-bytes-gt65536.true)

pub returns-in-Boolean : goal.returns-in-Boolean
returns-in-Boolean c = sym (as_bool_short _ _ c.if-bytes-gt65536.false ∙ rw c.in-Boolean.is (bool_of_boolean _))

pub returns-in-Integer : goal.returns-in-Integer
returns-in-Integer c = sym (as_bool_short _ _ c.if-bytes-gt65536.false ∙ rw c.in-Integer.is (bool_of_integer _))

pub returns-in_default : goal.returns-in_default
returns-in_default c =
    let a = c.args in
    rw (c.no.ensures, c.type_of.ensures)
    (sym (as_bool_short _ _ c.if-bytes-gt65536.false ∙ no_bool a.value a.bytes.now (opened c.in_default.in_default-own.keys3)))
