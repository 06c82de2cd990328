-- `value::convert::as_integer` meets its contract: a number converts by its own line, every other value by its content.
-- Assumes nothing.
use mathlib.Core.Path.{sym, ◌∙◌}
use borrow.Enum.Refused.{opened}
use Rattle.value.proofs.Lent.{as_integer_long, as_integer_short}
use Rattle.value.proofs.ByKind.{integer_of_boolean, integer_of_integer, no_number}
use Rattle.value.proofs.convert.as_integer.Goals as goal

pub returns-then-bytes-gt65536 : goal.returns-then-bytes-gt65536
returns-then-bytes-gt65536 c = sym (as_integer_long _ _ c.if-bytes-gt65536.true)

pub returns-in-Integer : goal.returns-in-Integer
returns-in-Integer c = sym (as_integer_short _ _ c.if-bytes-gt65536.false ∙ rw c.in-Integer.is (integer_of_integer _))

pub returns-in-Boolean : goal.returns-in-Boolean
returns-in-Boolean c =
    sym (as_integer_short _ _ c.if-bytes-gt65536.false ∙ rw (c.in-Boolean.is, c.truth_number.ensures) (integer_of_boolean _))

pub content_integer-requires : goal.content_integer-requires
content_integer-requires c = (c.if-bytes-gt65536.false, no_number c.args.value (opened c.in_default.in_default-own.keys2) (opened c.in_default-value.in_default-value-own.keys2))
