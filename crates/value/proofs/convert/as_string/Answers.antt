-- `value::convert::as_string` meets its contract: each return is the conversion of one kind of value.
-- Assumes nothing.
use mathlib.Core.Path.{sym, ◌∙◌}
use borrow.Enum.Refused.{opened}
use Rattle.value.proofs.Lent.{as_string_long, as_string_short}
use Rattle.value.proofs.ByKind.{string_of_string, string_of_field_unit, no_string}
use Rattle.value.proofs.Fields.{unit_no_string}
use Rattle.value.proofs.Giving.{giving_none}
use Rattle.value.proofs.convert.as_string.Goals as goal

pub returns-then-bytes-gt65536 : goal.returns-then-bytes-gt65536
returns-then-bytes-gt65536 c = sym (as_string_long _ _ c.if-bytes-gt65536.true _)

pub returns-in-String : goal.returns-in-String
returns-in-String c =
    c.give.ensures
    ∙ sym (as_string_short _ _ c.if-bytes-gt65536.false _ ∙ rw (c.in-String.is, string_of_string))

pub returns-in-Field : goal.returns-in-Field
returns-in-Field c =
    rw c.field_refused.ensures
    (sym (as_string_short _ _ c.if-bytes-gt65536.false _ ∙ rw (c.in-Field.is, string_of_field_unit, unit_no_string) (giving_none _ _)))

pub returns-in_default : goal.returns-in_default
returns-in_default c =
    rw (c.no.ensures, c.type_of.ensures)
    (sym (as_string_short _ _ c.if-bytes-gt65536.false _ ∙ rw (no_string _ _ (opened c.in_default.in_default-own.keys3)) (giving_none _ _)))
