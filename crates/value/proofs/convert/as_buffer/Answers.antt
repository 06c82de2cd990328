-- `value::convert::as_buffer` meets its contract: each return is the conversion of one kind of value.
-- Assumes nothing.
use mathlib.Core.Path.{sym, ◌∙◌}
use borrow.Enum.Refused.{opened}
use Rattle.value.proofs.Lent.{as_buffer_long, as_buffer_short}
use Rattle.value.proofs.ByKind.{buffer_of_buffer, buffer_of_buffer_field, buffer_of_field_unit, no_buffer}
use Rattle.value.proofs.Fields.{unit_no_buffer}
use Rattle.value.proofs.Giving.{giving_none}
use Rattle.value.proofs.convert.as_buffer.Goals as goal

pub returns-then-bytes-gt65536 : goal.returns-then-bytes-gt65536
returns-then-bytes-gt65536 c = sym (as_buffer_long _ _ c.if-bytes-gt65536.true _)

pub returns-in-Buffer : goal.returns-in-Buffer
returns-in-Buffer c =
    c.give.ensures
    ∙ sym (as_buffer_short _ _ c.if-bytes-gt65536.false _ ∙ rw (c.in-Buffer.is, buffer_of_buffer))

pub returns-in-BufferField : goal.returns-in-BufferField
returns-in-BufferField c =
    c.buffer_field_buffer.ensures
    ∙ sym (as_buffer_short _ _ c.if-bytes-gt65536.false _ ∙ rw (c.in-BufferField.is, buffer_of_buffer_field))

pub returns-in-Field : goal.returns-in-Field
returns-in-Field c =
    rw c.field_refused.ensures
    (sym (as_buffer_short _ _ c.if-bytes-gt65536.false _ ∙ rw (c.in-Field.is, buffer_of_field_unit, unit_no_buffer) (giving_none _ _)))

pub returns-in_default : goal.returns-in_default
returns-in_default c =
    rw (c.no.ensures, c.type_of.ensures)
    (sym (as_buffer_short _ _ c.if-bytes-gt65536.false _ ∙ rw (no_buffer _ _ (opened c.in_default.in_default-own.keys4)) (giving_none _ _)))
