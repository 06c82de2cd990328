-- `value::convert::content_integer` meets its contract: each return is the conversion of one kind of value that is no number itself.
-- Assumes nothing.
use mathlib.Core.Path.{sym, ◌∙◌}
use borrow.Enum.Refused.{opened}
use Rattle.value.proofs.Lent.{as_integer_short}
use Rattle.value.proofs.ByKind.{integer_of_buffer, integer_of_buffer_field, integer_of_field_unit, no_integer_lem}
use Rattle.value.proofs.convert.content_integer.Goals as goal

pub returns-in-Buffer : goal.returns-in-Buffer
returns-in-Buffer c =
    sym (as_integer_short _ _ c.requires.0 ∙ rw (c.in-Buffer.is, c.get_bits.ensures) (integer_of_buffer _))

pub returns-in-BufferField : goal.returns-in-BufferField
returns-in-BufferField c =
    c.buffer_field_integer.ensures
    ∙ sym (as_integer_short _ _ c.requires.0 ∙ rw c.in-BufferField.is (integer_of_buffer_field _ _ _))

pub returns-in-Field : goal.returns-in-Field
returns-in-Field c =
    c.field_integer.ensures
    ∙ sym (as_integer_short _ _ c.requires.0 ∙ rw c.in-Field.is (integer_of_field_unit _ _))

pub returns-in_default : goal.returns-in_default
returns-in_default c =
    rw (c.no.ensures, c.type_of.ensures)
    (sym (as_integer_short _ _ c.requires.0 ∙ no_integer_lem c.args.value c.args.bytes.now (opened c.in_default.in_default-own.keys4) c.requires.1))
