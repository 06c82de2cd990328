-- `value::convert::buffer_length` meets its contract: each return is the conversion of one kind of value, counted.
-- Assumes nothing.
use borrow.Enum.Refused.{opened}
use Rattle.value.proofs.Lengths.{buffer_long, buffer_of, buffer_of_field, buffer_of_unit, buffer_of_other}
use Rattle.value.proofs.convert.buffer_length.Goals as goal

pub returns-then-bytes-gt65536 : goal.returns-then-bytes-gt65536
returns-then-bytes-gt65536 c = search buffer_long

pub returns-in-Buffer : goal.returns-in-Buffer
returns-in-Buffer c = search buffer_of

pub returns-in-BufferField : goal.returns-in-BufferField
returns-in-BufferField c = search buffer_of_field

pub returns-in-Field : goal.returns-in-Field
returns-in-Field c = search buffer_of_unit

pub returns-in_default : goal.returns-in_default
returns-in_default c = search (buffer_of_other, opened)
