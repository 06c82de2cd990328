-- `value::convert::string_length` meets its contract: each return is the conversion of one kind of value, counted.
-- Assumes nothing.
use borrow.Enum.Refused.{opened}
use Rattle.value.proofs.Lengths.{string_long, string_of, string_of_unit, string_of_other}
use Rattle.value.proofs.convert.string_length.Goals as goal

pub returns-then-bytes-gt65536 : goal.returns-then-bytes-gt65536
returns-then-bytes-gt65536 c = search string_long

pub returns-in-String : goal.returns-in-String
returns-in-String c = search string_of

pub returns-in-Field : goal.returns-in-Field
returns-in-Field c = search string_of_unit

pub returns-in_default : goal.returns-in_default
returns-in_default c = search (string_of_other, opened)
