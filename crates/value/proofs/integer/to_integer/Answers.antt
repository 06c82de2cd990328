-- `value::integer::to_integer` meets its contract: each return is the conversion of one kind of value.
-- Assumes nothing.
use mathlib.Core.Path.{sym, ◌∙◌}
use borrow.Enum.Refused.{opened}
use Rattle.value.proofs.Lent.{def_to_integer_long, def_to_integer_short}
use Rattle.value.proofs.ByKind.{parsed_integer, parsed_string, parsed_buffer, no_parsed}
use Rattle.value.proofs.integer.to_integer.Goals as goal

pub returns-then-bytes-gt65536 : goal.returns-then-bytes-gt65536
returns-then-bytes-gt65536 c = sym (def_to_integer_long _ _ c.if-bytes-gt65536.true)

pub returns-in-Integer : goal.returns-in-Integer
returns-in-Integer c = sym (def_to_integer_short _ _ c.if-bytes-gt65536.false ∙ rw c.in-Integer.is (parsed_integer _))

pub returns-in-Buffer : goal.returns-in-Buffer
returns-in-Buffer c =
    sym (def_to_integer_short _ _ c.if-bytes-gt65536.false ∙ rw (c.in-Buffer.is, c.get_bits.ensures) (parsed_buffer _))

pub returns-in-String : goal.returns-in-String
returns-in-String c =
    c.text_integer.ensures
    ∙ sym (def_to_integer_short _ _ c.if-bytes-gt65536.false ∙ rw c.in-String.is (parsed_string _))

pub returns-in_default : goal.returns-in_default
returns-in_default c =
    let a = c.args in
    rw c.type_of.ensures
    (sym (def_to_integer_short _ _ c.if-bytes-gt65536.false ∙ no_parsed a.value a.bytes.now (opened c.in_default.in_default-own.keys4)))
