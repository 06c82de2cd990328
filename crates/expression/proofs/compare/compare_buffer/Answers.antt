-- `compare::compare_buffer` meets its contract: what to buffer refuses, or the bytes of both, a BufferField's from its own buffer.
-- Assumes nothing.
use borrow.Enum.Refused.{opened}
use Rattle.std.proofs.lemmas.Result.{err_from_is_err_and}
use Rattle.expression.proofs.Comparing.{buffer_refused, buffer_compared, field_inside, field_compared}
use Rattle.expression.proofs.compare.compare_buffer.Goals as goal

pub returns-in_err-n : goal.returns-in_err-n
returns-in_err-n c =
    let p = err_from_is_err_and c.from_residual.result c.from_residual.ensures.1 in
    let w = c.in_err-n.was in
    rw (p.1, p.2) (search buffer_refused)

pub compare_field-requires : goal.compare_field-requires
compare_field-requires c =
    field_inside c.args.s.now _ _ c.requires _ c.buffer_length.ensures _ c.in_ok-n.was _ _ c.in-BufferField.is

pub returns-in-BufferField : goal.returns-in-BufferField
returns-in-BufferField c =
    let w0 = c.in_ok-n.was in
    search field_compared

pub returns-in_default : goal.returns-in_default
returns-in_default c =
    let w0 = c.in_ok-n.was in
    search (buffer_compared, opened)
