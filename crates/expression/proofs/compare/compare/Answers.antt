-- `compare::compare` meets its contract: 27 of either side, then each kind of the left.
-- Assumes nothing.
use mathlib.Core.Path.{sym, ap, ◌∙◌}
use borrow.Enum.Refused.{opened}
use Rattle.std.proofs.lemmas.Result.{err_from_is_err_and}
use Rattle.std.specs.Prelude.{Ok}
use Rattle.expression.specs.Compare.{compared_operands}
use Rattle.expression.proofs.Comparing.{ordered, left_long, right_long, left_number, left_string, left_buffer, left_other}
use Rattle.expression.proofs.compare.compare.Goals as goal

pub returns-then-left_bytes-gt65536 : goal.returns-then-left_bytes-gt65536
returns-then-left_bytes-gt65536 c =
    search left_long

pub returns-then-right_bytes-gt65536 : goal.returns-then-right_bytes-gt65536
returns-then-right_bytes-gt65536 c =
    search right_long

pub returns-in_err-x-in-Boolean : goal.returns-in_err-x-in-Boolean
returns-in_err-x-in-Boolean c =
    let p = err_from_is_err_and c.from_residual.result c.from_residual.ensures.1 in
    rw (p.1, p.2)
    (left_number _ _ _ _ c.if-left_bytes-gt65536.false c.if-right_bytes-gt65536.false _ c.both_operands.ensures _
    (ap compared_operands (sym c.in_err-x-in-Boolean.was)) c.in-Boolean.is)

pub returns-in_ok-x-in-Boolean : goal.returns-in_ok-x-in-Boolean
returns-in_ok-x-in-Boolean c =
    left_number _ _ _ _ c.if-left_bytes-gt65536.false c.if-right_bytes-gt65536.false _ c.both_operands.ensures _
    (ap Ok c.cmp.ensures ∙ ordered c.in_ok-x-in-Boolean.x c.in_ok-x-in-Boolean.y ∙ ap compared_operands (sym c.in_ok-x-in-Boolean.was)) c.in-Boolean.is

pub returns-in-String : goal.returns-in-String
returns-in-String c =
    search left_string

pub returns-in-Buffer : goal.returns-in-Buffer
returns-in-Buffer c =
    search left_buffer

pub returns-in_default : goal.returns-in_default
returns-in_default c =
    search (left_other, opened)
