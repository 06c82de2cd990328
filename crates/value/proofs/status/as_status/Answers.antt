-- `value::status::as_status` meets its contract: refused but for an Integer below 32, whose bits are found by division.
-- Assumes nothing.
use mathlib.Core.Path.{sym, ◌∙◌}
use borrow.Enum.Refused.{opened}
use Rattle.value.proofs.Lent.{as_status_long, as_status_short}
use Rattle.value.proofs.Statuses.{status_of_lem, status_high, no_status}
use Rattle.value.proofs.status.as_status.Goals as goal

pub returns-then-bytes-gt65536 : goal.returns-then-bytes-gt65536
returns-then-bytes-gt65536 c = sym (as_status_long _ _ c.if-bytes-gt65536.true)

pub returns-in_default : goal.returns-in_default
returns-in_default c =
    let a = c.args in
    sym (as_status_short _ _ c.if-bytes-gt65536.false ∙ no_status a.value a.bytes.now (opened c.in_default.in_default-own.keys2))

pub returns-then-n-ge32 : goal.returns-then-n-ge32
returns-then-n-ge32 c =
    sym (as_status_short _ _ c.if-bytes-gt65536.false ∙ rw c.in-Integer.is (status_high _ c.if-n-ge32.true))

pub returns : goal.returns
returns c =
    sym (as_status_short _ _ c.if-bytes-gt65536.false ∙ rw c.in-Integer.is (status_of_lem _ c.if-n-ge32.false))
