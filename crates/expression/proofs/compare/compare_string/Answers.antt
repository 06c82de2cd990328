-- `compare::compare_string` meets its contract: what to string refuses, or the bytes of both.
-- Assumes nothing.
use Rattle.std.proofs.lemmas.Result.{err_from_is_err_and}
use Rattle.expression.proofs.Comparing.{string_refused, string_compared}
use Rattle.expression.proofs.compare.compare_string.Goals as goal

pub returns-in_err-string_length : goal.returns-in_err-string_length
returns-in_err-string_length c =
    let p = err_from_is_err_and c.from_residual.result c.from_residual.ensures.1 in
    let w = c.in_err-string_length.was in
    rw (p.1, p.2) (search string_refused)

pub returns : goal.returns
returns c =
    let w0 = c.in_ok-string_length.was in
    search string_compared
