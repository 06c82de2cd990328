-- `mid::def_mid_place` meets its contract: 27, what an operand refuses, 5, or the place.
-- Assumes nothing.
use borrow.Enum.Refused.{opened}
use Rattle.std.proofs.lemmas.Result.{err_from_is_err_and}
use Rattle.expression.proofs.Slicing.{place_refused, place_other}
use Rattle.expression.proofs.mid.def_mid_place.Goals as goal

pub returns-in_err-at : goal.returns-in_err-at
returns-in_err-at c =
    let p = err_from_is_err_and c.from_residual.result c.from_residual.ensures.1 in
    let w = c.in_err-at.was in
    rw (p.1, p.2) (search place_refused)

pub returns-in_default : goal.returns-in_default
returns-in_default c =
    let w0 = c.in_ok-at.was in
    search (place_other, opened)
