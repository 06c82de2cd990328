-- `number::def_decrement` meets its contract: the number less 1, or what converting refused.
-- Assumes nothing.
use mathlib.Core.Path.{refl, sym, ◌∙◌}
use Rattle.std.proofs.lemmas.Result.{err_from_is_err_and}
use Rattle.expression.proofs.Numbers.{unary_refused, unary_number}
use Rattle.expression.proofs.number.def_decrement.Goals as goal

pub returns-in_err-x : goal.returns-in_err-x
returns-in_err-x c =
    let p = err_from_is_err_and c.from_residual.result c.from_residual.ensures.1 in
    rw (p.1, p.2) (sym c.in_err-x.was ∙ unary_refused _ _ _ _ c.as_integer.ensures _ c.in_err-x.was)

pub returns : goal.returns
returns c =
    unary_number _ _ _ _ c.as_integer.ensures _ c.in_ok-x.was _ refl
