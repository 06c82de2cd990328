-- `concat::concat_numbers` meets its contract: two numbers of eight bytes one behind the other, or 20.
-- Assumes nothing.
use Rattle.expression.proofs.Joining.{numbers_done}
use Rattle.expression.proofs.concat.concat_numbers.Goals as goal

pub returns : goal.returns
returns c =
    let a = c.args in
    numbers_done a.x a.y a.out.now c.if-out-lt16.false (λ j. (c.slice_known-1.given j).fits) _ c.store.ensures _ c.store-2.ensures
