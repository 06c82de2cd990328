-- `concat::end_tag` meets its contract: the two bytes behind the first n, the second from their sum.
-- Assumes nothing.
use Rattle.std.proofs.Common.{arith, length-set, length-take, rules}
use mathlib.Core.Path.{refl}
use Rattle.expression.proofs.Resources.{end_done}
use Rattle.expression.proofs.concat.end_tag.Goals as goal

pub slice_bounds-sum-end-2 : goal.slice_bounds-sum-end-2
slice_bounds-sum-end-2 c = simp length-take (omega arith)

pub bounds-out-n-2 : goal.bounds-out-n-2
bounds-out-n-2 c = simp length-set (omega arith)

pub returns : goal.returns
returns c = end_done c.args.out.now c.args.n _ _ _ c.requires c.sum-total.ensures refl c.wrapping_neg.ensures (search rules)
