-- Assumes nothing.
use Rattle.std.proofs.Common.{rules, refl}
use Rattle.expression.proofs.Resources.{sum_start, sum_more, sum_end}
use Rattle.expression.proofs.concat.sum.Goals as goal

pub loop-x-init : goal.loop-x-init
loop-x-init c = (search rules, sum_start _)

pub loop-x-preserved : goal.loop-x-preserved
loop-x-preserved c = (search rules, sum_more c.args.bytes.now _ _ _ c.loop-x-test.true refl c.loop-x.invariant.1)

pub returns : goal.returns
returns c = sum_end c.args.bytes.now _ _ c.loop-x-test.false c.loop-x.invariant.0 c.loop-x.invariant.1
