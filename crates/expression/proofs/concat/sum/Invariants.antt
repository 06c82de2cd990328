-- `concat::sum` meets its contract. The loop's invariant: what is summed so far, with what is left, is the sum of all, modulo 256.
-- Assumes nothing.
use Rattle.std.proofs.Common.{◌<◌}
use Rattle.expression.proofs.Resources.{Summing}
use Rattle.expression.proofs.concat.sum.Given as goal

abbrev pub invariant-loop-x : goal.invariant-loop-x
invariant-loop-x l = (l.total < 256) × Summing l.bytes l.total l.x-index
