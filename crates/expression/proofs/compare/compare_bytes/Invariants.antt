-- `compare::compare_bytes` meets its contract. The loop's invariant: what is left of both sides decides as the whole does.
-- Assumes nothing.
use Rattle.std.proofs.Common.{◌≤◌, length}
use Rattle.expression.proofs.Comparing.{Undecided}
use Rattle.expression.proofs.compare.compare_bytes.Given as goal

abbrev pub invariant-loop-i : goal.invariant-loop-i
invariant-loop-i l = (l.i ≤ length l.s) × (l.i ≤ length l.t) × Undecided l.s l.t l.i
