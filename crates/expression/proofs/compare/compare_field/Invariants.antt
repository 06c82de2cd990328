-- `compare::compare_field` meets its contract. The loop's invariant: what is left of both sides decides as the whole does.
-- Assumes nothing.
use Rattle.std.proofs.Common.{◌≤◌}
use Rattle.bits.specs.Bits.{bytes, run_bits, bytes_for}
use Rattle.expression.proofs.Comparing.{Undecided}
use Rattle.expression.proofs.compare.compare_field.Given as goal

abbrev pub invariant-loop-i : goal.invariant-loop-i
invariant-loop-i l = (l.i ≤ l.n) × Undecided l.s (bytes (run_bits l.t l.offset l.length) 0 (bytes_for l.length)) l.i
