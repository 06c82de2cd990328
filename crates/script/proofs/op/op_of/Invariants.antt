-- `op::op_of` meets its contract. The loop's invariant: the first row of that name is among those left.
-- Assumes nothing.
use mathlib.Core.Path.{◌≡◌}
use lib.ListN.{drop}
use Rattle.script.specs.Ops.{ops, row_of}
use Rattle.script.proofs.Table.{as_rows}
use Rattle.script.proofs.op.op_of.Given as goal

abbrev pub invariant-loop-name : goal.invariant-loop-name
invariant-loop-name l = row_of (as_rows (drop l.name-index l.name-items)) l.s ≡ row_of ops l.s
