-- `op::op_of` meets its contract.
-- Assumes nothing.
use mathlib.Core.Path.{refl}
use Rattle.script.proofs.Table.{row_found, row_next, no_row}
use Rattle.script.proofs.op.op_of.Goals as goal

pub loop-name-init : goal.loop-name-init
loop-name-init c = refl

pub returns-then-eq : goal.returns-then-eq
returns-then-eq c = row_found _ _ _ _ c.loop-name-test.true _ c.eq.ensures _ c.loop-name.invariant c.if-eq.true

pub loop-name-preserved : goal.loop-name-preserved
loop-name-preserved c = row_next _ _ _ _ c.loop-name-test.true _ c.eq.ensures _ c.loop-name.invariant c.if-eq.false

pub returns : goal.returns
returns c = no_row _ _ _ _ c.loop-name.invariant c.loop-name-test.false
