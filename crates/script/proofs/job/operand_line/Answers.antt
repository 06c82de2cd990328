-- `job::operand_line` meets its contract.
-- Assumes nothing.
use Rattle.script.proofs.Jobs.{no_operand, line_inside, line_operand, bad_operand}
use mathlib.Core.Bool.{true}
use borrow.Author.Rules.{rules}
use Rattle.script.proofs.job.operand_line.Goals as goal

pub returns-in_err-n : goal.returns-in_err-n
returns-in_err-n c = rw c.from_residual.ensures (no_operand _ _ _ _ c.named_line.ensures c.in_err-n.was c.args.scratch.now)

pub slice_bounds-operand_of-count : goal.slice_bounds-operand_of-count
slice_bounds-operand_of-count c =
    let i = line_inside _ _ true _ c.named_line.ensures _ c.in_ok-n.was in
    search rules

pub overflow_add-n : goal.overflow_add-n
overflow_add-n c =
    let i = line_inside _ _ true _ c.named_line.ensures _ c.in_ok-n.was in
    search rules

pub returns-in_err-operand : goal.returns-in_err-operand
returns-in_err-operand c = rw c.from_residual-in_err-operand.ensures (bad_operand _ _ _ _ c.named_line.ensures _ c.in_ok-n.was _ _ c.operand_of.ensures c.in_err-operand.was)

pub returns : goal.returns
returns c = line_operand _ _ _ _ c.named_line.ensures _ c.in_ok-n.was _ _ c.in_ok-operand.ensures _ c.fill.ensures
