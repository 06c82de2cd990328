-- `job::answer_operands` meets its contract: each return is a case of the three operand lines.
-- Assumes nothing.
use Rattle.script.proofs.Jobs.{wrong_a, inside_a, wrong_b, inside_b, wrong_c, inside_c, operands_done}
use lib.ListN.{length-take}
use mathlib.Core.Path.{refl}
use native.Mathlib.Omega.{arith}
use borrow.Author.Rules.{rules}
use Rattle.script.proofs.job.answer_operands.Goals as goal

pub returns-in_err-first : goal.returns-in_err-first
returns-in_err-first c = rw c.from_residual.ensures (refl, wrong_a _ _ _ _ _ c.operand_line.ensures c.in_err-first.was)

pub slice_bounds-operand_line-count : goal.slice_bounds-operand_line-count
slice_bounds-operand_line-count c =
    let i = inside_a c.args.op c.args.used c.args.s.now _ _ c.operand_line.ensures _ c.in_ok-first.was in
    search rules

pub returns-in_err-second : goal.returns-in_err-second
returns-in_err-second c = rw c.from_residual-in_err-second.ensures (refl, wrong_b _ _ _ _ _ c.operand_line.ensures _ c.in_ok-first.was _ _ c.operand_line-2.ensures c.in_err-second.was)

pub overflow_add-from : goal.overflow_add-from
overflow_add-from c =
    let i = inside_a c.args.op c.args.used c.args.s.now _ _ c.operand_line.ensures _ c.in_ok-first.was in
    let j = inside_b c.args.op c.args.used c.args.s.now _ _ c.operand_line.ensures _ c.in_ok-first.was _ _ c.operand_line-2.ensures _ c.in_ok-second.was in
    search rules

pub slice_bounds-operand_line-count-2 : goal.slice_bounds-operand_line-count-2
slice_bounds-operand_line-count-2 c =
    let i = inside_a c.args.op c.args.used c.args.s.now _ _ c.operand_line.ensures _ c.in_ok-first.was in
    let j = inside_b c.args.op c.args.used c.args.s.now _ _ c.operand_line.ensures _ c.in_ok-first.was _ _ c.operand_line-2.ensures _ c.in_ok-second.was in
    search rules

pub returns-in_err-third : goal.returns-in_err-third
returns-in_err-third c =
    rw c.from_residual-in_err-third.ensures (refl, wrong_c _ _ _ _ _ c.operand_line.ensures _ c.in_ok-first.was _ _ c.operand_line-2.ensures _ c.in_ok-second.was _ _ c.operand_line-3.ensures c.in_err-third.was)

pub slice_bounds-x-end : goal.slice_bounds-x-end
slice_bounds-x-end c = omega (arith, (inside_a c.args.op c.args.used c.args.s.now _ _ c.operand_line.ensures _ c.in_ok-first.was).0)

pub slice_bounds-a-end : goal.slice_bounds-a-end
slice_bounds-a-end c =
    let i = (inside_a c.args.op c.args.used c.args.s.now _ _ c.operand_line.ensures _ c.in_ok-first.was).0 in
    simp length-take (omega arith)

pub slice_bounds-y-end : goal.slice_bounds-y-end
slice_bounds-y-end c =
    omega (arith, (inside_b c.args.op c.args.used c.args.s.now _ _ c.operand_line.ensures _ c.in_ok-first.was _ _ c.operand_line-2.ensures _ c.in_ok-second.was).0)

pub slice_bounds-b-end : goal.slice_bounds-b-end
slice_bounds-b-end c =
    let i = (inside_b c.args.op c.args.used c.args.s.now _ _ c.operand_line.ensures _ c.in_ok-first.was _ _ c.operand_line-2.ensures _ c.in_ok-second.was).0 in
    simp length-take (omega arith)

pub slice_bounds-z-end : goal.slice_bounds-z-end
slice_bounds-z-end c =
    omega
    (arith, (inside_c c.args.op c.args.used c.args.s.now _ _ c.operand_line.ensures _ c.in_ok-first.was _ _ c.operand_line-2.ensures _ c.in_ok-second.was _ _ c.operand_line-3.ensures _ c.in_ok-third.was).0)

pub slice_bounds-c-end : goal.slice_bounds-c-end
slice_bounds-c-end c =
    let i = (inside_c c.args.op c.args.used c.args.s.now _ _ c.operand_line.ensures _ c.in_ok-first.was _ _ c.operand_line-2.ensures _ c.in_ok-second.was _ _ c.operand_line-3.ensures _ c.in_ok-third.was).0 in
    simp length-take (omega arith)

pub returns : goal.returns
returns c =
    operands_done _ _ _ _ _ c.operand_line.ensures _ c.in_ok-first.was _ _ c.operand_line-2.ensures _ c.in_ok-second.was _ _ c.operand_line-3.ensures _ c.in_ok-third.was _ _ c.answer_op.ensures
