-- `job::answered` meets its contract: each return is a case of the op's line.
-- Assumes nothing.
use Rattle.script.proofs.Jobs.{no_op, op_inside, unknown, job_malformed, job_done}
use lib.ListN.{length-take}
use mathlib.Core.Path.{refl}
use native.Mathlib.Omega.{arith}
use borrow.Author.Rules.{rules}
use Rattle.script.proofs.job.answered.Goals as goal

pub returns-in_err-n : goal.returns-in_err-n
returns-in_err-n c = rw c.from_residual.ensures (refl, no_op _ _ c.named_line.ensures c.in_err-n.was)

pub slice_bounds-op_of-count : goal.slice_bounds-op_of-count
slice_bounds-op_of-count c =
    let i = op_inside _ _ c.named_line.ensures _ c.in_ok-n.was in
    search rules

pub returns-in_err-op : goal.returns-in_err-op
returns-in_err-op c = rw c.from_residual-in_err-op.ensures (refl, unknown _ _ c.named_line.ensures _ c.in_ok-n.was _ c.op_of.ensures c.in_err-op.was)

pub overflow_add-from : goal.overflow_add-from
overflow_add-from c =
    let i = op_inside _ _ c.named_line.ensures _ c.in_ok-n.was in
    search rules

pub slice_bounds-answer_operands-count : goal.slice_bounds-answer_operands-count
slice_bounds-answer_operands-count c =
    let i = op_inside _ _ c.named_line.ensures _ c.in_ok-n.was in
    search rules

pub answer_operands-requires : goal.answer_operands-requires
answer_operands-requires c = (c.requires.0, simp length-take (omega (arith, c.requires.1)))

pub returns-in_err-rest : goal.returns-in_err-rest
returns-in_err-rest c =
    rw c.from_residual-in_err-rest.ensures (c.in_err-rest.ensures.0, job_malformed _ _ c.named_line.ensures _ c.in_ok-n.was _ c.op_of.ensures _ _ c.in_ok-op.was c.in_err-rest.ensures.1)

pub overflow_add-result : goal.overflow_add-result
overflow_add-result c = omega (arith, simp length-take at c.in_ok-rest.ensures.most, (op_inside c.args.s.now _ c.named_line.ensures _ c.in_ok-n.was).1, c.requires.1)

pub returns : goal.returns
returns c = job_done _ _ c.named_line.ensures _ c.in_ok-n.was _ c.op_of.ensures _ _ c.in_ok-op.was _ _ _ c.in_ok-rest.ensures
