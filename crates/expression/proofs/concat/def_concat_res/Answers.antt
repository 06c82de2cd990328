-- `concat::def_concat_res` meets its contract: each return is a case of ConcatRes, in the order 27, left, right, 6, 20.
-- Assumes nothing.
use Rattle.std.proofs.Common.{arith}
use Rattle.expression.proofs.Counting.{bounded}
use Rattle.expression.proofs.Resources.{res_left_long, res_right_long, res_left, res_right, res_too_short, res_no_room, res_done}
use Rattle.std.proofs.lemmas.Result.{err_from_is_err_and}
use Rattle.expression.proofs.concat.def_concat_res.Goals as goal

pub returns-then-left_bytes-gt65536 : goal.returns-then-left_bytes-gt65536
returns-then-left_bytes-gt65536 c = search res_left_long

pub returns-then-right_bytes-gt65536 : goal.returns-then-right_bytes-gt65536
returns-then-right_bytes-gt65536 c = search res_right_long

pub returns-in_err-n : goal.returns-in_err-n
returns-in_err-n c =
    let p = err_from_is_err_and c.from_residual.result c.from_residual.ensures.1 in
    let w = c.in_err-n.was in
    rw (p.1, p.2) (search res_left)

pub returns-in_err-m : goal.returns-in_err-m
returns-in_err-m c =
    let p = err_from_is_err_and c.from_residual-in_err-m.result c.from_residual-in_err-m.ensures.1 in
    let w = c.in_err-m.was in
    let v = c.in_ok-n.was in
    rw (p.1, p.2) (search res_right)

pub returns-then-too_short : goal.returns-then-too_short
returns-then-too_short c =
    let w0 = c.in_ok-n.was in
    let w1 = c.in_ok-m.was in
    search res_too_short

pub overflow_add-end : goal.overflow_add-end
overflow_add-end c =
    let n = bounded _ _ _ _ c.if-left_bytes-gt65536.false c.buffer_length.ensures c.in_ok-n.was in
    let m = bounded _ _ _ _ c.if-right_bytes-gt65536.false c.buffer_length-2.ensures c.in_ok-m.was in
    omega arith

pub overflow_add-size : goal.overflow_add-size
overflow_add-size c =
    let n = bounded _ _ _ _ c.if-left_bytes-gt65536.false c.buffer_length.ensures c.in_ok-n.was in
    let m = bounded _ _ _ _ c.if-right_bytes-gt65536.false c.buffer_length-2.ensures c.in_ok-m.was in
    omega arith

pub returns-then-out-size : goal.returns-then-out-size
returns-then-out-size c =
    let w0 = c.in_ok-n.was in
    let w1 = c.in_ok-m.was in
    search res_no_room

pub returns : goal.returns
returns c =
    let w0 = c.in_ok-n.was in
    let w1 = c.in_ok-m.was in
    search res_done
