-- `concat::concat_buffers` meets its contract: what to buffer refuses, 20, or both one behind the other.
-- Assumes nothing.
use mathlib.Core.Path.{◌≡◌, ◌∙◌}
use native.Mathlib.Omega.{arith}
use lib.ListN.{length}
use Rattle.value.proofs.Giving.{fitted}
use Rattle.expression.proofs.Joining.{buffers_refused, buffers_shorter, buffers_done}
use Rattle.std.proofs.lemmas.Result.{err_from_is_err_and}
use Rattle.expression.proofs.concat.concat_buffers.Goals as goal

pub returns-in_err-n : goal.returns-in_err-n
returns-in_err-n c =
    let p = err_from_is_err_and c.from_residual.result c.from_residual.ensures.1 in
    let w = c.in_err-n.was in
    rw (p.1, p.2) (search buffers_refused)

pub returns-then-out-left_bytes-2 : goal.returns-then-out-left_bytes-2
returns-then-out-left_bytes-2 c =
    let w0 = c.in_ok-n.was in
    search buffers_shorter

pub returns : goal.returns
returns c =
    let n : c.copy-at.result ≡ length c.args.left_bytes.now = omega (arith, c.copy-at.ensures.count) in
    let t = c.copy-at.ensures.bytes ∙ fitted c.args.left_bytes.now c.args.out.now c.if-out-left_bytes.false in
    buffers_done c.args.left_bytes.now c.args.right c.args.right_bytes.now c.args.out.now c.requires _ c.buffer_length.ensures _ c.in_ok-n.was c.if-out-left_bytes.false c.if-out-left_bytes-2.false c.copy-at.result n c.copy-at.new.dst t _ _ c.as_buffer.ensures
