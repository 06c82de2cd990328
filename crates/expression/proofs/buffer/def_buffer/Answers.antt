-- `buffer::def_buffer` meets its contract: each return is a case of building, in the order 27, the size, 11, 20.
-- Assumes nothing.
use mathlib.Core.Path.{◌≡◌, ◌∙◌}
use native.Mathlib.Omega.{arith}
use lib.ListN.{length}
use Rattle.value.proofs.Giving.{fitted}
use Rattle.expression.proofs.Building.{build_refused, build_no_room, build_done}
use Rattle.std.proofs.lemmas.Result.{err_from_is_err_and}
use Rattle.expression.proofs.buffer.def_buffer.Goals as goal

pub returns-in_err-n : goal.returns-in_err-n
returns-in_err-n c =
    let p = err_from_is_err_and c.from_residual.result c.from_residual.ensures.1 in
    let w = c.in_err-n.was in
    rw (p.1, p.2) (search build_refused)

pub returns-then-out-end : goal.returns-then-out-end
returns-then-out-end c =
    let w0 = c.in_ok-n.was in
    search build_no_room

pub returns : goal.returns
returns c =
    let w = c.in_ok-n.was in
    let n : c.copy-at.result ≡ length c.args.initial.now = omega (arith, c.copy-at.ensures.count) in
    let t = c.copy-at.ensures.bytes ∙ fitted c.args.initial.now c.args.out.now (omega arith) in
    let z = c.fill.ensures.after (λ y e. e) in
    search build_done
