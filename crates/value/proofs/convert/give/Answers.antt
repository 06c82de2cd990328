-- `value::convert::give` meets its contract: refused where the bytes do not fit, and else one copy.
-- Assumes nothing.
use mathlib.Core.Path.{◌≡◌, sym}
use native.Mathlib.Omega.{arith}
use lib.ListN.{length}
use Rattle.value.proofs.Giving.{giving_short, giving_these, copied, fitted}
use Rattle.value.proofs.convert.give.Goals as goal

pub returns-then-out-bytes : goal.returns-then-out-bytes
returns-then-out-bytes c = sym (giving_short _ _ c.if-out-bytes.true)

pub returns : goal.returns
returns c =
    let a = c.args in
    let n : c.copy.result ≡ length a.bytes.now = omega (arith, c.copy.ensures.count) in
    rw (n, c.copy.ensures.bytes, fitted a.bytes.now a.out.now c.if-out-bytes.false, copied a.bytes.now a.out.now)
    (sym (giving_these a.bytes.now a.out.now c.if-out-bytes.false))
