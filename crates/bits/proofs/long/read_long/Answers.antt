use mathlib.Core.Path.{◌≡◌, ◌∙◌}
use Prim.Native.Nat.{◌*◌, ◌/◌}
use native.Mathlib.Omega.{arith}
use Rattle.bits.specs.Bits.{bytes_for}
use Rattle.bits.proofs.Turns.{read_rest}
use Rattle.bits.proofs.long.read_long.Goals as goal

pub returns : goal.returns
returns c =
    let a = c.args in
    let l = c.loop-k in
    let e : c.min-full.result / 8 ≡ l.k = omega arith in
    let d : c.div_ceil.result ≡ bytes_for a.length = omega arith in
    c.store_bytes.ensures
    ∙ rw (c.get_at-2.ensures, c.on-2.ensures.at, c.on-2.ensures.r, c.of-p.ensures.at, c.of-p.ensures.r, c.min-n.ensures, c.min.ensures, d, l.auto.out, l.invariant, e)
    (read_rest a.out.now a.s.now a.offset a.length (8 * l.k) (omega arith) (omega arith))
