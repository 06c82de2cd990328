use mathlib.Core.Path.{◌≡◌, ◌∙◌}
use Prim.Native.Nat.{◌*◌, ◌/◌}
use native.Mathlib.Omega.{arith}
use Rattle.bits.specs.Bits.{bit_at, with_bits}
use Rattle.bits.proofs.Turns.{write_carry, write_rest}
use Rattle.bits.proofs.long.write_long.Goals as goal

pub returns : goal.returns
returns c =
    let a = c.args in
    let l = c.loop-k in
    let f : c.reach-full.result / 8 ≡ l.k = omega arith in
    let e : c.splice_byte.new.s ≡ with_bits a.s.now a.offset (8 * (8 * l.k)) (bit_at a.buf.now) =
    c.splice_byte.ensures
    ∙ rw (l.invariant.0, c.of-p.ensures.at, c.of-p.ensures.r, f) (write_carry a.s.now a.buf.now a.offset a.length l.k l.carry l.invariant.1 (omega arith)) in
    c.set_at.ensures
    ∙ rw (c.min.ensures, c.word.ensures, e, c.on.ensures.at, c.on.ensures.r, c.of-p.ensures.at, c.of-p.ensures.r, f)
    (write_rest a.s.now a.buf.now a.offset a.length (8 * l.k) (omega arith) (omega arith))
