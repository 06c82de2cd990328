use mathlib.Core.Path.{◌≡◌, ◌∙◌}
use Prim.Native.Nat.{◌+◌, ◌*◌, ◌%◌}
use native.Mathlib.Omega.{arith}
use Rattle.bits.specs.Bits.{bit_at, with_bits}
use Rattle.bits.proofs.Turns.{self_rest, write_rest}
use Rattle.bits.proofs.long.write_self.Goals as goal

pub returns : goal.returns
returns c =
    let a = c.args in
    let l = c.loop-k in
    let full = c.reach-full.result in
    let f : full % 8 + 8 * l.k ≡ full % 8 = omega arith in
    let e : c.set_at-2.new.s ≡ with_bits a.s.now a.offset (8 * full) (bit_at a.s.now) =
    c.set_at-2.ensures
    ∙ rw (c.word-w-2.ensures, l.invariant, c.of-p.ensures.at, c.of-p.ensures.r, f) (self_rest a.s.now a.offset (8 * full) (full % 8) (omega arith) (omega arith) (omega arith)) in
    c.set_at-3.ensures
    ∙ rw (c.min.ensures, c.word-top.ensures, e, c.on-2.ensures.at, c.on-2.ensures.r, c.of-p.ensures.at, c.of-p.ensures.r)
    (write_rest a.s.now a.s.now a.offset a.length full (omega arith) (omega arith))
