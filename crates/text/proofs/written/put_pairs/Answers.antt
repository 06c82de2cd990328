use mathlib.Core.Path.{sym, ◌∙◌}
use native.Mathlib.Omega.{arith}
use lib.ListN.{drop, length-set}
use Rattle.text.specs.Written.{hex_text}
use Rattle.text.proofs.Over.{over_past}
use Rattle.text.proofs.Hexes.{hex_step, hex_half, hex_done}
use Rattle.text.proofs.written.put_pairs.Goals as goal

pub returns-then-out-p : goal.returns-then-out-p
returns-then-out-p c =
    let a = c.args in
    sym (over_past c.loop-b.out c.loop-b.p (hex_text (drop c.loop-b.b-index a.bytes.now)) (omega arith)) ∙ c.loop-b.invariant

pub returns-then-out-p-2 : goal.returns-then-out-p-2
returns-then-out-p-2 c =
    let a = c.args in
    let h = c.hex_digit in
    hex_half c.loop-b.out c.loop-b.p a.bytes.now c.loop-b.b-index (omega arith) h.result h.ensures (omega (arith, length-set c.loop-b.out c.loop-b.p h.result)) ∙ c.loop-b.invariant

pub loop-b-preserved : goal.loop-b-preserved
loop-b-preserved c =
    let a = c.args in
    let h = c.hex_digit in
    hex_step c.loop-b.out c.loop-b.p a.bytes.now c.loop-b.b-index (omega arith) h.result c.hex_digit-in-loop-b.result h.ensures c.hex_digit-in-loop-b.ensures ∙ c.loop-b.invariant

pub returns : goal.returns
returns c =
    let a = c.args in
    sym (hex_done c.loop-b.out c.loop-b.p a.bytes.now c.loop-b.b-index (omega arith)) ∙ c.loop-b.invariant
