use mathlib.Core.Path.{sym, ◌∙◌}
use native.Mathlib.Omega.{arith}
use lib.ListN.{drop}
use Rattle.text.proofs.Over.{over_step, over_done, over_past}
use Rattle.text.proofs.written.put_bytes.Goals as goal

pub returns-then-out-p : goal.returns-then-out-p
returns-then-out-p c = sym (over_past c.loop-b.out c.loop-b.p (drop c.loop-b.b-index c.args.bytes.now) (omega arith)) ∙ c.loop-b.invariant

pub loop-b-preserved : goal.loop-b-preserved
loop-b-preserved c = sym (over_step c.loop-b.out c.loop-b.p c.args.bytes.now c.loop-b.b-index (omega arith)) ∙ c.loop-b.invariant

pub returns : goal.returns
returns c = sym (over_done c.loop-b.out c.loop-b.p c.args.bytes.now c.loop-b.b-index (omega arith)) ∙ c.loop-b.invariant
