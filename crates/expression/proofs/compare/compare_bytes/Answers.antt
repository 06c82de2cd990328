-- `compare::compare_bytes` meets its contract: what the words left over is compared byte by byte, up to the first that differs or the shorter side's end.
-- Assumes nothing.
use Rattle.std.proofs.Common.{Ok, sym, refl, ap, ◌∙◌, arith, rules}
use Rattle.expression.proofs.Comparing.{byte_decides, byte_alike, ends_decide}
use Rattle.expression.proofs.compare.compare_bytes.Goals as goal

pub loop-i-init : goal.loop-i-init
loop-i-init c = (search rules, search rules, c.same_words-n.ensures.2)

pub returns-then-is_ne : goal.returns-then-is_ne
returns-then-is_ne c = byte_decides _ _ _ c.loop-i.invariant.2 (omega arith) (omega arith) _ _ refl refl _ c.cmp-order.ensures (sym c.is_ne.ensures ∙ c.if-is_ne.true)

pub loop-i-preserved : goal.loop-i-preserved
loop-i-preserved c = (
  search rules,
  search rules,
  byte_alike _ _ _ c.loop-i.invariant.2 (omega arith) (omega arith) _ _ refl refl _ c.cmp-order.ensures (sym c.is_ne.ensures ∙ c.if-is_ne.false),
)

pub returns : goal.returns
returns c = ap Ok c.cmp.ensures ∙ ends_decide _ _ _ c.loop-i.invariant.2 (omega arith) c.loop-i.invariant.0 c.loop-i.invariant.1
