use Rattle.std.proofs.Common.{refl, arith, rules}
use Rattle.expression.proofs.Comparing.{words_same}
use Rattle.expression.proofs.compare.same_words.Goals as goal

pub loop-i-init : goal.loop-i-init
loop-i-init c = (search rules, search rules, refl)

pub loop-i-preserved : goal.loop-i-preserved
loop-i-preserved c =
    let a = c.args in (
      search rules,
      search rules,
      words_same a.s.now a.t.now c.loop-i.i
          (λ j. (c.type_inv.s j).fits)
          (λ j. (c.type_inv.t j).fits)
          _ _
          c.load-x.ensures
          c.load-y.ensures
          c.if-x-y.false
          c.loop-i.invariant.2
          (omega arith)
          (omega arith),
    )
