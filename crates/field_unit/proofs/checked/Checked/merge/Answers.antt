-- Where the field covers the unit, the value's bits are all of it (merges_all); else they are merged between those that the rule gives (merges).
-- Assumes nothing.
use mathlib.Core.Path.{refl, sym, ap, ◌∙◌}
use Prim.Native.Nat.{ℕ, ◌/◌, ◌^◌}
use native.Mathlib.Omega.{arith}
use Rattle.bits.specs.Bits.{bit_of, run, put}
use Rattle.field_unit.specs.Calls.{plan_of}
use Rattle.field_unit.proofs.Parts.{merges_all, merges}
use Rattle.field_unit.proofs.checked.Checked.merge.Goals as goal

pub returns-then-n-self : goal.returns-then-n-self
returns-then-n-self c =
    let a = c.args in
    let s = a.self in
    let e = c.share-skip.ensures in
    rw (e.done, s.width_is)
    (merges_all (plan_of s.op) s.op.value a.u a.held (λ _. refl) (omega (arith, s.width_is, s.wide)) (sym e.n ∙ c.if-n-self.true ∙ s.width_is))

pub returns : goal.returns
returns c =
    let a = c.args in
    let s = a.self in
    let e = c.share-skip.ensures in
    ap (λ (x : ℕ). run (bit_of x) 0 s.width) c.merge.ensures
    ∙ ap (λ (k : ℕ). run (bit_of (run (put (bit_of c.around.result) k c.share-skip.result.n (bit_of (s.op.value / 2 ^ c.share-skip.result.done))) 0 64)) 0 s.width) e.skip
    ∙ rw (e.done, e.n, s.width_is)
    (merges (plan_of s.op) s.op.value a.u a.held c.around.result (λ _. refl) (omega (arith, s.width_is, s.wide))
    (λ k l. rw (← c.rule.ensures) (c.around.ensures k l)))
