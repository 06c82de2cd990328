-- `Checked::write` meets its contract: each turn makes one unit's accesses, so at the end the whole list is made, and counted.
-- Assumes nothing.
use mathlib.Core.Path.{◌≡◌, ◌∙◌}
use mathlib.Core.Bool.{cond}
use Prim.Native.Nat.{◌+◌}
use native.Mathlib.Omega.{arith}
use Rattle.bits.specs.Bits.{get_bits}
use Rattle.field_unit.specs.Accesses.{base}
use Rattle.field_unit.specs.Calls.{plan_of}
use Rattle.field_unit.proofs.Kept.{small}
use Rattle.field_unit.proofs.Parts.{store_puts}
use Rattle.field_unit.proofs.Turns.{loaded, writing_next, writing_over}
use Rattle.field_unit.proofs.Units.{extra}
use Rattle.field_unit.proofs.Which.{count_few}
use Rattle.field_unit.proofs.checked.Checked.write.Goals as goal
use Rattle.field_unit.proofs.checked.Checked.write.Goals.{then-is_partly, else-is_partly}

pub overflow_add-n-then-is_partly : goal.overflow_add-n-then-is_partly
overflow_add-n-then-is_partly c = let s = c.args.self in omega (arith, c.loop-u.invariant.counted, count_few s, small s)

pub loop-u-preserved : goal.loop-u-preserved
loop-u-preserved c =
    let s = c.args.self in
    let l = c.loop-u in
    let p = plan_of s.op in
    let j = c.if-is_partly in
    let b = c.is_partly.result in
    let made : (j.region ≡ l.region) × ((j.held ≡ cond b (get_bits l.region (base p l.u) p.width) 0) × (j.n ≡ l.n + extra b)) = elim j.branch [
      | then-is_partly w ↦ let h = loaded p l.u 0 _ l.region _ c.requires w.act-held.ensures in rw w.if-is_partly.true (w.region-is ∙ h.0, (w.held-is ∙ h.1, w.n-is))
      | else-is_partly w ↦ rw w.if-is_partly.false (w.region-is, (w.held-is, omega (arith, w.n-is)))
    ] in
    writing_next p c.args.region.now l.region l.u l.n l.invariant c.put.new.region _ _ _ c.requires (omega (arith, c.last-last.ensures, c.loop-u-test.true)) c.is_partly.ensures made.1.0 made.1.1
    (store_puts s.op l.u _ s.width s.width_is l.region _ c.merge.result (rw (← made.0) c.put.ensures) c.merge.ensures)

pub returns : goal.returns
returns c =
    let l = c.loop-u in
    writing_over (plan_of c.args.self.op) c.args.region.now l.region l.u l.n l.invariant (omega (arith, c.last-last.ensures, c.loop-u-test.false))
