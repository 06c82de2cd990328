-- The field's part of the unit begins after the bits before the field, and stands above the field's bits before the unit (gathers).
-- Assumes nothing.
use mathlib.Core.Path.{ap, ◌∙◌}
use Prim.Native.Nat.{ℕ, ◌+◌, ◌/◌, ◌^◌}
use Rattle.bits.specs.Bits.{bit_of, run, put}
use Rattle.field_unit.specs.Calls.{plan_of}
use Rattle.field_unit.proofs.Kept.{unit}
use Rattle.field_unit.proofs.Parts.{gathers}
use Rattle.field_unit.proofs.checked.Checked.gather.Goals as goal

pub returns : goal.returns
returns c =
    let a = c.args in
    let s = a.self in
    let e = c.share-skip.ensures in
    let i = unit s a.u c.requires.0 c.requires.1 in
    c.above.ensures
    ∙ ap (λ (k : ℕ). run (put (bit_of a.held) c.share-skip.result.done c.share-skip.result.n (bit_of (a.x / 2 ^ k))) 0 (c.share-skip.result.done + c.share-skip.result.n)) e.skip
    ∙ rw (e.done, e.n) (gathers (plan_of s.op) a.u a.held a.x (rw s.width_is at i.0) (rw s.width_is at i.1))
