-- Each turn makes the accesses of one unit (writing_next), until none is left.
-- Assumes nothing.
use Rattle.field_unit.specs.Calls.{plan_of}
use Rattle.field_unit.proofs.Turns.{Writing}
use Rattle.field_unit.proofs.checked.Checked.write.Given as goal

abbrev pub invariant-loop-u : goal.invariant-loop-u
invariant-loop-u l = Writing (plan_of l.self.op) l.fn.region l.region l.u l.n
