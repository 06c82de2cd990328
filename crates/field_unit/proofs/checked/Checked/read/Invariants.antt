-- Up to each unit the value is the field's bits before that unit, as far as 64 bits hold them (Joining); once these are the field's and more, the
-- field's own are cut out.
-- Assumes nothing.
use Rattle.field_unit.proofs.Joined.{Joining}
use Rattle.field_unit.proofs.checked.Checked.read.Given as goal

abbrev pub invariant-loop-u : goal.invariant-loop-u
invariant-loop-u l = Joining l.region l.self.width l.self.op.field.offset l.value l.have l.u
