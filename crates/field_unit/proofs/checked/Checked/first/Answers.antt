-- The width is one of four.
-- Assumes nothing.
use Rattle.field_unit.proofs.Kept.{width_ok}
use Rattle.field_unit.proofs.checked.Checked.first.Goals as goal

pub units-requires : goal.units-requires
units-requires c = width_ok c.args.self
