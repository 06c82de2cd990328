-- The units, one more for a first unit that is loaded first, and one more for such a last unit.
-- Assumes nothing.
use Rattle.field_unit.proofs.Which.{total_one, total_many}
use Rattle.field_unit.proofs.checked.Checked.count.Goals as goal

pub returns-then-first-last : goal.returns-then-first-last
returns-then-first-last c =
    total_one c.args.self c.first-first.ensures c.last-last.ensures c.is_partly.ensures c.from.ensures c.if-first-last.true

pub returns : goal.returns
returns c =
    total_many c.args.self c.first-first.ensures c.last-last.ensures c.is_partly.ensures c.from.ensures c.if-first-last.false c.is_partly-2.ensures c.from-2.ensures
