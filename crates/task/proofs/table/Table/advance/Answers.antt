-- `task::table::Table::advance` meets its contract: what its one task comes to is what the step is.
-- Assumes nothing.
use Rattle.std.proofs.Common.{rules}
use Rattle.task.proofs.Named.{step_answered, region_moved}
use Rattle.task.proofs.table.Table.advance.Goals as goal

pub returns : goal.returns
returns c =
    let a = c.args in
    let q = step_answered a.self.now a.region.now a.task c.check.ensures.says c.in_ok-check.was c.step_task.ensures.0 in
    let r = region_moved a.self.now a.region.now a.task c.check.ensures.says c.in_ok-check.was c.step_task.ensures.1 in (search rules, r)
