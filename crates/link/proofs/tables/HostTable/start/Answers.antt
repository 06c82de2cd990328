-- `link::tables::HostTable::start` meets its contract: an accepted start sets the numbers of the one task.
-- Assumes nothing.
use Rattle.link.proofs.Hosted.{start_taken}
use Rattle.link.proofs.tables.HostTable.start.Goals as goal

pub returns-clause-says : goal.returns-clause-says
returns-clause-says c =
    let a = c.args in
    start_taken a.self.now a.region.now a.task c.check.ensures.says c.in_ok-check.was c.from.ensures a.op c.start_task.ensures _ c.in_ok-count.was c.from-2.ensures
