-- `link::tables::HostTable::step` meets its contract: what is refused leaves the table, and what is accepted moves its one task.
-- Assumes nothing.
use Rattle.std.proofs.lemmas.Result.{err_from_is_err_and}
use Rattle.link.proofs.Hosted.{step_left, step_taken, step_region_lem}
use Rattle.link.proofs.tables.HostTable.step.Goals as goal

pub returns-in_err-moved : goal.returns-in_err-moved
returns-in_err-moved c =
    let a = c.args in
    let p = err_from_is_err_and c.from_residual-in_err-moved.result c.from_residual-in_err-moved.ensures.1 in
    rw (p.1, p.2) (
      step_left a.self.now a.region.now a.task c.check.ensures.says c.in_ok-check.was c.from-k.ensures c.step_task.ensures.0 _ c.in_err-moved.was,
      step_region_lem a.self.now a.region.now a.task c.check.ensures.says c.in_ok-check.was c.from-k.ensures c.step_task.ensures.0 c.step_task.ensures.1,
    )

pub returns : goal.returns
returns c =
    let a = c.args in (
      step_taken a.self.now a.region.now a.task c.check.ensures.says c.in_ok-check.was c.from-k.ensures c.step_task.ensures.0 _ c.in_ok-moved.was c.from.ensures,
      step_region_lem a.self.now a.region.now a.task c.check.ensures.says c.in_ok-check.was c.from-k.ensures c.step_task.ensures.0 c.step_task.ensures.1,
    )
