-- `operand::bytes_operand` meets its contract: by what the hex pairs say.
-- Assumes nothing.
use Rattle.script.proofs.Reading.{pairs_read, pairs_not}
use Rattle.script.proofs.operand.bytes_operand.Goals as goal

pub returns-in_err-count : goal.returns-in_err-count
returns-in_err-count c = rw c.from_residual.ensures (pairs_not _ _ _ _ c.told-scratch c.in_err-count.ensures)

pub returns : goal.returns
returns c = pairs_read _ _ _ _ c.told-scratch _ c.in_ok-count.ensures
