-- `Answers::put_status` meets its contract: three pieces, one behind the other; a number has at most 20 digits.
-- Assumes nothing.
use Rattle.script.proofs.Puts.{status_puts}
use Rattle.script.proofs.written.Answers.put_status.Goals as goal

pub returns : goal.returns
returns c = rw c.from.ensures at (status_puts _ _ _ _ _ c.put_bytes.ensures c.put_decimal.ensures c.put_bytes-2.ensures)
