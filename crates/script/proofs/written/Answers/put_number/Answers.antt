-- `Answers::put_number` meets its contract.
-- Assumes nothing.
use Rattle.script.proofs.Puts.{number_puts}
use Rattle.script.proofs.written.Answers.put_number.Goals as goal

pub returns : goal.returns
returns c = number_puts _ _ c.put_status.ensures _ _ _ c.put_decimal.ensures c.put_bytes.ensures
