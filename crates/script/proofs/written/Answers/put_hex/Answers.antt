-- `Answers::put_hex` meets its contract.
-- Assumes nothing.
use Rattle.script.proofs.Puts.{hex_puts}
use Rattle.script.proofs.written.Answers.put_hex.Goals as goal

pub returns : goal.returns
returns c = hex_puts _ _ c.put_status.ensures _ _ _ _ _ c.requires.1 c.requires.2 c.put_bytes.ensures c.put_pairs.ensures c.put_bytes-2.ensures
