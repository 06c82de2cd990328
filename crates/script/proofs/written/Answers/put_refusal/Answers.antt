-- `Answers::put_refusal` meets its contract.
-- Assumes nothing.
use Rattle.script.proofs.Puts.{refusal_puts}
use Rattle.script.proofs.written.Answers.put_refusal.Goals as goal

pub returns : goal.returns
returns c = refusal_puts _ _ _ c.args.r _ c.from.ensures c.put_status.ensures c.put_bytes.ensures
