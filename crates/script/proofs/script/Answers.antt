-- `script` meets its contract: 20, or the answers at the front of the output.
-- Assumes nothing.
use Rattle.script.proofs.Running.{script_short, script_done}
use Rattle.script.proofs.script.Goals as goal

pub returns-then-out-n : goal.returns-then-out-n
returns-then-out-n c = script_short _ c.args.out.now _ _ c.answers-n.ensures c.if-out-n.true

pub returns : goal.returns
returns c = script_done _ c.args.out.now _ _ c.answers-n.ensures c.if-out-n.false _ _ c.answers.ensures
