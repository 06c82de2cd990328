-- `run::answers` meets its contract: too long an input is malformed; else the answers to its jobs.
-- Assumes nothing.
use Rattle.script.proofs.Running.{output_long, output_short, written_as}
use mathlib.Core.Path.{sym}
use borrow.Author.Rules.{rules}
use Rattle.script.proofs.run.answers.Goals as goal

pub returns-then-input-gt65536 : goal.returns-then-input-gt65536
returns-then-input-gt65536 c =
    let same = sym c.malformed.ensures.puts.same in
    rw (output_long c.args.input.now c.if-input-gt65536.true) (written_as _ _ _ _ _ _ c.malformed.ensures.puts.put (search rules))

pub returns : goal.returns
returns c =
    let same = sym c.answer_jobs.ensures.same in
    rw (output_short c.args.input.now c.if-input-gt65536.false) (written_as _ _ _ _ _ _ c.answer_jobs.ensures.put (search rules))
