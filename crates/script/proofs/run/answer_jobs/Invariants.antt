-- `run::answer_jobs` meets its contract. The loop's invariant: what is written so far and the answers to what is left are together the whole.
-- The measure is what is left of the input.
-- Assumes nothing.
use Rattle.script.proofs.Running.{Left}
use lib.ListN.{length}
use mathlib.Core.Path.{◌≡◌}
use Prim.Native.Nat.{◌≤◌, ◌*◌, ◌-◌}
use Rattle.script.proofs.run.answer_jobs.Given as goal

abbrev pub invariant-loop-from : goal.invariant-loop-from
invariant-loop-from l =
    record {
      in_input : l.from ≤ length l.input;
      at_most : l.answers.at ≤ 1060 * l.from;
      same : l.answers.out.ghost_name ≡ l.initial.answers.out.ghost_name;
      left : Left l.input l.initial.answers.out.now l.answers.out.now l.from l.answers.at;
    }

abbrev pub decreases-loop-from : goal.decreases-loop-from
decreases-loop-from l = length l.input - l.from
