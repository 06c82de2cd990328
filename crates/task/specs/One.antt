-- What start and step come to by the one task that they name, for who keeps a table in another form. First come the checks that they make alike,
-- `call_checks_by` of Tasks; where these pass, the rest is of the task, the lock's holder and the region alone.
-- Assumes nothing.
use Rattle.std.specs.Prelude.{ℕ, Bool, true, false, List, [], ◌∷◌, ◌++◌, length, Result, Ok, Err}
use Rattle.types.specs.Refusals.{Checks, first_of, judged}
use Rattle.types.specs.declared.refusal.Refusal.{Refusal}
use Rattle.types.specs.declared.refusal.Refusal.TheVariants as R
use Rattle.field_unit.specs.Calls.{count_of}
use Rattle.field_unit.specs.declared.access.FieldOp.{FieldOp}
use Rattle.task.specs.Tasks.{bad_task, op_checks, turn_checks_by, carries_lock, accessed, is_last, task_after, holder_after, answer_after}
use Rattle.task.specs.declared.table.Task.{Task}
use Rattle.task.specs.declared.table.Step.{Step}

-- ---- a start of a task that is busy or not, on a region of so many bytes

unfoldable pub start_task : ℕ → Bool → FieldOp → Result ℕ Refusal
start_task size busy o = judged (first_of (op_checks size busy o)) (Ok (count_of o)) Err

-- ---- a step

-- whether a step was accepted; the task and the lock's holder after it, as they were where it was not; the answer
pub record Moved : Type 0 where
  pub accepted : Bool
  pub task : Task
  pub holder : ℕ
  pub answer : Result Step Refusal

-- whether it is the task's turn; and, for who says that the table is not malformed, that this task is none that makes it so
unfoldable pub task_checks : ℕ → ℕ → Task → Checks
task_checks size h k = turn_checks_by k h ++ ((bad_task size k, R.MalformedTable) ∷ [])

-- the task, the lock's holder and the answer after the task's next access, after which it holds x
abbrev pub moved_by : Task → ℕ → ℕ → ℕ → Moved
moved_by k h i x =
    record {
      accepted = true;
      task = task_after (is_last k) k x;
      holder = holder_after (carries_lock k.op) (is_last k) i h;
      answer = answer_after (is_last k) k.op.write x;
    }

abbrev pub stayed : Task → ℕ → Refusal → Moved
stayed k h r = record { accepted = false; task = k; holder = h; answer = Err r }

unfoldable pub step_task : ℕ → ℕ → Task → List ℕ → Moved
step_task h i k s = judged (first_of (task_checks (length s) h k)) (moved_by k h i (accessed k s).held) (stayed k h)

unfoldable pub step_task_region : ℕ → Task → List ℕ → List ℕ
step_task_region h k s = judged (first_of (task_checks (length s) h k)) (accessed k s).region (λ _. s)
