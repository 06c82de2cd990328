-- Document 01, "Four tasks" and the malformed table of "Refusal numbers": what start and step answer, and the table and the region after.
-- Assumes nothing.
use Rattle.std.specs.Prelude.{ℕ, ◌+◌, Bool, true, false, cond, ◌&&◌, ◌||◌, not, List, [], ◌∷◌, ◌++◌, leb, ltb, eqb, length, get_or, set, replicate, ⊤, Result, Ok, Err}
use Rattle.types.specs.Flags.{lock_rule}
use Rattle.types.specs.Refusals.{Checks, first_of, judged}
use Rattle.types.specs.declared.refusal.Refusal.TheVariants as R
use Rattle.task.specs.declared.table.Step.TheVariants as St
use Rattle.task.specs.declared.table.Step.{Step}
use Rattle.types.specs.declared.refusal.Refusal.{Refusal}
use Rattle.types.specs.declared.value.RegionSpace.TheVariants as S
use Rattle.types.specs.declared.value.FieldUnit.{FieldUnit}
use Rattle.field_unit.specs.Checks.{field_checks}
use Rattle.field_unit.specs.Accesses.{Progress, progress, act}
use Rattle.field_unit.specs.Calls.{plan_of, count_of, checked, access_at}
use Rattle.field_unit.specs.declared.access.FieldOp.{FieldOp}
use Rattle.task.specs.declared.table.Task.{Task}
use Rattle.task.specs.declared.table.Table.{Table}
use Rattle.task.specs.declared.table.Started.{Started}
use Rattle.task.specs.declared.table.Stepped.{Stepped}
use Rattle.task.specs.declared.table.Made.{Made}

-- ---- the table

abbrev pub no_field : FieldUnit
no_field = record { space = S.SystemMemory; flags = record { 0 = 0 }; offset = 0; length = 0 }

abbrev pub no_op : FieldOp
no_op = record { write = false; field = no_field; value = 0 }

-- what an idle task's record holds, once a call has idled it
abbrev pub idle : Task
idle = record { busy = false; op = no_op; made = 0; held = 0 }

abbrev pub task_at : Table → ℕ → Task
task_at t i = get_or t.tasks i idle

-- "A fresh table names a region length"; 4 stands for nobody
abbrev pub fresh : ℕ → Table
fresh n = record { size = n; holder = 4; tasks = replicate 4 idle }

-- 27: "a new table's region length, over 65,536 bytes"
unfoldable pub new_table : ℕ → Made
new_table n =
    judged (first_of ((ltb 65536 n, R.TooManyBytes) ∷ [])) (record { table = fresh n; answer = Ok tt })
    (λ r. record { table = fresh 0; answer = Err r })

-- ---- a malformed table

abbrev pub carries_lock : FieldOp → Bool
carries_lock o = lock_rule o.field.flags.0

-- a "busy lock-rule task with an access made"
abbrev pub locks : Task → Bool
locks k = k.busy && (carries_lock k.op && ltb 0 k.made)

-- the numbers of those that are, of tasks 0 to 3
abbrev pub numbers_of : Bool → Bool → Bool → Bool → List ℕ
numbers_of a b c d = cond a (0 ∷ []) [] ++ (cond b (1 ∷ []) [] ++ (cond c (2 ∷ []) [] ++ cond d (3 ∷ []) []))

abbrev pub lockers_of : Task → Task → Task → Task → List ℕ
lockers_of a b c d = numbers_of (locks a) (locks b) (locks c) (locks d)

abbrev pub lockers : Table → List ℕ
lockers t = lockers_of (task_at t 0) (task_at t 1) (task_at t 2) (task_at t 3)

-- "the lock's holder differs from the one busy lock-rule task with an access made (none if there is none; two such is malformed)"
abbrev pub wrong_holder : List ℕ → ℕ → Bool
wrong_holder [] h = not (eqb h 4)
wrong_holder (i ∷ []) h = not (eqb h i)
wrong_holder (i ∷ j ∷ l) h = true

abbrev pub refused : Result ⊤ Refusal → Bool
refused (Ok tt) = false
refused (Err r) = true

-- "a busy task's field fails the start checks, or its accesses made reach its total"
abbrev pub bad_task : ℕ → Task → Bool
bad_task n k = k.busy && (refused (checked k.op n) || leb (count_of k.op) k.made)

-- "its region length is over 65,536; or .."; by the length, the holder and the tasks
abbrev pub malformed_by : ℕ → ℕ → Task → Task → Task → Task → Bool
malformed_by n h a b c d =
    ltb 65536 n || (bad_task n a || (bad_task n b || (bad_task n c || (bad_task n d || wrong_holder (lockers_of a b c d) h))))

unfoldable pub malformed : Table → Bool
malformed t = malformed_by t.size t.holder (task_at t 0) (task_at t 1) (task_at t 2) (task_at t 3)

-- ---- what start and step check alike, of a region of n bytes: "31, 24, 30"; 27 first

-- by whether the table is malformed, and the length that it names
abbrev pub call_checks_by : Bool → ℕ → ℕ → ℕ → Checks
call_checks_by bad size n i =
    (ltb 65536 n, R.TooManyBytes)
    ∷ (bad, R.MalformedTable)
    ∷ (ltb 3 i, R.NoSuchTask)
    ∷ (not (eqb n size), R.RegionLengthDiffers)
    ∷ []

abbrev pub call_checks : Table → ℕ → ℕ → Checks
call_checks t n i = call_checks_by (malformed t) t.size n i

-- ---- start: "31, 24, 30, 25, then the field's order"

-- of a task that is busy or not, and what it is to do
abbrev pub op_checks : ℕ → Bool → FieldOp → Checks
op_checks size busy o = (busy, R.TaskBusy) ∷ field_checks o.write o.field size

unfoldable pub start_checks : Table → List ℕ → ℕ → FieldOp → Checks
start_checks t s i o = call_checks t (length s) i ++ op_checks t.size (task_at t i).busy o

abbrev pub with_task : Table → ℕ → ℕ → Task → Table
with_task t h i k = record { size = t.size; holder = h; tasks = set t.tasks i k }

abbrev pub started : FieldOp → Task
started o = record { busy = true; op = o; made = 0; held = 0 }

-- "accepts a read, or a write of an integer, and reports the count"
unfoldable pub start : Table → List ℕ → ℕ → FieldOp → Started
start t s i o =
    judged (first_of (start_checks t s i o))
    (record { table = with_task t t.holder i (started o); answer = Ok (count_of o) })
    (λ r. record { table = t; answer = Err r })

-- ---- step: "31, 24, 30, 26, 23"

-- "23 is given only for a lock-rule task without an access made, while another holds it"
abbrev pub waits_for : Task → ℕ → Bool
waits_for k h = carries_lock k.op && (eqb k.made 0 && not (eqb h 4))

abbrev pub waits : Table → ℕ → Bool
waits t i = waits_for (task_at t i) t.holder

-- of task k, by the lock's holder
abbrev pub turn_checks_by : Task → ℕ → Checks
turn_checks_by k h = (not k.busy, R.TaskIdle) ∷ (waits_for k h, R.LockHeld) ∷ []

abbrev pub turn_checks : Table → ℕ → Checks
turn_checks t i = turn_checks_by (task_at t i) t.holder

unfoldable pub step_checks : Table → List ℕ → ℕ → Checks
step_checks t s i = call_checks t (length s) i ++ turn_checks t i

-- "performs exactly the next load or store on the region lent with it"
abbrev pub accessed : Task → List ℕ → Progress
accessed k s = act (plan_of k.op) (access_at k.op k.made) (progress s k.held)

abbrev pub is_last : Task → Bool
is_last k = eqb (k.made + 1) (count_of k.op)

-- "The last step .. idles the task"
abbrev pub task_after : Bool → Task → ℕ → Task
task_after true k h = idle
task_after false k h = record { busy = true; op = k.op; made = k.made + 1; held = h }

-- "A lock-rule task takes the lock at its first access and gives it up at its last"
abbrev pub holder_after : Bool → Bool → ℕ → ℕ → ℕ
holder_after true true i h = 4
holder_after true false i h = i
holder_after false l i h = h

-- "answers done (a read with its value)"
abbrev pub answer_after : Bool → Bool → ℕ → Result Step Refusal
answer_after true true h = Ok St.Done
answer_after true false h = Ok (St.Value h)
answer_after false w h = Ok St.More

-- the table after task i's next access, its last or not, after which it holds h
abbrev pub table_after : Table → ℕ → Bool → ℕ → Table
table_after t i last h = with_task t (holder_after (carries_lock (task_at t i).op) last i t.holder) i (task_after last (task_at t i) h)

abbrev pub stepped_table : Table → ℕ → ℕ → Table
stepped_table t i h = table_after t i (is_last (task_at t i)) h

-- what that access gives
abbrev pub advanced : Table → ℕ → ℕ → Stepped
advanced t i h = record { table = stepped_table t i h; answer = answer_after (is_last (task_at t i)) (task_at t i).op.write h }

unfoldable pub step : Table → List ℕ → ℕ → Stepped
step t s i = judged (first_of (step_checks t s i)) (advanced t i (accessed (task_at t i) s).held) (λ r. record { table = t; answer = Err r })

-- the region after a step: with that one access, or as it was
unfoldable pub step_region : Table → List ℕ → ℕ → List ℕ
step_region t s i = judged (first_of (step_checks t s i)) (accessed (task_at t i) s).region (λ _. s)
