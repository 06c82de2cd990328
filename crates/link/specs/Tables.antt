-- The task table as a host keeps it: a struct of numbers alone, which goes in by value and comes back beside the answer. Any numbers are a table.
-- Busy and write are 0 or 1: a busy task of other numbers has a field of no bits, which no start accepts, so that its table is malformed, 31.
-- Assumes nothing.
use Rattle.std.specs.Prelude.{ℕ, ◌<◌, ◌≡◌, Bool, true, false, not, cond, ◌&&◌, List, [], ◌∷◌, eqb, leb, length, get_or, set}
use Rattle.types.specs.Values.{type_number_of}
use Rattle.types.specs.declared.value.AmlType.TheVariants as AT
use Rattle.field_unit.specs.declared.access.FieldOp.{FieldOp}
use Rattle.task.specs.Tasks as T
use Rattle.task.specs.declared.table.Stepped.{Stepped}
use Rattle.task.specs.declared.table.Started.{Started}
use Rattle.task.specs.declared.table.Task.{Task}
use Rattle.task.specs.declared.table.Table.{Table}
use Rattle.std.specs.Prelude.{Result, Ok, Err}
use Rattle.task.specs.declared.table.Step.TheVariants as St
use Rattle.task.specs.declared.table.Step.{Step}
use Rattle.types.specs.declared.refusal.Refusal.{Refusal}
use Rattle.link.specs.Answers.{accepted, refused_by, outcome_answer}
use Rattle.types.specs.Spaces.{space_number}
use Rattle.link.specs.Fields.{field_of}
use Rattle.link.specs.declared.answer.Answer.{Answer}
use Rattle.link.specs.declared.tables.HostTask.{HostTask}
use Rattle.link.specs.declared.tables.HostTable.{HostTable}
use Rattle.link.specs.declared.tables.Called.{Called}

-- ---- a host's numbers as a table

-- 0 is false, all else true
abbrev pub truth_of : ℕ → Bool
truth_of n = not (eqb n 0)

abbrev pub op_of : ℕ → ℕ → ℕ → ℕ → ℕ → ℕ → FieldOp
op_of write space flags offset size value = record { write = truth_of write; field = field_of space flags offset size; value = value }

-- the field's length; none where busy or write is neither 0 nor 1
abbrev pub length_said : ℕ → ℕ → ℕ → ℕ
length_said busy write size = cond (leb busy 1 && leb write 1) size 0

abbrev pub task_of : HostTask → Task
task_of k = record {
  busy = truth_of k.busy;
  op = op_of k.write k.space k.flags k.offset (length_said k.busy k.write k.length) k.value;
  made = k.made;
  held = k.held;
}

abbrev pub no_task : HostTask
no_task = record { busy = 0; write = 0; space = 0; flags = 0; offset = 0; length = 0; value = 0; made = 0; held = 0 }

abbrev pub host_task_at : HostTable → ℕ → HostTask
host_task_at h i = get_or h.tasks i no_task

abbrev pub table_of : HostTable → Table
table_of h = record {
  size = h.size;
  holder = h.holder;
  tasks = task_of (host_task_at h 0) ∷ task_of (host_task_at h 1) ∷ task_of (host_task_at h 2) ∷ task_of (host_task_at h 3) ∷ [];
}

-- ---- and back

abbrev pub numbers_of_task : Task → HostTask
numbers_of_task k = record {
  busy = cond k.busy 1 0;
  write = cond k.op.write 1 0;
  space = space_number k.op.field.space;
  flags = k.op.field.flags.0;
  offset = k.op.field.offset;
  length = k.op.field.length;
  value = k.op.value;
  made = k.made;
  held = k.held;
}

-- the host's table with the holder and the task i of another; all else as it was
abbrev pub changed : HostTable → ℕ → Table → HostTable
changed h i t = record { size = h.size; holder = t.holder; tasks = set h.tasks i (numbers_of_task (T.task_at t i)) }

abbrev pub fresh_numbers : ℕ → HostTable
fresh_numbers n = record { size = n; holder = 4; tasks = no_task ∷ no_task ∷ no_task ∷ no_task ∷ [] }

-- ---- calls: a refusal leaves the host's table as it was

abbrev pub called : HostTable → Answer → Called
called h a = record { table = h; answer = a }

-- a new table, or one for no bytes beside the refusal
abbrev pub new_call : ℕ → Called
new_call n = called (fresh_numbers (T.new_table n).table.size) (outcome_answer (T.new_table n).answer)

-- changed where the call was accepted
abbrev pub table_after : Bool → HostTable → ℕ → Table → HostTable
table_after true h i t = changed h i t
table_after false h i t = h

abbrev pub start_took : Result ℕ Refusal → Bool
start_took (Ok n) = true
start_took (Err r) = false

abbrev pub start_count : Result ℕ Refusal → ℕ
start_count (Ok n) = n
start_count (Err r) = 0

-- the count of loads and stores to come
unfoldable pub start_answer : Result ℕ Refusal → Answer
start_answer (Ok n) = accepted 0 n 0
start_answer (Err r) = refused_by r

abbrev pub started_call : HostTable → ℕ → Started → Called
started_call h i r = called (table_after (start_took r.answer) h i r.table) (start_answer r.answer)

abbrev pub start_call : HostTable → List ℕ → ℕ → FieldOp → Called
start_call h s i o = started_call h i (T.start (table_of h) s i o)

abbrev pub step_took : Result Step Refusal → Bool
step_took (Ok St.More) = true
step_took (Ok St.Done) = true
step_took (Ok (St.Value x)) = true
step_took (Err r) = false

-- count 1: more to come; 0: the last access was made, and a read has its value
unfoldable pub step_answer : Result Step Refusal → Answer
step_answer (Ok St.More) = accepted 0 1 0
step_answer (Ok St.Done) = accepted 0 0 0
step_answer (Ok (St.Value x)) = accepted (type_number_of AT.Integer) 0 x
step_answer (Err r) = refused_by r

abbrev pub stepped_call : HostTable → ℕ → Stepped → Called
stepped_call h i r = called (table_after (step_took r.answer) h i r.table) (step_answer r.answer)

abbrev pub step_call : HostTable → List ℕ → ℕ → Called
step_call h s i = stepped_call h i (T.step (table_of h) s i)

-- ---- what the numbers after a call say is the table after it

abbrev pub NewSays : Type 0
NewSays = (n : ℕ) → table_of (new_call n).table ≡ (T.new_table n).table

abbrev pub StartSays : Type 0
StartSays =
    (h : HostTable) → length h.tasks ≡ 4 → (s : List ℕ) (i write space flags offset size value : ℕ)
    → table_of (start_call h s i (op_of write space flags offset size value)).table
    ≡ (T.start (table_of h) s i (op_of write space flags offset size value)).table

abbrev pub StepSays : Type 0
StepSays = (h : HostTable) → length h.tasks ≡ 4 → (s : List ℕ) (i : ℕ) → table_of (step_call h s i).table ≡ (T.step (table_of h) s i).table

-- a busy task whose busy or write is neither 0 nor 1 makes the table malformed, 31
abbrev pub DamagedIsMalformed : Type 0
DamagedIsMalformed =
    (h : HostTable) (i : ℕ) → i < 4 → truth_of (host_task_at h i).busy ≡ true → (leb (host_task_at h i).busy 1 && leb (host_task_at h i).write 1) ≡ false
    → T.malformed (table_of h) ≡ true
