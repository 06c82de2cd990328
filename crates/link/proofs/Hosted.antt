-- What start and step come to by the one task that they name, as the host's numbers have it, is what they give of the table that the numbers say; and
-- a start counts at most 11 loads and stores. Busy and write that are neither 0 nor 1 leave a field no bits.
-- Assumes nothing.
use Prim.Native.Nat.{ℕ, zero, suc, ◌≤◌, ◌<◌}
use native.Mathlib.Omega.{arith}
use mathlib.Core.Path.{◌≡◌, refl, sym, ap, ◌∙◌}
use mathlib.Core.Bool.{Bool, true, false, not, true≢false}
use mathlib.Core.List.{List}
use lib.ListN.{length, set}
use borrow.Author.Tests.{ltb-false, lt-leb, le-leb}
use Rattle.types.specs.Refusals.{first_of, judged}
use Rattle.types.specs.declared.refusal.Refusal.{Refusal}
use Rattle.std.specs.Prelude.{⊤, Result, Ok, Err, is_ok}
use Rattle.task.specs.declared.table.Step.TheVariants as St
use Rattle.task.specs.declared.table.Step.{Step}
use Rattle.field_unit.specs.declared.access.FieldOp.{FieldOp}
use Rattle.field_unit.specs.Calls.{count_of}
use Rattle.field_unit.proofs.Bounds.{count_most}
use Rattle.task.specs.declared.table.Stepped.{Stepped}
use Rattle.task.specs.declared.table.Started.{Started}
use Rattle.task.specs.Tasks.{call_checks_by, call_checks, op_checks, start, start_checks, started, with_task, step, step_checks, step_region, advanced, accessed, answer_after, task_at}
use Rattle.task.specs.One.{Moved, start_task, task_checks, moved_by, stayed, step_task, step_task_region}
use Rattle.task.specs.declared.table.Task.{Task}
use Rattle.task.specs.declared.table.Table.{Table}
use Rattle.types.proofs.Judging.{none_holds, none_gives}
use Rattle.task.proofs.Named.{call_small, start_unchecked, start_stayed, start_begun, step_unchecked, region_unchecked, step_stayed, step_moved, region_moved}
use Rattle.task.proofs.Sound.{set_this}
use Rattle.link.specs.Tables.{task_of, host_task_at, table_of, numbers_of_task, changed, called, table_after, length_said, start_count, start_answer, started_call, start_call, step_took, step_answer, stepped_call, step_call}
use Rattle.link.specs.declared.tables.HostTask.{HostTask}
use Rattle.link.specs.declared.tables.HostTable.{HostTable}

-- ---- start and step as their checks decide

module _ (t : Table) (s : List ℕ) (i : ℕ) (o : FieldOp) where
  abbrev pub start_by : Result ⊤ Refusal → Started
  start_by c = judged c (record { table = with_task t t.holder i (started o); answer = Ok (count_of o) }) (λ r. record { table = t; answer = Err r })

  pub start_is : start t s i o ≡ start_by (first_of (start_checks t s i o))
  unfolding start
  start_is = refl

module _ (t : Table) (s : List ℕ) (i : ℕ) where
  abbrev pub step_by : Result ⊤ Refusal → Stepped
  step_by c = judged c (advanced t i (accessed (task_at t i) s).held) (λ r. record { table = t; answer = Err r })

  pub step_is : step t s i ≡ step_by (first_of (step_checks t s i))
  unfolding step
  step_is = refl

-- the task that the numbers say
pub task_there : (h : HostTable) (i : ℕ) → i < 4 → task_at (table_of h) i ≡ task_of (host_task_at h i)
task_there h zero q = refl
task_there h (suc zero) q = refl
task_there h (suc (suc zero)) q = refl
task_there h (suc (suc (suc zero))) q = refl
task_there h (suc (suc (suc (suc i)))) q = absurd (omega (arith, q))

-- the host's table with another holder and task
abbrev Next : HostTable → ℕ → ℕ → HostTask → HostTable
Next h g i k = record { size = h.size; holder = g; tasks = set h.tasks i k }

changed_is : (h : HostTable) (g i : ℕ) (k : Task) → i < 4 → changed h i (with_task (table_of h) g i k) ≡ Next h g i (numbers_of_task k)
changed_is h g i k small = ap (λ (x : Task). Next h g i (numbers_of_task x)) (set_this (table_of h) g i k small)

pub took_after : (l w : Bool) (x : ℕ) → step_took (answer_after l w x) ≡ true
took_after true true x = refl
took_after true false x = refl
took_after false w x = refl

took : (a : Step) → step_took (Ok a) ≡ true
took St.More = refl
took St.Done = refl
took (St.Value x) = refl

-- a step refused leaves the lock's holder
holding : (g i : ℕ) (k : Task) (s : List ℕ) → (step_task g i k s).accepted ≡ false → (step_task g i k s).holder ≡ g
unfolding step_task
holding g i k s = go (first_of (task_checks (length s) g k))
  where
    go : (c : Result ⊤ Refusal) → (judged c (moved_by k g i (accessed k s).held) (stayed k g)).accepted ≡ false
        → (judged c (moved_by k g i (accessed k s).held) (stayed k g)).holder ≡ g
    go (Ok tt) e = absurd (true≢false e)
    go (Err r) e = refl

-- a start counts at most 11
pub start_few : (size : ℕ) (busy : Bool) (o : FieldOp) {y : Result ℕ Refusal} → y ≡ start_task size busy o → {n : ℕ} → y ≡ Ok n → n ≤ 11
unfolding start_task
start_few size busy o e {n} q = omega (arith, rw e at (ap start_count (sym q)), go (first_of (op_checks size busy o)) refl)
  where
    go : (c : Result ⊤ Refusal) → first_of (op_checks size busy o) ≡ c → start_count (judged c (Ok (count_of o)) Err) ≤ 11
    go (Ok tt) e = count_most o size (none_gives _ (none_holds (op_checks size busy o) e).1)
    go (Err r) e = omega arith

-- ---- what a table's start and step have at their ends

pub host_small : (m : Bool) (size n i : ℕ) {x : Result ⊤ Refusal} → x ≡ first_of (call_checks_by m size n i) → x ≡ Ok tt → i < 4
host_small m size n i p d = omega (arith, ltb-false 3 i (none_holds (call_checks_by m size n i) (sym p ∙ d)).1.1.0)

module _ (h : HostTable) (s : List ℕ) (i : ℕ) {x : Result ⊤ Refusal} (p : x ≡ first_of (call_checks (table_of h) (length s) i)) where
  pub start_refused : (o : FieldOp) (r : Refusal) → x ≡ Err r → called h (start_answer (Err r)) ≡ start_call h s i o
  start_refused o r z = ap (started_call h i) (start_unchecked (table_of h) s i o p r z)

  pub step_refused : (r : Refusal) → x ≡ Err r → called h (step_answer (Err r)) ≡ step_call h s i
  step_refused r z = ap (stepped_call h i) (step_unchecked (table_of h) s i p r z)

  pub step_kept : (r : Refusal) → x ≡ Err r → s ≡ step_region (table_of h) s i
  step_kept r z = region_unchecked (table_of h) s i p r z

  module _ (d : x ≡ Ok tt) {k : Task} (ek : k ≡ task_of (host_task_at h i)) where
    small : i < 4
    small = call_small (table_of h) (length s) i p d

    there : k ≡ task_at (table_of h) i
    there = ek ∙ sym (task_there h i small)

    module _ (o : FieldOp) {y : Result ℕ Refusal} (ey : y ≡ start_task h.size k.busy o) where
      begun : y ≡ start_task h.size (task_at (table_of h) i).busy o
      begun = ey ∙ ap (λ (b : Task). start_task h.size b.busy o) there

      pub start_kept : (r : Refusal) → y ≡ Err r → called h (start_answer (Err r)) ≡ start_call h s i o
      start_kept r z = ap (started_call h i) (ap (λ (a : Result ℕ Refusal). record { table = table_of h; answer = a }) (sym z) ∙ start_stayed (table_of h) s i o p d begun r z)

      pub start_taken : (n : ℕ) → y ≡ Ok n → {e : HostTask} → e ≡ numbers_of_task (started o) → called (Next h h.holder i e) (start_answer (Ok n)) ≡ start_call h s i o
      start_taken n z ee =
          let u = with_task (table_of h) h.holder i (started o) in
          let next : Next h h.holder i (numbers_of_task (started o)) ≡ changed h i u = sym (changed_is h h.holder i (started o) small) in
          rw (ee, next) (ap (started_call h i) (ap (λ (a : Result ℕ Refusal). record { table = u; answer = a }) (sym z) ∙ start_begun (table_of h) s i o p d begun n z refl))

    module _ {a : Result Step Refusal} {k' : Task} {g : ℕ} (q : record { accepted = is_ok a; task = k'; holder = g; answer = a } ≡ step_task h.holder i k s) where
      abbrev After : Moved
      After = record { accepted = is_ok a; task = k'; holder = g; answer = a }

      moved : After ≡ step_task h.holder i (task_at (table_of h) i) s
      moved = q ∙ ap (λ (b : Task). step_task h.holder i b s) there

      held : is_ok a ≡ false → g ≡ h.holder
      held off = ap (λ (m : Moved). m.holder) q ∙ holding h.holder i k s (sym (ap (λ (m : Moved). m.accepted) q) ∙ off)

      pub step_left : (r : Refusal) → a ≡ Err r → called (record { size = h.size; holder = g; tasks = h.tasks }) (step_answer (Err r)) ≡ step_call h s i
      step_left r z =
          let off : is_ok a ≡ false = ap is_ok z in
          rw (held off) (ap (stepped_call h i) (ap (λ (b : Result Step Refusal). record { table = table_of h; answer = b }) (sym z) ∙ step_stayed (table_of h) s i p d moved (ap not off)))

      pub step_taken : (x : Step) → a ≡ Ok x → {e : HostTask} → e ≡ numbers_of_task k' → called (Next h g i e) (step_answer (Ok x)) ≡ step_call h s i
      step_taken x z ee =
          let u = with_task (table_of h) g i k' in
          let on : is_ok a ≡ true = ap is_ok z in
          let next : Next h g i (numbers_of_task k') ≡ table_after (step_took (Ok x)) h i u = rw (took x) (sym (changed_is h g i k' small)) in
          rw (ee, next) (ap (stepped_call h i) (ap (λ (b : Result Step Refusal). record { table = u; answer = b }) (sym z) ∙ step_moved (table_of h) s i p d moved (ap not on) refl))

      pub step_region_lem : {s' : List ℕ} → s' ≡ step_task_region h.holder k s → s' ≡ step_region (table_of h) s i
      step_region_lem z = region_moved (table_of h) s i p d (z ∙ ap (λ (b : Task). step_task_region h.holder b s) there)

-- ---- busy and write

module _ (busy write size : ℕ) where
  pub busy_wrong : 1 < busy → 0 ≡ length_said busy write size
  busy_wrong h = sym (rw (lt-leb busy 1 h) refl)

  module _ (b : busy ≤ 1) where
    pub write_wrong : 1 < write → 0 ≡ length_said busy write size
    write_wrong h = sym (rw (le-leb busy 1 b, lt-leb write 1 h) refl)

    pub length_right : write ≤ 1 → size ≡ length_said busy write size
    length_right h = sym (rw (le-leb busy 1 b, le-leb write 1 h) refl)
