-- What a call leaves, where it is accepted and where it is refused: the checks decide, so each case is one equation.
-- Assumes nothing.
use Prim.Native.Nat.{ℕ, ◌<◌}
use native.Mathlib.Omega.{arith}
use mathlib.Core.Path.{◌≡◌, refl}
use mathlib.Core.Bool.{true, false}
use mathlib.Core.List.{List, [], ◌++◌, append-nil}
use borrow.Author.Tests.{ltb-false}
use Rattle.types.specs.Refusals.{first_of}
use Rattle.types.specs.declared.refusal.Refusal.{Refusal}
use Rattle.std.specs.Prelude.{Result, Ok, Err}
use Rattle.task.specs.declared.table.Step.{Step}
use Rattle.field_unit.specs.Calls.{Accepted}
use Rattle.field_unit.specs.declared.access.FieldOp.{FieldOp}
use Rattle.task.specs.Tasks.{task_at, malformed, start_checks, with_task, started, start, waits, step_checks, accessed, is_last, answer_after, stepped_table, step, step_region}
use Rattle.task.specs.Runs.{start_call, step_call, Moment, change, ends, stored_by, called}
use Rattle.task.specs.declared.table.Table.{Table}
use Rattle.types.proofs.Judging.{none_holds, none_gives}
use Rattle.types.proofs.Tests.{not_false}

-- ---- a start

-- what an accepted start has passed
pub record StartPassed (t : Table) (i : ℕ) (o : FieldOp) : Type 0 where
  pub well : malformed t ≡ false
  pub small : i < 4
  pub idle : (task_at t i).busy ≡ false
  pub field : Accepted o t.size

pub start_passed : (t : Table) (s : List ℕ) (i : ℕ) (o : FieldOp) → first_of (start_checks t s i o) ≡ Ok tt → StartPassed t i o
unfolding start_checks
start_passed t s i o e =
    let n = none_holds (start_checks t s i o) e in
    record {
      well = n.1.0;
      small = omega (arith, ltb-false 3 i n.1.1.0);
      idle = n.1.1.1.1.0;
      field = none_gives _ n.1.1.1.1.1;
    }

abbrev pub after_accepted : Moment → ℕ → FieldOp → Moment
after_accepted m i o =
    record {
      table = with_task m.table m.table.holder i (started o);
      region = m.region;
      finished = m.finished;
      stored = change m.stored i [];
    }

pub start_accepted : (m : Moment) (i : ℕ) (o : FieldOp) → first_of (start_checks m.table m.region i o) ≡ Ok tt
    → called m (start_call i o) ≡ after_accepted m i o
unfolding start
start_accepted m i o e = rw e refl

pub start_refused : (m : Moment) (i : ℕ) (o : FieldOp) (r : Refusal) → first_of (start_checks m.table m.region i o) ≡ Err r
    → called m (start_call i o) ≡ m
unfolding start
start_refused m i o r e = rw e refl

-- ---- a step

pub record StepPassed (t : Table) (i : ℕ) : Type 0 where
  pub well : malformed t ≡ false
  pub small : i < 4
  pub busy : (task_at t i).busy ≡ true
  pub turn : waits t i ≡ false

pub step_passed : (t : Table) (s : List ℕ) (i : ℕ) → first_of (step_checks t s i) ≡ Ok tt → StepPassed t i
unfolding step_checks
step_passed t s i e =
    let n = none_holds (step_checks t s i) e in
    record {
      well = n.1.0;
      small = omega (arith, ltb-false 3 i n.1.1.0);
      busy = not_false _ n.1.1.1.1.0;
      turn = n.1.1.1.1.1.0;
    }

abbrev pub step_answer : Moment → ℕ → Result Step Refusal
step_answer m i =
    answer_after (is_last (task_at m.table i)) (task_at m.table i).op.write (accessed (task_at m.table i) m.region).held

abbrev pub after_access : Moment → ℕ → Moment
after_access m i =
    record {
      table = stepped_table m.table i (accessed (task_at m.table i) m.region).held;
      region = (accessed (task_at m.table i) m.region).region;
      finished = m.finished ++ ends (task_at m.table i).op (step_answer m i);
      stored = stored_by m i (step_answer m i);
    }

pub step_accepted : (m : Moment) (i : ℕ) → first_of (step_checks m.table m.region i) ≡ Ok tt → called m (step_call i) ≡ after_access m i
unfolding step step_region
step_accepted m i e = rw e refl

pub step_refused : (m : Moment) (i : ℕ) (r : Refusal) → first_of (step_checks m.table m.region i) ≡ Err r → called m (step_call i) ≡ m
unfolding step step_region
step_refused m i r e = rw e (λ k. record { table = m.table; region = m.region; finished = append-nil m.finished k; stored = m.stored })
