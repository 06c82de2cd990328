-- Each call is a move of the field units' system: refused ones stay, an accepted start begins, an accepted step makes just the next access. That the table
-- is sound gives what a move asks of the lock.
-- Assumes nothing.
use Prim.Native.Nat.{ℕ, suc, ◌+◌, ◌<◌}
use native.Mathlib.Omega.{arith}
use native.Mathlib.Numerals.{add-one}
use mathlib.Core.Path.{◌≡◌, refl, sym, ap, ◌∙◌, subst}
use mathlib.Core.Bool.{Bool, true, false, cond}
use mathlib.Core.List.{List, [], ◌∷◌, ◌++◌, append-nil}
use lib.ListN.{length, take}
use borrow.Author.Tests.{eqb-true, lt-ltb, eq-eqb, ne_eqb}
use Rattle.types.specs.Refusals.{first_of}
use Rattle.std.specs.Prelude.{⊤, Result, Ok, Err}
use Rattle.task.specs.declared.table.Step.TheVariants as St
use Rattle.task.specs.declared.table.Step.{Step}
use Rattle.types.specs.declared.refusal.Refusal.{Refusal}
use Rattle.field_unit.specs.Calls.{plan_of, count_of, access_at}
use Rattle.field_unit.specs.declared.access.FieldOp.{FieldOp}
use Rattle.together.specs.System.{Slot, Ended, Conf, Active, Apart, NextAccess, Move, stay, begin, more, last, Run, then}
use Rattle.task.specs.Tasks.{task_at, carries_lock, start_checks, started, step_checks, accessed, is_last, task_after, answer_after, stepped_table}
use Rattle.task.specs.Runs.{Call, start_call, step_call, StoreMade, Finished, Moment, store_of, next_store, change, ends, stored_by, called, ran, Agreed}
use Rattle.task.specs.declared.table.Task.{Task}
use Rattle.task.specs.declared.table.Table.{Table}
use Rattle.types.proofs.Tests.{and_true}
use Rattle.task.proofs.FieldUnits.{stores_at, last_answer, fields, region_at, held_after}
use Rattle.task.proofs.Calls.{StartPassed, start_passed, after_accepted, start_accepted, start_refused, StepPassed, step_passed, step_answer, after_access, step_accepted, step_refused}
use Rattle.task.proofs.Sound.{Sound, set_this, set_other, no_other, sound_call}

-- ---- a moment, as the system has it

abbrev pub slot_of : Task → List StoreMade → Slot fields
slot_of k l = record { busy = k.busy; op = k.op; made = k.made; held = k.held; done = l }

abbrev pub ended : List Finished → List (Ended fields)
ended [] = []
ended (f ∷ l) = record { op = f.op; got = f.got } ∷ ended l

abbrev pub view : Moment → Conf fields
view m = record { slots = λ i. slot_of (task_at m.table i) (m.stored i); state = m.region; log = ended m.finished }

ended_append : (a b : List Finished) → ended (a ++ b) ≡ ended a ++ ended b
ended_append [] b = refl
ended_append (f ∷ a) b = ap (λ l. record { op = f.op; got = f.got } ∷ l) (ended_append a b)

-- ---- one task changed

pub change_other : (f : ℕ → List StoreMade) (i : ℕ) (l : List StoreMade) (j : ℕ) → (j ≡ i → ⊥) → change f i l j ≡ f j
change_other f i l j n = ap (λ b. cond b l (f j)) (ne_eqb j i n)

pub change_this : (f : ℕ → List StoreMade) (i : ℕ) (l : List StoreMade) → change f i l i ≡ l
change_this f i l = ap (λ b. cond b l (f i)) (eq-eqb i i refl)

pub stored_other : (m : Moment) (i : ℕ) (a : Result Step Refusal) (j : ℕ) → (j ≡ i → ⊥) → stored_by m i a j ≡ m.stored j
stored_other m i (Ok St.More) j n = change_other m.stored i _ j n
stored_other m i (Ok St.Done) j n = change_other m.stored i _ j n
stored_other m i (Ok (St.Value v)) j n = change_other m.stored i _ j n
stored_other m i (Err r) j n = refl

-- ---- a step

-- a last step's answer ends the operation
ends_with : (o : FieldOp) (h : ℕ) → ended (ends o (last_answer o h)) ≡ record { op = o; got = last_answer o h } ∷ []
ends_with o h = go o.write
  where
    go : (w : Bool) → ended (ends o (cond w (Ok St.Done) (Ok (St.Value h)))) ≡ record { op = o; got = cond w (Ok St.Done) (Ok (St.Value h)) } ∷ []
    go true = refl
    go false = refl

answer_last : (o : FieldOp) (h : ℕ) → answer_after true o.write h ≡ last_answer o h
answer_last o h = go o.write
  where
    go : (w : Bool) → answer_after true w h ≡ cond w (Ok St.Done) (Ok (St.Value h))
    go true = refl
    go false = refl

module _ (m : Moment) (s : Sound m.table) (i : ℕ) (p : StepPassed m.table i) where
  abbrev t : Table
  t = m.table

  abbrev me : Task
  me = task_at t i

  -- what is held after the access; the task and the holder after it
  abbrev held_now : ℕ
  held_now = (accessed me m.region).held

  abbrev task_now : Task
  task_now = task_after (is_last me) me held_now

  abbrev holder_now : ℕ
  holder_now = (stepped_table t i held_now).holder

  left : me.made < count_of me.op
  left = (s.healthy i p.busy).1

  within : i < length t.tasks
  within = omega (arith, s.four, p.small)

  stores_now : next_store me ≡ stores_at me.op me.made me.held
  stores_now = sym (ap (λ y. cond y (store_of (plan_of me.op) (access_at me.op me.made) me.held) []) (lt-ltb me.made (count_of me.op) left))

  free : me.made ≡ 0 → carries_lock me.op ≡ true → (j : ℕ) → (j ≡ i → ⊥) → Active fields ((view m).slots j) → carries_lock (task_at t j).op ≡ true → ⊥
  free z l j n a k = no_other t s i p l j n (and_true _ _ a.0 (and_true _ _ k (lt-ltb 0 (task_at t j).made a.1)))

  next_access : NextAccess fields (view m) (view (after_access m i)) i
  next_access =
      record {
        busy = p.busy;
        others = λ j n.
            let e = set_other t holder_now i task_now j n in
            λ x. slot_of (e x) (stored_other m i (step_answer m i) j n x);
        state = region_at me.op me.made me.held m.region left;
        free = free;
      }

  -- the task's own record after the access
  here_now : task_at (after_access m i).table i ≡ task_now
  here_now = set_this t holder_now i task_now within

  held_now_lem : held_now ≡ fields.load me.op me.made me.held m.region
  held_now_lem = held_after me.op me.made me.held m.region left

  step_more : is_last me ≡ false → Move fields (view m) (view (after_access m i))
  step_more e =
      more i next_access
      (λ x. record {
        busy = (task x).busy;
        op = (task x).op;
        made = (ap (λ k. k.made) task ∙ add-one me.made) x;
        held = (ap (λ k. k.held) task ∙ held_now_lem) x;
        done = (ap (λ a. stored_by m i a i) answer ∙ change_this m.stored i (m.stored i ++ next_store me) ∙ ap (λ l. m.stored i ++ l) stores_now) x;
      })
      (ap (λ a. ended (m.finished ++ ends me.op a)) answer ∙ ap ended (append-nil m.finished))
    where
      task : task_at (after_access m i).table i ≡ record { busy = true; op = me.op; made = me.made + 1; held = held_now }
      task = here_now ∙ ap (λ b. task_after b me held_now) e

      answer : step_answer m i ≡ Ok St.More
      answer = ap (λ b. answer_after b me.op.write held_now) e

  step_last : is_last me ≡ true → Move fields (view m) (view (after_access m i))
  step_last e =
      last i next_access
      (ap (λ k. k.busy) (here_now ∙ ap (λ b. task_after b me held_now) e))
      (sym (add-one me.made) ∙ eqb-true _ _ e)
      (ended_append m.finished _ ∙ ap (λ l. ended m.finished ++ l) (ap (λ a. ended (ends me.op a)) answer ∙ ends_with me.op _))
    where
      answer : step_answer m i ≡ last_answer me.op (fields.load me.op me.made me.held m.region)
      answer =
          ap (λ b. answer_after b me.op.write held_now) e
          ∙ answer_last me.op held_now
          ∙ ap (last_answer me.op) held_now_lem

  step_move : Move fields (view m) (view (after_access m i))
  step_move = go (is_last me) refl
    where
      go : (b : Bool) → is_last me ≡ b → Move fields (view m) (view (after_access m i))
      go false e = step_more e
      go true e = step_last e

-- ---- a start

start_move : (m : Moment) → Sound m.table → (i : ℕ) (o : FieldOp) → StartPassed m.table i o → Move fields (view m) (view (after_accepted m i o))
start_move m s i o p =
    let e = set_this m.table m.table.holder i (started o) (omega (arith, s.four, p.small)) in
    begin i o p.idle
    (λ j n. λ x. slot_of (set_other m.table m.table.holder i (started o) j n x) (change_other m.stored i [] j n x))
    (λ x. slot_of (e x) (change_this m.stored i [] x))
    refl refl

-- ---- any call

pub move : (m : Moment) → Sound m.table → (c : Call) → Move fields (view m) (view (called m c))
move m s (start_call i o) = go (first_of (start_checks m.table m.region i o)) refl
  where
    go : (r : Result ⊤ Refusal) → first_of (start_checks m.table m.region i o) ≡ r → Move fields (view m) (view (called m (start_call i o)))
    go (Ok tt) e =
        subst (λ d. Move fields (view m) (view d)) (sym (start_accepted m i o e)) (start_move m s i o (start_passed m.table m.region i o e))
    go (Err r) e = subst (λ d. Move fields (view m) (view d)) (sym (start_refused m i o r e)) (stay (λ j. refl) refl refl)
move m s (step_call i) = go (first_of (step_checks m.table m.region i)) refl
  where
    go : (r : Result ⊤ Refusal) → first_of (step_checks m.table m.region i) ≡ r → Move fields (view m) (view (called m (step_call i)))
    go (Ok tt) e = subst (λ d. Move fields (view m) (view d)) (sym (step_accepted m i e)) (step_move m s i (step_passed m.table m.region i e))
    go (Err r) e = subst (λ d. Move fields (view m) (view d)) (sym (step_refused m i r e)) (stay (λ j. refl) refl refl)

-- a run from m, after moves from c
pub follow : (c : Conf fields) (m : Moment) → Sound m.table → Run fields (Apart fields) c (view m) → (cs : List Call)
    → ((n : ℕ) → Agreed (ran m (take n cs)).table) → Run fields (Apart fields) c (view (ran m cs))
follow c m s r [] a = r
follow c m s r (x ∷ cs) a = follow c (called m x) (sound_call m s x) (then r (move m s x) (a 1)) cs (λ n. a (suc n))
