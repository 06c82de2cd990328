-- A write that stores one unit is absent or complete: its list is the store, or a load and the store, so before its last access it has stored nothing.
-- Assumes nothing.
use Prim.Native.Nat.{ℕ, zero, suc, ◌+◌, ◌<◌}
use native.Mathlib.Omega.{arith}
use native.Mathlib.Decide.{ℕ_discrete}
use mathlib.Core.Path.{◌≡◌, refl, sym, ap, ◌∙◌, subst}
use mathlib.Core.Bool.{Bool, true, false, cond, true≢false}
use mathlib.Core.List.{List, [], ◌∷◌, ◌++◌, append-nil}
use lib.ListN.{length, get_or}
use borrow.Author.Tests.{eqb-false}
use Rattle.types.specs.Refusals.{first_of}
use Rattle.types.specs.declared.flags.FieldUpdateRule.{FieldUpdateRule}
use Rattle.types.specs.declared.flags.FieldUpdateRule.TheVariants as U
use Rattle.std.specs.Prelude.{⊤, Result, Ok, Err}
use Rattle.types.specs.declared.refusal.Refusal.{Refusal}
use Rattle.field_unit.specs.Accesses.{Plan, first, last, units, covered, part_accesses, unit_accesses, accesses_from, accesses}
use Rattle.field_unit.specs.Calls.{plan_of, count_of, access_at}
use Rattle.field_unit.specs.declared.access.Access.TheVariants.{Load, Store}
use Rattle.field_unit.specs.declared.access.FieldOp.{FieldOp}
use Rattle.task.specs.Tasks.{task_at, start_checks, started, step_checks, accessed, is_last, task_after, answer_after}
use Rattle.task.specs.Runs.{Call, start_call, step_call, StoreMade, Moment, store_of, next_store, stored_by, stores_on, called, ran, opening, AbsentOrComplete}
use Rattle.task.specs.declared.table.Task.{Task}
use Rattle.task.proofs.Calls.{StartPassed, start_passed, after_accepted, start_accepted, start_refused, StepPassed, step_passed, step_answer, after_access, step_accepted, step_refused}
use Rattle.task.proofs.Sound.{Sound, sound_fresh, sound_call, set_this, set_other}
use Rattle.task.proofs.Moves.{change_other, change_this, stored_other}

-- a write to one unit
abbrev OneUnit : FieldOp → Type 0
OneUnit o = (o.write ≡ true) × (first (plan_of o) ≡ last (plan_of o))

one_list : (p : Plan) → p.write ≡ true → first p ≡ last p → accesses p ≡ cond (covered p (first p)) (Store (first p) ∷ []) (part_accesses p.rule (first p))
unfolding accesses_from unit_accesses
one_list p w e =
    let n : units p ≡ 1 = omega arith in
    ap (accesses_from p (first p)) n
    ∙ append-nil _
    ∙ ap (λ b. cond b (cond (covered p (first p)) (Store (first p) ∷ []) (part_accesses p.rule (first p))) (Load (first p) ∷ [])) w

-- only its last access stores
only_last : (u : ℕ) (p : Plan) (c : Bool) (r : FieldUpdateRule) (k h : ℕ) → k + 1 < length (cond c (Store u ∷ []) (part_accesses r u))
    → store_of p (get_or (cond c (Store u ∷ []) (part_accesses r u)) k (Load 0)) h ≡ []
only_last u p true r k h l = absurd (omega arith)
only_last u p false U.Preserve zero h l = refl
only_last u p false U.Preserve (suc k) h l = absurd (omega arith)
only_last u p false U.WriteAsOnes k h l = absurd (omega arith)
only_last u p false U.WriteAsZeros k h l = absurd (omega arith)

not_yet : (o : FieldOp) → OneUnit o → (k h : ℕ) → k + 1 < count_of o → store_of (plan_of o) (access_at o k) h ≡ []
not_yet o (w, e) k h l =
    let q = one_list (plan_of o) w e in
    ap (λ a. store_of (plan_of o) (get_or a k (Load 0)) h) q
    ∙ only_last (first (plan_of o)) (plan_of o) (covered (plan_of o) (first (plan_of o))) (plan_of o).rule k h (subst (λ a. k + 1 < length a) q l)

-- ---- so it is at every moment

abbrev Unstored : Task → List StoreMade → Type 0
Unstored k l = k.busy ≡ true → OneUnit k.op → l ≡ []

abbrev AllUnstored : Moment → Type 0
AllUnstored m = (j : ℕ) → Unstored (task_at m.table j) (m.stored j)

start_unstored : (m : Moment) → Sound m.table → AllUnstored m → (i : ℕ) (o : FieldOp) → StartPassed m.table i o → AllUnstored (after_accepted m i o)
start_unstored m s v i o p j = go (ℕ_discrete j i)
  where
    go : Dec (j ≡ i) → Unstored (task_at (after_accepted m i o).table j) ((after_accepted m i o).stored j)
    go (yes e) b q = ap (λ x. (after_accepted m i o).stored x) e ∙ change_this m.stored i []
    go (no n) b q =
        let t = set_other m.table m.table.holder i (started o) j n in
        change_other m.stored i [] j n ∙ v j (sym (ap (λ k. k.busy) t) ∙ b) (subst (λ k. OneUnit k.op) t q)

module _ (m : Moment) (s : Sound m.table) (v : AllUnstored m) (i : ℕ) (p : StepPassed m.table i) where
  abbrev me : Task
  me = task_at m.table i

  abbrev held_now : ℕ
  held_now = (accessed me m.region).held

  abbrev next : Moment
  next = after_access m i

  -- the task itself: idle after its last access, and before it without a store
  this_unstored : (b : Bool) → is_last me ≡ b → Unstored (task_after b me held_now) (stored_by m i (answer_after b me.op.write held_now) i)
  this_unstored true e q w = absurd (true≢false (sym q))
  this_unstored false e q w =
      change_this m.stored i (m.stored i ++ next_store me)
      ∙ ap (λ l. l ++ next_store me) (v i p.busy w)
      ∙ not_yet me.op w me.made me.held (omega (arith, (s.healthy i p.busy).1, eqb-false (me.made + 1) (count_of me.op) e))

  this_now : task_at next.table i ≡ task_after (is_last me) me held_now
  this_now = set_this m.table next.table.holder i (task_after (is_last me) me held_now) (omega (arith, s.four, p.small))

  step_unstored : AllUnstored next
  step_unstored j = go (ℕ_discrete j i)
    where
      go : Dec (j ≡ i) → Unstored (task_at next.table j) (next.stored j)
      go (yes e) b q =
          subst (λ x. Unstored (task_at next.table x) (next.stored x)) (sym e)
          (subst (λ k. Unstored k (next.stored i)) (sym this_now) (this_unstored (is_last me) refl)) b q
      go (no n) b q =
          let t = set_other m.table next.table.holder i (task_after (is_last me) me held_now) j n in
          stored_other m i (step_answer m i) j n ∙ v j (sym (ap (λ k. k.busy) t) ∙ b) (subst (λ k. OneUnit k.op) t q)

call_unstored : (m : Moment) → Sound m.table → AllUnstored m → (c : Call) → AllUnstored (called m c)
call_unstored m s v (start_call i o) = go (first_of (start_checks m.table m.region i o)) refl
  where
    go : (r : Result ⊤ Refusal) → first_of (start_checks m.table m.region i o) ≡ r → AllUnstored (called m (start_call i o))
    go (Ok tt) e = subst AllUnstored (sym (start_accepted m i o e)) (start_unstored m s v i o (start_passed m.table m.region i o e))
    go (Err r) e = subst AllUnstored (sym (start_refused m i o r e)) v
call_unstored m s v (step_call i) = go (first_of (step_checks m.table m.region i)) refl
  where
    go : (r : Result ⊤ Refusal) → first_of (step_checks m.table m.region i) ≡ r → AllUnstored (called m (step_call i))
    go (Ok tt) e = subst AllUnstored (sym (step_accepted m i e)) (step_unstored m s v i (step_passed m.table m.region i e))
    go (Err r) e = subst AllUnstored (sym (step_refused m i r e)) v

run_unstored : (m : Moment) → Sound m.table → AllUnstored m → (cs : List Call) → AllUnstored (ran m cs)
run_unstored m s v [] = v
run_unstored m s v (c ∷ cs) = run_unstored (called m c) (sound_call m s c) (call_unstored m s v c) cs

pub absent_or_complete : AbsentOrComplete
absent_or_complete s cs small i w e r = go (task_at (ran (opening s) cs).table i).busy refl
  where
    go : (b : Bool) → (task_at (ran (opening s) cs).table i).busy ≡ b → cond b (stores_on ((ran (opening s) cs).stored i) r) r ≡ r
    go false q = refl
    go true q = ap (λ l. stores_on l r) (run_unstored (opening s) (sound_fresh (length s) small) (λ j b _. refl) cs i q (w, e))
