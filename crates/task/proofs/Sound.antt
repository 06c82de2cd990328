-- No table that calls reach from a fresh one is malformed. What "malformed" denies is an invariant (Sound): busy tasks have passed the start checks and
-- have an access left, and the holder is just the busy lock-rule task with an access made. A first access under the lock is made only while nobody
-- holds it, and the last access frees it.
-- Assumes nothing.
use Prim.Native.Nat.{ℕ, zero, suc, ◌+◌, ◌<◌, ◌≤◌}
use native.Mathlib.Omega.{arith}
use native.Mathlib.Decide.{ℕ_discrete}
use mathlib.Core.Path.{◌≡◌, refl, sym, ap, ◌∙◌, subst}
use mathlib.Core.Logic.{◌⊎◌, inl, inr}
use mathlib.Core.Bool.{Bool, true, false, cond, not, true≢false}
use mathlib.Core.List.{List, [], ◌∷◌, ◌++◌}
use lib.Dec.{ltb}
use lib.ListN.{length, length-set, get_or-eq_default}
use lib.Seq.{get_or-set_same, get_or-set_other}
use borrow.Author.Tests.{eqb-true, eqb-false, le-ltb, lt-ltb, lt-leb, eq-eqb}
use Rattle.bits.proofs.Laws.{lt_cases}
use Rattle.types.specs.Refusals.{first_of}
use Rattle.std.specs.Prelude.{⊤, Result, Ok, Err}
use Rattle.types.specs.declared.refusal.Refusal.{Refusal}
use Rattle.field_unit.specs.Calls.{count_of, Accepted}
use Rattle.field_unit.specs.declared.access.FieldOp.{FieldOp}
use Rattle.task.specs.Tasks.{idle, task_at, fresh, carries_lock, locks, wrong_holder, bad_task, refused, malformed, start_checks, with_task, started, step_checks, is_last, task_after, holder_after, stepped_table}
use Rattle.task.specs.Runs.{Call, start_call, step_call, Moment, called, ran, opening, NeverMalformed}
use Rattle.task.specs.declared.table.Task.{Task}
use Rattle.task.specs.declared.table.Table.{Table}
use Rattle.types.proofs.Tests.{and_both, and_true, and_no, or_false, not_false}
use Rattle.task.proofs.Accepted.{accepted_count}
use Rattle.task.proofs.Calls.{StartPassed, start_passed, start_accepted, start_refused, StepPassed, step_passed, step_accepted, step_refused}

-- a busy task's field has passed, and it has an access left
abbrev pub Healthy : ℕ → Task → Type 0
Healthy n k = k.busy ≡ true → Accepted k.op n × (k.made < count_of k.op)

pub record Sound (t : Table) : Type 0 where
  pub four : length t.tasks ≡ 4
  pub size : t.size ≤ 65536
  pub healthy : (j : ℕ) → Healthy t.size (task_at t j)
  pub right : (j : ℕ) → locks (task_at t j) ≡ true → t.holder ≡ j
  pub held : (t.holder ≡ 4) ⊎ (locks (task_at t t.holder) ≡ true)

-- ---- a sound table is not malformed

-- h is the number of the one test that holds, or 4 if none does
holder_right : (a b c d : Bool) (h : ℕ) → (a ≡ true → h ≡ 0) → (b ≡ true → h ≡ 1) → (c ≡ true → h ≡ 2) → (d ≡ true → h ≡ 3)
    → (a ≡ false → b ≡ false → c ≡ false → d ≡ false → h ≡ 4)
    → wrong_holder (cond a (0 ∷ []) [] ++ (cond b (1 ∷ []) [] ++ (cond c (2 ∷ []) [] ++ cond d (3 ∷ []) []))) h ≡ false
holder_right true true c d h p q r s n = absurd (omega (arith, p refl, q refl))
holder_right true false true d h p q r s n = absurd (omega (arith, p refl, r refl))
holder_right true false false true h p q r s n = absurd (omega (arith, p refl, s refl))
holder_right true false false false h p q r s n = ap not (eq-eqb h 0 (p refl))
holder_right false true true d h p q r s n = absurd (omega (arith, q refl, r refl))
holder_right false true false true h p q r s n = absurd (omega (arith, q refl, s refl))
holder_right false true false false h p q r s n = ap not (eq-eqb h 1 (q refl))
holder_right false false true true h p q r s n = absurd (omega (arith, r refl, s refl))
holder_right false false true false h p q r s n = ap not (eq-eqb h 2 (r refl))
holder_right false false false true h p q r s n = ap not (eq-eqb h 3 (s refl))
holder_right false false false false h p q r s n = ap not (eq-eqb h 4 (n refl refl refl refl))

pub beyond : (t : Table) → length t.tasks ≡ 4 → (j : ℕ) → 4 ≤ j → task_at t j ≡ idle
beyond t f j p = get_or-eq_default t.tasks idle (omega arith)

module _ (t : Table) (s : Sound t) where
  -- whoever has the lock is one of the four
  locks_four : (j : ℕ) → locks (task_at t j) ≡ true → j < 4
  locks_four j e = lt_cases j 4 (j < 4) (λ h. h) (λ h. absurd (true≢false (sym e ∙ ap locks (beyond t s.four j h))))

  free_holder : locks (task_at t 0) ≡ false → locks (task_at t 1) ≡ false → locks (task_at t 2) ≡ false → locks (task_at t 3) ≡ false → t.holder ≡ 4
  free_holder a b c d = go s.held
    where
      nobody : (j : ℕ) → j < 4 → locks (task_at t j) ≡ false
      nobody zero h = a
      nobody (suc zero) h = b
      nobody (suc (suc zero)) h = c
      nobody (suc (suc (suc zero))) h = d
      nobody (suc (suc (suc (suc j)))) h = absurd (omega arith)

      go : (t.holder ≡ 4) ⊎ (locks (task_at t t.holder) ≡ true) → t.holder ≡ 4
      go (inl e) = e
      go (inr e) = absurd (true≢false (sym e ∙ nobody t.holder (locks_four t.holder e)))

  good_task : (j : ℕ) → bad_task t.size (task_at t j) ≡ false
  good_task j = go (task_at t j).busy refl
    where
      go : (b : Bool) → (task_at t j).busy ≡ b → bad_task t.size (task_at t j) ≡ false
      go true e = let (a, l) = s.healthy j e in rw e (or_false _ _ (ap refused a) (lt-leb _ _ l))
      go false e = rw e refl

  pub not_malformed : malformed t ≡ false
  unfolding malformed
  not_malformed =
      or_false _ _ (le-ltb 65536 t.size s.size)
      (or_false _ _ (good_task 0) (or_false _ _ (good_task 1) (or_false _ _ (good_task 2) (or_false _ _ (good_task 3)
      (holder_right (locks (task_at t 0)) (locks (task_at t 1)) (locks (task_at t 2)) (locks (task_at t 3)) t.holder
      (s.right 0) (s.right 1) (s.right 2) (s.right 3) free_holder)))))

-- ---- a fresh table is sound

pub fresh_idle : (n j : ℕ) → task_at (fresh n) j ≡ idle
fresh_idle n zero = refl
fresh_idle n (suc zero) = refl
fresh_idle n (suc (suc zero)) = refl
fresh_idle n (suc (suc (suc zero))) = refl
fresh_idle n (suc (suc (suc (suc j)))) = refl

pub sound_fresh : (n : ℕ) → n ≤ 65536 → Sound (fresh n)
sound_fresh n h =
    record {
      four = refl;
      size = h;
      healthy = λ j b. absurd (true≢false (sym b ∙ ap (λ k. k.busy) (fresh_idle n j)));
      right = λ j b. absurd (true≢false (sym b ∙ ap locks (fresh_idle n j)));
      held = inl refl;
    }

-- ---- one task changed

pub set_this : (t : Table) (h i : ℕ) (k : Task) → i < length t.tasks → task_at (with_task t h i k) i ≡ k
set_this t h i k p = get_or-set_same t.tasks i k idle p

pub set_other : (t : Table) (h i : ℕ) (k : Task) (j : ℕ) → (j ≡ i → ⊥) → task_at (with_task t h i k) j ≡ task_at t j
set_other t h i k j n = get_or-set_other t.tasks i j k idle n

by_task : (t : Table) (h i : ℕ) (k : Task) → i < length t.tasks → (Q : ℕ → Task → Type 0) → Q i k → ((j : ℕ) → (j ≡ i → ⊥) → Q j (task_at t j))
    → (j : ℕ) → Q j (task_at (with_task t h i k) j)
by_task t h i k p Q q r j = go (ℕ_discrete j i)
  where
    go : Dec (j ≡ i) → Q j (task_at (with_task t h i k) j)
    go (yes e) = subst (λ (x : ℕ). Q x (task_at (with_task t h i k) x)) (sym e) (subst (Q i) (sym (set_this t h i k p)) q)
    go (no n) = subst (Q j) (sym (set_other t h i k j n)) (r j n)

module _ (t : Table) (s : Sound t) (i : ℕ) (small : i < 4) (k : Task) where
  within : i < length t.tasks
  within = omega (arith, s.four)

  -- whoever held the lock still does, where the changed task did not
  still_held : (h : ℕ) → (locks (task_at t i) ≡ true → ⊥) → (t.holder ≡ 4) ⊎ (locks (task_at t t.holder) ≡ true)
      → (t.holder ≡ 4) ⊎ (locks (task_at (with_task t h i k) t.holder) ≡ true)
  still_held h off (inl e) = inl e
  still_held h off (inr e) =
      inr (by_task t h i k within (λ j x. locks (task_at t j) ≡ true → locks x ≡ true) (λ l. absurd (off l)) (λ j n l. l) t.holder e)

-- ---- a start keeps it

pub sound_start : (t : Table) → Sound t → (i : ℕ) (o : FieldOp) → StartPassed t i o → Sound (with_task t t.holder i (started o))
sound_start t s i o p =
    record {
      four = length-set t.tasks i (started o) ∙ s.four;
      size = s.size;
      healthy = by_task t t.holder i (started o) (within t s i p.small (started o)) (λ j. Healthy t.size)
          (λ b. (p.field, accepted_count o t.size p.field)) (λ j n. s.healthy j);
      right = by_task t t.holder i (started o) (within t s i p.small (started o)) (λ j k. locks k ≡ true → t.holder ≡ j)
          (λ b. absurd (true≢false (sym (and_both (carries_lock o) (ltb 0 0) b).1 ∙ le-ltb 0 0 (omega arith)))) (λ j n. s.right j);
      held = still_held t s i p.small (started o) t.holder (λ l. true≢false (sym (and_both _ _ l).0 ∙ p.idle)) s.held;
    }

-- ---- a step keeps it

module _ (t : Table) (s : Sound t) (i : ℕ) (p : StepPassed t i) where
  abbrev me : Task
  me = task_at t i

  -- no other task has the lock where this one carries the rule
  pub no_other : carries_lock me.op ≡ true → (j : ℕ) → (j ≡ i → ⊥) → locks (task_at t j) ≡ true → ⊥
  no_other l j n e = go me.made refl
    where
      go : (k : ℕ) → me.made ≡ k → ⊥
      go zero z =
          let free : t.holder ≡ 4 = eqb-true _ _ (not_false _ (and_no _ _ (and_no _ _ p.turn l) (eq-eqb me.made 0 z))) in
          omega (arith, locks_four t s j e, s.right j e)
      go (suc k) z = n (sym (s.right j e) ∙ s.right i (and_true _ _ p.busy (and_true _ _ l (lt-ltb 0 me.made (omega arith)))))

  module _ (h : ℕ) where
    -- the task after the access, and the table: where it is its last (b), where it carries the lock rule (l)
    abbrev next : Bool → Task
    next b = task_after b me h

    abbrev next_table : Bool → Bool → Table
    next_table b l = with_task t (holder_after l b i t.holder) i (next b)

    next_healthy : (b : Bool) → is_last me ≡ b → Healthy t.size (next b)
    next_healthy true e q = absurd (true≢false (sym q))
    next_healthy false e q =
        let (a, l) = s.healthy i p.busy in
        (a, omega (arith, l, eqb-false (me.made + 1) (count_of me.op) e))

    next_right : (b l : Bool) → carries_lock me.op ≡ l → (j : ℕ) → locks (task_at (next_table b l) j) ≡ true → (next_table b l).holder ≡ j
    next_right b true e =
        by_task t (holder_after true b i t.holder) i (next b) (within t s i p.small (next b))
        (λ j k. locks k ≡ true → holder_after true b i t.holder ≡ j)
        (here b) (λ j n q. absurd (no_other e j n q))
      where
        here : (b : Bool) → locks (next b) ≡ true → holder_after true b i t.holder ≡ i
        here true q = absurd (true≢false (sym q))
        here false q = refl
    next_right b false e =
        by_task t t.holder i (next b) (within t s i p.small (next b)) (λ j k. locks k ≡ true → t.holder ≡ j)
        (λ q. absurd (here b q)) (λ j n. s.right j)
      where
        here : (b : Bool) → locks (next b) ≡ true → ⊥
        here true q = true≢false (sym q)
        here false q = true≢false (sym (and_both (carries_lock me.op) _ q).0 ∙ e)

    next_held : (b l : Bool) → carries_lock me.op ≡ l → ((next_table b l).holder ≡ 4) ⊎ (locks (task_at (next_table b l) (next_table b l).holder) ≡ true)
    next_held true true e = inl refl
    next_held false true e =
        inr (ap locks (set_this t i i (next false) (within t s i p.small (next false))) ∙ and_true _ _ e (lt-ltb 0 (me.made + 1) (omega arith)))
    next_held b false e =
        still_held t s i p.small (next b) t.holder
        (λ q. true≢false (sym (and_both (carries_lock me.op) _ (and_both me.busy _ q).1).0 ∙ e)) s.held

    pub sound_step : Sound (stepped_table t i h)
    sound_step =
        record {
          four = length-set t.tasks i _ ∙ s.four;
          size = s.size;
          healthy = by_task t (next_table (is_last me) (carries_lock me.op)).holder i (next (is_last me))
              (within t s i p.small (next (is_last me))) (λ j. Healthy t.size)
              (next_healthy (is_last me) refl) (λ j n. s.healthy j);
          right = next_right (is_last me) (carries_lock me.op) refl;
          held = next_held (is_last me) (carries_lock me.op) refl;
        }

-- ---- runs

pub sound_call : (m : Moment) → Sound m.table → (c : Call) → Sound (called m c).table
sound_call m s (start_call i o) = go (first_of (start_checks m.table m.region i o)) refl
  where
    go : (r : Result ⊤ Refusal) → first_of (start_checks m.table m.region i o) ≡ r → Sound (called m (start_call i o)).table
    go (Ok tt) e = subst (λ d. Sound d.table) (sym (start_accepted m i o e)) (sound_start m.table s i o (start_passed m.table m.region i o e))
    go (Err r) e = subst (λ d. Sound d.table) (sym (start_refused m i o r e)) s
sound_call m s (step_call i) = go (first_of (step_checks m.table m.region i)) refl
  where
    go : (r : Result ⊤ Refusal) → first_of (step_checks m.table m.region i) ≡ r → Sound (called m (step_call i)).table
    go (Ok tt) e = subst (λ d. Sound d.table) (sym (step_accepted m i e)) (sound_step m.table s i (step_passed m.table m.region i e) _)
    go (Err r) e = subst (λ d. Sound d.table) (sym (step_refused m i r e)) s

pub sound_run : (m : Moment) → Sound m.table → (cs : List Call) → Sound (ran m cs).table
sound_run m s [] = s
sound_run m s (c ∷ cs) = sound_run (called m c) (sound_call m s c) cs

pub never_malformed : NeverMalformed
never_malformed s cs h = not_malformed _ (sound_run (opening s) (sound_fresh (length s) h) cs)
