-- What the numbers of a table after a call say is the table after it: a task's numbers say the task, and the other tasks' are as they were. And a busy
-- task whose busy or write is neither 0 nor 1 is one that no start accepts.
-- Assumes nothing.
use Prim.Native.Nat.{ℕ, zero, suc, ◌<◌}
use native.Mathlib.Omega.{arith}
use mathlib.Core.Path.{◌≡◌, refl, sym, ap, ◌∙◌}
use mathlib.Core.Bool.{Bool, true, false, cond, ◌&&◌, ◌||◌, true≢false}
use mathlib.Core.List.{List, [], ◌∷◌}
use lib.Dec.{leb, ltb, eqb}
use lib.ListN.{length, get_or, set}
use Rattle.types.specs.Refusals.{first_of, judged}
use Rattle.types.specs.declared.refusal.Refusal.TheVariants as R
use Rattle.std.specs.Prelude.{⊤, Result, Ok, Err}
use Rattle.types.specs.declared.refusal.Refusal.{Refusal}
use Rattle.types.specs.declared.value.RegionSpace.{RegionSpace}
use Rattle.types.specs.declared.value.FieldUnit.{FieldUnit}
use Rattle.field_unit.specs.Checks.{field_checks}
use Rattle.field_unit.specs.Calls.{checked}
use Rattle.field_unit.specs.declared.access.FieldOp.{FieldOp}
use Rattle.task.specs.Tasks.{task_at, fresh, new_table, started, with_task, task_after, holder_after, carries_lock, is_last, accessed, start_checks, step_checks, refused, bad_task, wrong_holder, lockers, malformed}
use Rattle.task.specs.declared.table.Task.{Task}
use Rattle.task.specs.declared.table.Made.{Made}
use Rattle.types.proofs.Judging.{none_holds}
use Rattle.task.proofs.Calls.{start_passed, step_passed}
use Rattle.task.proofs.Sound.{set_this}
use Rattle.types.specs.Spaces.{space_of, space_number}
use Rattle.link.specs.Tables.{truth_of, op_of, length_said, task_of, no_task, host_task_at, table_of, numbers_of_task, changed, fresh_numbers, started_call, stepped_call, NewSays, StartSays, StepSays, DamagedIsMalformed}
use Rattle.link.specs.declared.tables.HostTask.{HostTask}
use Rattle.link.specs.declared.tables.HostTable.{HostTable}
use Rattle.link.proofs.Hosted.{start_by, start_is, step_by, step_is, task_there, took_after}

abbrev new_by : ℕ → Result ⊤ Refusal → Made
new_by n o = judged o (record { table = fresh n; answer = Ok tt }) (λ r. record { table = fresh 0; answer = Err r })

-- ---- a task's numbers say the task

number_back : (n : ℕ) → space_number (space_of n) ≡ n
unfolding space_of
number_back zero = refl
number_back (suc zero) = refl
number_back (suc (suc zero)) = refl
number_back (suc (suc (suc zero))) = refl
number_back (suc (suc (suc (suc zero)))) = refl
number_back (suc (suc (suc (suc (suc zero))))) = refl
number_back (suc (suc (suc (suc (suc (suc zero)))))) = refl
number_back (suc (suc (suc (suc (suc (suc (suc zero))))))) = refl
number_back (suc (suc (suc (suc (suc (suc (suc (suc zero)))))))) = refl
number_back (suc (suc (suc (suc (suc (suc (suc (suc (suc zero))))))))) = refl
number_back (suc (suc (suc (suc (suc (suc (suc (suc (suc (suc n)))))))))) = refl

space_back : (x : RegionSpace) (n : ℕ) → x ≡ space_of n → space_of (space_number x) ≡ x
space_back x n e = ap (λ (y : RegionSpace). space_of (space_number y)) e ∙ ap space_of (number_back n) ∙ sym e

truth_back : (b : Bool) → truth_of (cond b 1 0) ≡ b
truth_back true = refl
truth_back false = refl

length_back : (b w : Bool) (n : ℕ) → length_said (cond b 1 0) (cond w 1 0) n ≡ n
length_back true true n = refl
length_back true false n = refl
length_back false true n = refl
length_back false false n = refl

task_back : (k : Task) (n : ℕ) → k.op.field.space ≡ space_of n → task_of (numbers_of_task k) ≡ k
task_back k n e =
    rw (
      truth_back k.busy,
      truth_back k.op.write,
      length_back k.busy k.op.write k.op.field.length,
      space_back k.op.field.space n e,
    )
    refl

-- ---- one task changed

four : (l : List HostTask) → length l ≡ 4 → (i : ℕ) → i < 4 → (e : HostTask) (k : Task) → task_of e ≡ k
    → task_of (get_or (set l i e) 0 no_task) ∷ task_of (get_or (set l i e) 1 no_task) ∷ task_of (get_or (set l i e) 2 no_task) ∷ task_of (get_or (set l i e) 3 no_task) ∷ []
    ≡ set (task_of (get_or l 0 no_task) ∷ task_of (get_or l 1 no_task) ∷ task_of (get_or l 2 no_task) ∷ task_of (get_or l 3 no_task) ∷ []) i k
four [] p i q e k r = absurd (omega (arith, p))
four (a ∷ []) p i q e k r = absurd (omega (arith, p))
four (a ∷ b ∷ []) p i q e k r = absurd (omega (arith, p))
four (a ∷ b ∷ c ∷ []) p i q e k r = absurd (omega (arith, p))
four (a ∷ b ∷ c ∷ d ∷ f ∷ l) p i q e k r = absurd (omega (arith, p))
four (a ∷ b ∷ c ∷ d ∷ []) p zero q e k r = ap (λ (x : Task). x ∷ task_of b ∷ task_of c ∷ task_of d ∷ []) r
four (a ∷ b ∷ c ∷ d ∷ []) p (suc zero) q e k r = ap (λ (x : Task). task_of a ∷ x ∷ task_of c ∷ task_of d ∷ []) r
four (a ∷ b ∷ c ∷ d ∷ []) p (suc (suc zero)) q e k r = ap (λ (x : Task). task_of a ∷ task_of b ∷ x ∷ task_of d ∷ []) r
four (a ∷ b ∷ c ∷ d ∷ []) p (suc (suc (suc zero))) q e k r = ap (λ (x : Task). task_of a ∷ task_of b ∷ task_of c ∷ x ∷ []) r
four (a ∷ b ∷ c ∷ d ∷ []) p (suc (suc (suc (suc i)))) q e k r = absurd (omega (arith, q))

module _ (h : HostTable) (len : length h.tasks ≡ 4) (i : ℕ) (small : i < 4) where
  changed_says : (g : ℕ) (k : Task) → task_of (numbers_of_task k) ≡ k → table_of (changed h i (with_task (table_of h) g i k)) ≡ with_task (table_of h) g i k
  changed_says g k e =
      let this : task_at (with_task (table_of h) g i k) i ≡ k = set_this (table_of h) g i k small in
      let says : task_of (numbers_of_task (task_at (with_task (table_of h) g i k) i)) ≡ k = ap (λ (x : Task). task_of (numbers_of_task x)) this ∙ e in
      ap (λ (l : List Task). record { size = h.size; holder = g; tasks = l }) (four h.tasks len i small _ k says)

-- ---- a new table, start, step

new_by_lem : (n : ℕ) (o : Result ⊤ Refusal) → table_of (fresh_numbers (new_by n o).table.size) ≡ (new_by n o).table
unfolding space_of
new_by_lem n (Ok tt) = refl
new_by_lem n (Err r) = refl

pub new_says : NewSays
unfolding new_table
new_says n = new_by_lem n (first_of ((ltb 65536 n, R.TooManyBytes) ∷ []))

module _ (h : HostTable) (len : length h.tasks ≡ 4) (s : List ℕ) (i : ℕ) (o : FieldOp) (n : ℕ) (e : o.field.space ≡ space_of n) where
  start_by_lem : (c : Result ⊤ Refusal) → first_of (start_checks (table_of h) s i o) ≡ c
      → table_of (started_call h i (start_by (table_of h) s i o c)).table ≡ (start_by (table_of h) s i o c).table
  start_by_lem (Ok tt) p = changed_says h len i (start_passed (table_of h) s i o p).small h.holder (started o) (task_back (started o) n e)
  start_by_lem (Err r) p = refl

pub start_says : StartSays
start_says h len s i write space flags offset size value =
    let o = op_of write space flags offset size value in
    rw (start_is (table_of h) s i o) (start_by_lem h len s i o space refl (first_of (start_checks (table_of h) s i o)) refl)

after_back : (l : Bool) (k : Task) (x n : ℕ) → k.op.field.space ≡ space_of n → task_of (numbers_of_task (task_after l k x)) ≡ task_after l k x
unfolding space_of
after_back true k x n e = refl
after_back false k x n e = task_back (task_after false k x) n e

module _ (h : HostTable) (len : length h.tasks ≡ 4) (s : List ℕ) (i : ℕ) where
  step_by_lem : (c : Result ⊤ Refusal) → first_of (step_checks (table_of h) s i) ≡ c
      → table_of (stepped_call h i (step_by (table_of h) s i c)).table ≡ (step_by (table_of h) s i c).table
  step_by_lem (Ok tt) p =
      let k = task_at (table_of h) i in
      let x = (accessed k s).held in
      let small = (step_passed (table_of h) s i p).small in
      let there : k.op.field.space ≡ space_of (host_task_at h i).space = ap (λ (y : Task). y.op.field.space) (task_there h i small) in
      rw (took_after (is_last k) k.op.write x)
      (changed_says h len i small (holder_after (carries_lock k.op) (is_last k) i h.holder) (task_after (is_last k) k x) (after_back (is_last k) k x _ there))
  step_by_lem (Err r) p = refl

pub step_says : StepSays
step_says h len s i = rw (step_is (table_of h) s i) (step_by_lem h len s i (first_of (step_checks (table_of h) s i)) refl)

-- ---- a busy task of other numbers

no_bits : (w : Bool) (f : FieldUnit) (size : ℕ) → f.length ≡ 0 → (o : Result ⊤ Refusal) → first_of (field_checks w f size) ≡ o → refused o ≡ true
unfolding field_checks
no_bits w f size e (Err r) p = refl
no_bits w f size e (Ok tt) p =
    let fits : (eqb f.length 0 || ltb 64 f.length) ≡ false = (none_holds (field_checks w f size) p).1.1.1.1.0 in
    absurd (true≢false (sym (rw e refl) ∙ fits))

bad : (k : HostTask) (size : ℕ) → truth_of k.busy ≡ true → (leb k.busy 1 && leb k.write 1) ≡ false → bad_task size (task_of k) ≡ true
bad k size b d =
    let o = (task_of k).op in
    let none : o.field.length ≡ 0 = rw d in
    rw (b, no_bits o.write o.field size none (checked o size) refl) refl

or_left : (a b : Bool) → a ≡ true → (a || b) ≡ true
or_left a b e = rw e

or_right : (a b : Bool) → b ≡ true → (a || b) ≡ true
or_right true b e = refl
or_right false b e = e

-- one bad task of the four
module _ (s a b c d w : Bool) where
  bad_0 : a ≡ true → (s || (a || (b || (c || (d || w))))) ≡ true
  bad_0 e = or_right s (a || (b || (c || (d || w)))) (or_left a (b || (c || (d || w))) e)

  bad_1 : b ≡ true → (s || (a || (b || (c || (d || w))))) ≡ true
  bad_1 e = or_right s (a || (b || (c || (d || w)))) (or_right a (b || (c || (d || w))) (or_left b (c || (d || w)) e))

  bad_2 : c ≡ true → (s || (a || (b || (c || (d || w))))) ≡ true
  bad_2 e =
      or_right s (a || (b || (c || (d || w))))
      (or_right a (b || (c || (d || w))) (or_right b (c || (d || w)) (or_left c (d || w) e)))

  bad_3 : d ≡ true → (s || (a || (b || (c || (d || w))))) ≡ true
  bad_3 e =
      or_right s (a || (b || (c || (d || w))))
      (or_right a (b || (c || (d || w))) (or_right b (c || (d || w)) (or_right c (d || w) (or_left d w e))))

module _ (h : HostTable) where
  abbrev bad_at : ℕ → Bool
  bad_at i = bad_task h.size (task_of (host_task_at h i))

  abbrev wrong : Bool
  wrong = wrong_holder (lockers (table_of h)) h.holder

pub damaged_is_malformed : DamagedIsMalformed
unfolding malformed
damaged_is_malformed h zero q b d = bad_0 (ltb 65536 h.size) (bad_at h 0) (bad_at h 1) (bad_at h 2) (bad_at h 3) (wrong h) (bad (host_task_at h 0) h.size b d)
damaged_is_malformed h (suc zero) q b d = bad_1 (ltb 65536 h.size) (bad_at h 0) (bad_at h 1) (bad_at h 2) (bad_at h 3) (wrong h) (bad (host_task_at h 1) h.size b d)
damaged_is_malformed h (suc (suc zero)) q b d = bad_2 (ltb 65536 h.size) (bad_at h 0) (bad_at h 1) (bad_at h 2) (bad_at h 3) (wrong h) (bad (host_task_at h 2) h.size b d)
damaged_is_malformed h (suc (suc (suc zero))) q b d = bad_3 (ltb 65536 h.size) (bad_at h 0) (bad_at h 1) (bad_at h 2) (bad_at h 3) (wrong h) (bad (host_task_at h 3) h.size b d)
damaged_is_malformed h (suc (suc (suc (suc i)))) q b d = absurd (omega (arith, q))
