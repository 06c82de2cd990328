-- When a busy task makes its table malformed, and what is known of one where the table is not.
-- Assumes nothing.
use Prim.Native.Nat.{ℕ, zero, suc, ◌<◌}
use native.Mathlib.Omega.{arith}
use mathlib.Core.Path.{◌≡◌, refl, sym, ap, ◌∙◌}
use mathlib.Core.Bool.{Bool, true, false, not, ◌||◌, true≢false}
use lib.Dec.{leb, ltb}
use borrow.Author.Tests.{leb-false}
use Rattle.types.specs.declared.refusal.Refusal.{Refusal}
use Rattle.std.specs.Prelude.{⊤, Result, Ok, Err}
use Rattle.field_unit.specs.Calls.{count_of, checked, Accepted, count}
use Rattle.task.specs.Tasks.{task_at, lockers, wrong_holder, refused, bad_task, malformed}
use Rattle.task.specs.declared.table.Task.{Task}
use Rattle.task.specs.declared.table.Table.{Table}
use Rattle.types.proofs.Tests.{or_none, and_no, not_false}
use Rattle.task.proofs.Counting.{counted_accepted, counted_refused, counted_number}

-- ---- a busy task, by what counting its accesses gives

module _ (k : Task) (n : ℕ) (busy : not k.busy ≡ false) {x : Result ℕ Refusal} (p : x ≡ count k.op n) where
  pub bad_made : (m : ℕ) → x ≡ Ok m → leb m k.made ≡ bad_task n k
  bad_made m h = rw (not_false k.busy busy, counted_accepted k.op n p m h, counted_number k.op n p m h) refl

  pub bad_field : (r : Refusal) → x ≡ Err r → true ≡ bad_task n k
  bad_field r h = rw (not_false k.busy busy, counted_refused k.op n p r h) refl

-- ---- a busy task of a table that is not malformed

-- accepted, and with an access left
pub record UnderWay (n : ℕ) (k : Task) : Type 0 where
  pub accepted : Accepted k.op n
  pub left : k.made < count_of k.op

not_bad : (n : ℕ) (k : Task) → bad_task n k ≡ false → k.busy ≡ true → UnderWay n k
not_bad n k e b =
    let q = or_none (refused (checked k.op n)) (leb (count_of k.op) k.made) (and_no k.busy _ e b) in
    record { accepted = done (checked k.op n) refl q.0; left = leb-false _ _ q.1 }
  where
    done : (c : Result ⊤ Refusal) → checked k.op n ≡ c → refused (checked k.op n) ≡ false → Accepted k.op n
    done (Ok tt) x y = x
    done (Err r) x y = absurd (true≢false (sym (ap refused x) ∙ y))

tasks_none : (a b c d e f : Bool) → (a || (b || (c || (d || (e || f))))) ≡ false → (b ≡ false) × (c ≡ false) × (d ≡ false) × (e ≡ false)
tasks_none true b c d e f h = absurd (true≢false h)
tasks_none false true c d e f h = absurd (true≢false h)
tasks_none false false true d e f h = absurd (true≢false h)
tasks_none false false false true e f h = absurd (true≢false h)
tasks_none false false false false true f h = absurd (true≢false h)
tasks_none false false false false false f h = (refl, refl, refl, refl)

pub not_bad_there : (t : Table) (i : ℕ) → malformed t ≡ false → i < 4 → bad_task t.size (task_at t i) ≡ false
unfolding malformed
not_bad_there t i e h = go i h
  where
    bad : ℕ → Bool
    bad j = bad_task t.size (task_at t j)

    none : (bad 0 ≡ false) × (bad 1 ≡ false) × (bad 2 ≡ false) × (bad 3 ≡ false)
    none = tasks_none (ltb 65536 t.size) (bad 0) (bad 1) (bad 2) (bad 3) (wrong_holder (lockers t) t.holder) e

    go : (j : ℕ) → j < 4 → bad j ≡ false
    go zero l = none.0
    go (suc zero) l = none.1
    go (suc (suc zero)) l = none.2
    go (suc (suc (suc zero))) l = none.3
    go (suc (suc (suc (suc j)))) l = absurd (omega arith)

pub under_way_lem : (t : Table) (i : ℕ) → malformed t ≡ false → i < 4 → (task_at t i).busy ≡ true → UnderWay t.size (task_at t i)
under_way_lem t i e h b = not_bad t.size (task_at t i) (not_bad_there t i e h) b
