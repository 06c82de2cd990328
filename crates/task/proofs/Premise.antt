-- The premise can be computed: two operations touch a common byte only where each starts before the other ends, so a test of each pair of the four tasks
-- at each moment is enough.
-- Assumes nothing.
use Prim.Native.Nat.{ℕ, zero, suc, ◌+◌, ◌*◌, ◌<◌, ◌≤◌}
use native.Mathlib.Omega.{arith}
use native.Mathlib.Decide.{ℕ_discrete, dec_lt}
use mathlib.Core.Path.{◌≡◌, refl, sym, ap, ◌∙◌, subst}
use mathlib.Core.Logic.{◌⊎◌, inl, inr}
use mathlib.Core.Bool.{Bool, true, false, ◌&&◌, ◌||◌, not, true≢false}
use mathlib.Core.List.{List, [], ◌∷◌}
use lib.Dec.{ltb, eqb}
use lib.ListN.{length, take}
use borrow.Author.Tests.{lt-ltb, ne_eqb}
use Rattle.field_unit.specs.Accesses.{first, last}
use Rattle.field_unit.specs.Calls.{plan_of}
use Rattle.field_unit.specs.declared.access.FieldOp.{FieldOp}
use Rattle.task.specs.Tasks.{task_at, carries_lock}
use Rattle.task.specs.Runs.{Call, Moment, called, ran, opening, Touches, Agreed, AgreedThroughout}
use Rattle.task.specs.declared.table.Task.{Task}
use Rattle.task.specs.declared.table.Table.{Table}
use Rattle.types.proofs.Tests.{and_both, and_true}
use Rattle.task.proofs.Sound.{Sound, sound_fresh, sound_call, beyond}

-- ---- two tasks

abbrev starts_before : FieldOp → FieldOp → Bool
starts_before o q = ltb (first (plan_of o) * (plan_of o).width) ((last (plan_of q) + 1) * (plan_of q).width)

abbrev both_locked : FieldOp → FieldOp → Bool
both_locked o q = carries_lock o && carries_lock q

-- under way together, one of them writing, at a common byte: then both carry the lock rule
abbrev two_agree : Task → Task → Bool
two_agree x y =
    not (x.busy && (y.busy && ((x.op.write || y.op.write) && (starts_before x.op y.op && starts_before y.op x.op))))
    || both_locked x.op y.op

starts_before_lem : (o q : FieldOp) (c : ℕ) → Touches o c → Touches q c → starts_before o q ≡ true
starts_before_lem o q c a b =
    let l : first (plan_of o) * (plan_of o).width < (last (plan_of q) + 1) * (plan_of q).width = omega (arith, a.0, b.1) in
    lt-ltb _ _ l

or_left : (a b : Bool) → (a ≡ true) ⊎ (b ≡ true) → (a || b) ≡ true
or_left true b e = refl
or_left false b (inl e) = absurd (true≢false (sym e))
or_left false b (inr e) = e

or_rest : (a b : Bool) → (not a || b) ≡ true → a ≡ true → b ≡ true
or_rest true b e p = e
or_rest false b e p = absurd (true≢false (sym p))

two_agree_lem : (x y : Task) → two_agree x y ≡ true → x.busy ≡ true → y.busy ≡ true → (c : ℕ) → Touches x.op c → Touches y.op c
    → (x.op.write ≡ true) ⊎ (y.op.write ≡ true) → (carries_lock x.op ≡ true) × (carries_lock y.op ≡ true)
two_agree_lem x y e p q c a b w =
    and_both _ _ (or_rest _ _ e
    (and_true _ _ p (and_true _ _ q (and_true _ _ (or_left x.op.write y.op.write w)
    (and_true _ _ (starts_before_lem x.op y.op c a b) (starts_before_lem y.op x.op c b a))))))

-- ---- the four of a table

abbrev all_below : ℕ → (ℕ → Bool) → Bool
all_below zero f = true
all_below (suc n) f = f n && all_below n f

all_below_lem : (n : ℕ) (f : ℕ → Bool) → all_below n f ≡ true → (i : ℕ) → i < n → f i ≡ true
all_below_lem zero f e i h = absurd (omega arith)
all_below_lem (suc n) f e i h = go (ℕ_discrete i n) (all_below_lem n f (and_both (f n) _ e).1 i)
  where
    go : Dec (i ≡ n) → (i < n → f i ≡ true) → f i ≡ true
    go (yes q) r = ap f q ∙ (and_both (f n) _ e).0
    go (no q) r = r (omega arith)

abbrev pair_agrees : Table → ℕ → ℕ → Bool
pair_agrees t i j = eqb i j || two_agree (task_at t i) (task_at t j)

abbrev pub agreed_test : Table → Bool
agreed_test t = all_below 4 (λ i. all_below 4 (pair_agrees t i))

agreed : (t : Table) → Sound t → agreed_test t ≡ true → Agreed t
agreed t s e i j n p q =
    two_agree_lem (task_at t i) (task_at t j)
    (subst (λ b. (b || two_agree (task_at t i) (task_at t j)) ≡ true) (ne_eqb i j n)
    (all_below_lem 4 (pair_agrees t i) (all_below_lem 4 (λ k. all_below 4 (pair_agrees t k)) e i (busy_four i p)) j (busy_four j q)))
    p q
  where
    busy_four : (k : ℕ) → (task_at t k).busy ≡ true → k < 4
    busy_four k b = go (dec_lt k 4)
      where
        go : Dec (k < 4) → k < 4
        go (yes l) = l
        go (no l) = absurd (true≢false (sym b ∙ ap (λ x. x.busy) (beyond t s.four k (omega arith))))

-- ---- a run's every moment

abbrev pub agreed_from : Moment → List Call → Bool
agreed_from m [] = agreed_test m.table
agreed_from m (c ∷ cs) = agreed_test m.table && agreed_from (called m c) cs

agreed_from_lem : (m : Moment) → Sound m.table → (cs : List Call) → agreed_from m cs ≡ true → (n : ℕ) → Agreed (ran m (take n cs)).table
agreed_from_lem m s [] e zero = agreed m.table s e
agreed_from_lem m s [] e (suc n) = agreed m.table s e
agreed_from_lem m s (c ∷ cs) e zero = agreed m.table s (and_both (agreed_test m.table) _ e).0
agreed_from_lem m s (c ∷ cs) e (suc n) = agreed_from_lem (called m c) (sound_call m s c) cs (and_both (agreed_test m.table) _ e).1 n

pub agreed_throughout : (s : List ℕ) (cs : List Call) → length s ≤ 65536 → agreed_from (opening s) cs ≡ true → AgreedThroughout s cs
agreed_throughout s cs h e = agreed_from_lem (opening s) (sound_fresh (length s) h) cs e
