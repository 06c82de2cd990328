-- Of a table's own holder and task, what start and step come to by their one task is what they answer; and the table after.
-- Assumes nothing.
use Prim.Native.Nat.{ℕ, ◌<◌}
use native.Mathlib.Omega.{arith}
use mathlib.Core.Path.{◌≡◌, refl, sym, ap, ◌∙◌}
use mathlib.Core.Bool.{Bool, true, false, not, true≢false}
use mathlib.Core.List.{List}
use lib.ListN.{length}
use Rattle.std.proofs.lemmas.List.{set-get_or}
use borrow.Author.Tests.{ltb-false, eqb-true}
use Rattle.types.specs.Refusals.{first_of, judged}
use Rattle.types.specs.declared.refusal.Refusal.{Refusal}
use Rattle.std.specs.Prelude.{⊤, Result, Ok, Err}
use Rattle.field_unit.specs.Calls.{count_of}
use Rattle.field_unit.specs.declared.access.FieldOp.{FieldOp}
use Rattle.task.specs.declared.table.Started.{Started}
use Rattle.task.specs.declared.table.Stepped.{Stepped}
use Rattle.task.specs.Tasks.{idle, task_at, bad_task, malformed, call_checks, op_checks, start_checks, with_task, started, start, turn_checks, step_checks, accessed, advanced, step, step_region}
use Rattle.task.specs.One.{Moved, start_task, task_checks, moved_by, stayed, step_task, step_task_region}
use Rattle.task.specs.declared.table.Table.{Table}
use Rattle.types.proofs.Judging.{drop_last, behind_passed, behind_refused, none_holds}
use Rattle.types.proofs.Tests.{not_false}
use Rattle.task.proofs.Malformed.{not_bad_there}

-- ---- what has passed the checks that both make

module _ (t : Table) (n i : ℕ) {x : Result ⊤ Refusal} (p : x ≡ first_of (call_checks t n i)) (h : x ≡ Ok tt) where
  pub call_small : i < 4
  call_small = omega (arith, ltb-false 3 i (none_holds (call_checks t n i) (sym p ∙ h)).1.1.0)

  well : malformed t ≡ false
  well = (none_holds (call_checks t n i) (sym p ∙ h)).1.0

  same : n ≡ t.size
  same = eqb-true _ _ (not_false _ (none_holds (call_checks t n i) (sym p ∙ h)).1.1.1.0)

-- ---- start

module _ (t : Table) (s : List ℕ) (i : ℕ) (o : FieldOp) where
  abbrev start_by : Result ⊤ Refusal → Started
  start_by c = judged c (record { table = with_task t t.holder i (started o); answer = Ok (count_of o) }) (λ r. record { table = t; answer = Err r })

  start_by_lem : (c : Result ⊤ Refusal) → c ≡ first_of (start_checks t s i o) → start_by c ≡ start t s i o
  unfolding start
  start_by_lem c e = ap start_by e

  module _ {x : Result ⊤ Refusal} (p : x ≡ first_of (call_checks t (length s) i)) where
    pub start_unchecked : (r : Refusal) → x ≡ Err r → record { table = t; answer = Err r } ≡ start t s i o
    unfolding start_checks
    start_unchecked r h = start_by_lem (Err r) (behind_refused (call_checks t (length s) i) _ r p h)

    module _ (h : x ≡ Ok tt) {a : Result ℕ Refusal} (q : a ≡ start_task t.size (task_at t i).busy o) where
      abbrev Rest : Result ⊤ Refusal
      Rest = first_of (op_checks t.size (task_at t i).busy o)

      rest : Rest ≡ first_of (start_checks t s i o)
      unfolding start_checks
      rest = behind_passed (call_checks t (length s) i) _ p h

      answered : (c : Result ⊤ Refusal) → Rest ≡ c → a ≡ judged c (Ok (count_of o)) Err
      unfolding start_task
      answered c e = q ∙ ap (λ c. judged c (Ok (count_of o)) Err) e

      pub start_stayed : (r : Refusal) → a ≡ Err r → record { table = t; answer = a } ≡ start t s i o
      start_stayed r z = go Rest refl
        where
          go : (c : Result ⊤ Refusal) → Rest ≡ c → record { table = t; answer = a } ≡ start t s i o
          go (Err y) e = ap (λ (b : Result ℕ Refusal). record { table = t; answer = b }) (answered (Err y) e) ∙ start_by_lem (Err y) (sym e ∙ rest)
          go (Ok tt) e =
              let clash : Err r ≡ Ok (count_of o) = sym z ∙ answered (Ok tt) e in cc

      pub start_begun : (n : ℕ) → a ≡ Ok n → {u : Table} → u ≡ with_task t t.holder i (started o) → record { table = u; answer = a } ≡ start t s i o
      start_begun n z {u} w = go Rest refl
        where
          go : (c : Result ⊤ Refusal) → Rest ≡ c → record { table = u; answer = a } ≡ start t s i o
          go (Ok tt) e = rw (w, answered (Ok tt) e) (start_by_lem (Ok tt) (sym e ∙ rest))
          go (Err y) e =
              let clash : Ok n ≡ Err y = sym z ∙ answered (Err y) e in cc

-- ---- step

module _ (t : Table) (s : List ℕ) (i : ℕ) where
  abbrev step_by : Result ⊤ Refusal → Stepped
  step_by c = judged c (advanced t i (accessed (task_at t i) s).held) (λ r. record { table = t; answer = Err r })

  step_by_lem : (c : Result ⊤ Refusal) → c ≡ first_of (step_checks t s i) → step_by c ≡ step t s i
  unfolding step
  step_by_lem c e = ap step_by e

  abbrev region_by : Result ⊤ Refusal → List ℕ
  region_by c = judged c (accessed (task_at t i) s).region (λ _. s)

  region_by_lem : (c : Result ⊤ Refusal) → c ≡ first_of (step_checks t s i) → region_by c ≡ step_region t s i
  unfolding step_region
  region_by_lem c e = ap region_by e

  module _ {x : Result ⊤ Refusal} (p : x ≡ first_of (call_checks t (length s) i)) where
    unchecked : (r : Refusal) → x ≡ Err r → Err r ≡ first_of (step_checks t s i)
    unfolding step_checks
    unchecked r h = behind_refused (call_checks t (length s) i) _ r p h

    pub step_unchecked : (r : Refusal) → x ≡ Err r → record { table = t; answer = Err r } ≡ step t s i
    step_unchecked r h = step_by_lem (Err r) (unchecked r h)

    pub region_unchecked : (r : Refusal) → x ≡ Err r → s ≡ step_region t s i
    region_unchecked r h = region_by_lem (Err r) (unchecked r h)

    module _ (h : x ≡ Ok tt) where
      abbrev Turn : Result ⊤ Refusal
      Turn = first_of (task_checks (length s) t.holder (task_at t i))

      not_bad : bad_task (length s) (task_at t i) ≡ false
      not_bad = ap (λ n. bad_task n (task_at t i)) (same t (length s) i p h) ∙ not_bad_there t i (well t (length s) i p h) (call_small t (length s) i p h)

      -- the task is none that makes a table malformed, so that check decides nothing
      turn : Turn ≡ first_of (step_checks t s i)
      unfolding task_checks step_checks
      turn = drop_last (turn_checks t i) _ not_bad ∙ behind_passed (call_checks t (length s) i) _ p h

      pub region_moved : {s' : List ℕ} → s' ≡ step_task_region t.holder (task_at t i) s → s' ≡ step_region t s i
      unfolding step_task_region
      region_moved z = z ∙ region_by_lem Turn turn

      module _ {m : Moved} (q : m ≡ step_task t.holder i (task_at t i) s) where
        abbrev judged_by : Result ⊤ Refusal → Moved
        judged_by c = judged c (moved_by (task_at t i) t.holder i (accessed (task_at t i) s).held) (stayed (task_at t i) t.holder)

        moved : (c : Result ⊤ Refusal) → Turn ≡ c → m ≡ judged_by c
        unfolding step_task
        moved c e = q ∙ ap judged_by e

        pub step_stayed : not m.accepted ≡ true → record { table = t; answer = m.answer } ≡ step t s i
        step_stayed z = go Turn refl
          where
            go : (c : Result ⊤ Refusal) → Turn ≡ c → record { table = t; answer = m.answer } ≡ step t s i
            go (Err r) e = ap (λ (y : Moved). record { table = t; answer = y.answer }) (moved (Err r) e) ∙ step_by_lem (Err r) (sym e ∙ turn)
            go (Ok tt) e = absurd (true≢false (sym z ∙ ap (λ (y : Moved). not y.accepted) (moved (Ok tt) e)))

        pub step_moved : not m.accepted ≡ false → {u : Table} → u ≡ with_task t m.holder i m.task → record { table = u; answer = m.answer } ≡ step t s i
        step_moved z {u} w = go Turn refl
          where
            go : (c : Result ⊤ Refusal) → Turn ≡ c → record { table = u; answer = m.answer } ≡ step t s i
            go (Ok tt) e =
                ap (λ (v : Table). record { table = v; answer = m.answer }) w
                ∙ ap (λ (y : Moved). record { table = with_task t y.holder i y.task; answer = y.answer }) (moved (Ok tt) e)
                ∙ step_by_lem (Ok tt) (sym e ∙ turn)
            go (Err r) e = absurd (true≢false (sym (sym z ∙ ap (λ (y : Moved). not y.accepted) (moved (Err r) e))))

        -- either way the table has what the one task has come to: where it stayed, nothing changes
        pub step_answered : record { table = with_task t m.holder i m.task; answer = m.answer } ≡ step t s i
        step_answered = go m.accepted refl
          where
            kept : (c : Result ⊤ Refusal) → Turn ≡ c → m.accepted ≡ false → with_task t m.holder i m.task ≡ t
            kept (Ok tt) e z = absurd (true≢false (sym (sym z ∙ ap (λ (y : Moved). y.accepted) (moved (Ok tt) e))))
            kept (Err r) e z =
                ap (λ (y : Moved). with_task t y.holder i y.task) (moved (Err r) e)
                ∙ ap (λ l. record { size = t.size; holder = t.holder; tasks = l }) (set-get_or t.tasks i idle)

            go : (b : Bool) → m.accepted ≡ b → record { table = with_task t m.holder i m.task; answer = m.answer } ≡ step t s i
            go true z = step_moved (ap not z) refl
            go false z = ap (λ (u : Table). record { table = u; answer = m.answer }) (kept Turn refl z) ∙ step_stayed (ap not z)
