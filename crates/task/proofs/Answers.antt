-- What the code of step_task has at each of its returns is what a step answers by its one task: the checks passed so far decide the definition.
-- Assumes nothing.
use Prim.Native.Nat.{ℕ, ◌+◌, ◌<◌}
use native.Mathlib.Omega.{arith}
use mathlib.Core.Path.{◌≡◌, refl, sym, ap, ◌∙◌}
use mathlib.Core.Bool.{Bool, true, false, cond, not}
use mathlib.Core.List.{List, [], ◌∷◌}
use lib.Dec.{eqb}
use lib.ListN.{length}
use borrow.Author.Tests.{lt-leb, le-leb}
use Rattle.types.specs.Refusals.{first_of, judged}
use Rattle.types.specs.declared.refusal.Refusal.{Refusal}
use Rattle.types.specs.declared.refusal.Refusal.TheVariants as R
use Rattle.std.specs.Prelude.{⊤, Result, Ok, Err, Option, Some, None}
use Rattle.task.specs.declared.table.Step.{Step}
use Rattle.field_unit.specs.Calls.{count_of, Accepted, count, next_access, stepped}
use Rattle.task.specs.Tasks.{idle, carries_lock, bad_task, turn_checks_by, accessed, is_last, task_after, holder_after, answer_after}
use Rattle.task.specs.One.{task_checks, moved_by, stayed, step_task, step_task_region}
use Rattle.task.specs.declared.table.Task.{Task}
use Rattle.types.proofs.Judging.{refused, passed, none, behind_passed, behind_refused, none_holds}
use Rattle.task.proofs.Counting.{counted_accepted, counted_number, not_refused, none_left, one_made}
use Rattle.task.proofs.Malformed.{bad_field, bad_made}

module _ (g i : ℕ) (k : Task) (s : List ℕ) where
  abbrev pub Judged : Result ⊤ Refusal
  Judged = first_of (task_checks (length s) g k)

  -- the task and the region by what the checks come to
  stay : (r : Refusal) → Err r ≡ Judged → stayed k g r ≡ step_task g i k s
  unfolding step_task
  stay r e = ap (λ c. judged c (moved_by k g i (accessed k s).held) (stayed k g)) e

  keep : (r : Refusal) → Err r ≡ Judged → s ≡ step_task_region g k s
  unfolding step_task_region
  keep r e = ap (λ c. judged c (accessed k s).region (λ _. s)) e

  move : Ok tt ≡ Judged → moved_by k g i (accessed k s).held ≡ step_task g i k s
  unfolding step_task
  move e = ap (λ c. judged c (moved_by k g i (accessed k s).held) (stayed k g)) e

  store : Ok tt ≡ Judged → (accessed k s).region ≡ step_task_region g k s
  unfolding step_task_region
  store e = ap (λ c. judged c (accessed k s).region (λ _. s)) e

  module _ {x : Result ⊤ Refusal} (p : x ≡ first_of (turn_checks_by k g)) where
    refused_turn : (r : Refusal) → x ≡ Err r → Err r ≡ Judged
    unfolding task_checks
    refused_turn r h = behind_refused (turn_checks_by k g) _ r p h

    pub step_refused : (r : Refusal) → x ≡ Err r → stayed k g r ≡ step_task g i k s
    step_refused r h = stay r (refused_turn r h)

    pub kept_refused : (r : Refusal) → x ≡ Err r → s ≡ step_task_region g k s
    kept_refused r h = keep r (refused_turn r h)

    module _ (h : x ≡ Ok tt) where
      bad_on : {c : Result ⊤ Refusal} → c ≡ first_of ((bad_task (length s) k, R.MalformedTable) ∷ []) → c ≡ Judged
      unfolding task_checks
      bad_on e = e ∙ behind_passed (turn_checks_by k g) _ p h

      busy : not k.busy ≡ false
      busy = (none_holds (turn_checks_by k g) (sym p ∙ h)).0

      module _ {y : Result ℕ Refusal} (q : y ≡ count k.op (length s)) where
        uncounted : (r : Refusal) → y ≡ Err r → Err R.MalformedTable ≡ Judged
        uncounted r e = bad_on (refused _ _ _ (sym (bad_field k (length s) busy q r e)))

        pub step_uncounted : (r : Refusal) → y ≡ Err r → stayed k g R.MalformedTable ≡ step_task g i k s
        step_uncounted r e = stay _ (uncounted r e)

        pub kept_uncounted : (r : Refusal) → y ≡ Err r → s ≡ step_task_region g k s
        kept_uncounted r e = keep _ (uncounted r e)

        module _ (n : ℕ) (e : y ≡ Ok n) {a : Result (Option ℕ) Refusal} {s' : List ℕ} (w : stepped a s' ≡ next_access s k.op k.made k.held) where
          fits : Accepted k.op (length s)
          fits = counted_accepted k.op (length s) q n e

          number : n ≡ count_of k.op
          number = counted_number k.op (length s) q n e

          -- its field has passed, so the access is not refused
          pub step_passed : (r : Refusal) → a ≡ Err r → ⊥
          step_passed r z = not_refused s k.op k.made k.held w fits r z

          -- none is left
          past : a ≡ Ok None → Err R.MalformedTable ≡ Judged
          past z =
              bad_on (refused _ _ _ (sym (bad_made k (length s) busy q n e) ∙ le-leb n k.made (omega (arith, (none_left s k.op k.made k.held w fits z).0, number))))

          pub step_past : a ≡ Ok None → stayed k g R.MalformedTable ≡ step_task g i k s
          step_past z = stay _ (past z)

          pub kept_past : a ≡ Ok None → s' ≡ step_task_region g k s
          kept_past z = (none_left s k.op k.made k.held w fits z).1 ∙ keep _ (past z)

          -- one is made, and j is what is held after it
          module _ (j : ℕ) (z : a ≡ Ok (Some j)) where
            pub step_left : k.made < n
            step_left = omega (arith, (one_made s k.op k.made k.held w fits j z).0, number)

            done : Ok tt ≡ Judged
            done = bad_on (none ∙ passed _ _ _ (sym (bad_made k (length s) busy q n e) ∙ lt-leb n k.made step_left))

            after : (b : Bool) → cond b idle (record { busy = true; op = k.op; made = k.made + 1; held = j }) ≡ task_after b k j
            after true = refl
            after false = refl

            pub region_made : s' ≡ step_task_region g k s
            region_made = (one_made s k.op k.made k.held w fits j z).2 ∙ store done

            pub step_made : {l : Bool} → l ≡ eqb (k.made + 1) n
                → {t : Task} → t ≡ cond l idle (record { busy = true; op = k.op; made = k.made + 1; held = j })
                → {h : ℕ} → h ≡ holder_after (carries_lock k.op) l i g → {b : Step} → Ok b ≡ answer_after l k.op.write j
                → record { accepted = true; task = t; holder = h; answer = Ok b } ≡ step_task g i k s
            step_made {l} el {t} et {h} eh {b} eb =
                let (_, held, _) = one_made s k.op k.made k.held w fits j z in
                let last : l ≡ is_last k = el ∙ ap (eqb (k.made + 1)) number in
                rw (et ∙ after l, eh, eb, last, held) (move done)
