-- A job, line after line: the first line that is wrong ends the run; where none is, the answer is written and what follows the job is left.
-- Assumes nothing.
use mathlib.Core.Path.{◌≡◌, refl, sym, ap, ◌∙◌}
use mathlib.Core.Bool.{Bool, true, false}
use mathlib.Core.List.{List}
use Prim.Native.Nat.{ℕ, ◌+◌, ◌-◌, ◌≤◌, ◌<◌}
use native.Mathlib.Nat.{le_refl}
use native.Mathlib.Omega.{arith}
use lib.Dec.{ltb}
use lib.ListN.{length, take, drop, length-drop}
use lib.Seq.{drop-drop, drop-length}
use Rattle.script.specs.Operands.{operand_of}
use Rattle.script.specs.Ops.{refused_by, answer_of, ops, row_of}
use Rattle.script.specs.Runs.{named, no, next, op_name, a_name, b_name, c_name, value, wrong, fill, operand_line, told, malformed, with_c, with_b, with_op, by_name, job_of}
use Rattle.script.specs.Steps.{read_as, count_of, Tells, Stepped, line_as, Inside, fill_as, operand_as, Within}
use Rattle.std.specs.Prelude.{Option, Some, None}
use Rattle.script.specs.declared.job.OperandLine.{OperandLine}
use Rattle.script.specs.declared.written.Answers.{Answers}
use Rattle.types.specs.declared.refusal.Refusal.TheVariants as R
use Rattle.script.specs.declared.op.Op.{Op}
use Rattle.script.specs.declared.operand.Operand.{Operand}
use Rattle.script.specs.declared.operand.Operand.TheVariants as Vs
use Rattle.script.proofs.Lines.{rest_of_lem}

-- ---- it ends the run
pub stopped : (s : List ℕ) (old new : Answers) → Tells old (refused_by R.MalformedJob) new → Stepped s old malformed new (length s)
stopped s old new p = record { puts = p.puts; rest = drop-length s; some = omega arith; most = le_refl (length s); bound = p.bound }

-- ---- an operand's line

filled : (used : Bool) (a : Option Operand) (end : ℕ) (w s : List ℕ) → operand_as (fill_as used a end) w s ≡ fill used (read_as a w) (drop end s)
filled true (Some (Vs.Value v n)) end w s = refl
filled true (Some Vs.Unused) end w s = refl
filled true None end w s = refl
filled false (Some (Vs.Value v n)) end w s = refl
filled false (Some Vs.Unused) end w s = refl
filled false None end w s = refl

inside : (used : Bool) (a : Option Operand) (end k : ℕ) → count_of a ≤ 256 → 0 < end → end ≤ k → Within (fill_as used a end) k
inside true (Some (Vs.Value v n)) end k h p q = (h, p, q)
inside true (Some Vs.Unused) end k h p q = omega arith
inside true None end k h p q = omega arith
inside false (Some (Vs.Value v n)) end k h p q = omega arith
inside false (Some Vs.Unused) end k h p q = (omega arith, p, q)
inside false None end k h p q = omega arith

none_filled : (used : Bool) (end : ℕ) → fill_as used None end ≡ None
none_filled true end = refl
none_filled false end = refl

module _ (name s : List ℕ) (used : Bool) (r : Option ℕ) (e : (line_as r (length name) s ≡ next name s) × Inside r (length name) (length s)) where
  pub no_operand : r ≡ None → (w : List ℕ) → (operand_as None w s ≡ operand_line name used s) × Within None (length s)
  unfolding operand_line
  no_operand d w = let f : no ≡ next name s = rw d at e.0 in (rw (← f), omega arith)

  module _ (n : ℕ) (d : r ≡ Some n) where
    pub line_inside : (length name ≤ n) × (n < length s)
    line_inside = rw d at e.1

    module _ (a : Option Operand) (w : List ℕ) (f : (read_as a w ≡ operand_of (take (n - length name) (drop (length name) s))) × (count_of a ≤ 256)) where
      pub line_operand : (l : Option OperandLine) → l ≡ fill_as used a (n + 1) → (operand_as l w s ≡ operand_line name used s) × Within l (length s)
      unfolding operand_line
      line_operand l g =
          let i = line_inside in
          let m : named (take (n - length name) (drop (length name) s)) (drop (n + 1) s) ≡ next name s = rw d at e.0 in
          (rw (g, ← m, ← f.0) (filled used a (n + 1) w s), rw g (inside used a (n + 1) (length s) f.1 (omega arith) (omega (arith, i.1))))

      pub bad_operand : a ≡ None → (operand_as None w s ≡ operand_line name used s) × Within None (length s)
      bad_operand g = line_operand None (rw g (sym (none_filled used (n + 1))))

-- ---- the operands of an op
module _ (op : Op) (n : ℕ) (s x : List ℕ) (first : Option OperandLine) (e₁ : (operand_as first x s ≡ operand_line a_name (ltb 0 n) s) × Within first (length s)) where
  pub wrong_a : first ≡ None → with_op op n s ≡ malformed
  unfolding with_op
  wrong_a d = let f : wrong ≡ operand_line a_name (ltb 0 n) s = rw d at e₁.0 in rw (← f)

  module _ (a : OperandLine) (d₁ : first ≡ Some a) where
    pub inside_a : (a.count ≤ 256) × (0 < a.end) × (a.end ≤ length s)
    inside_a = rw d₁ at e₁.1

    after_a : with_op op n s ≡ with_b op n a.value (take a.count x) (operand_line b_name (ltb 1 n) (drop a.end s))
    unfolding with_op
    after_a = let f : value a.value (take a.count x) (drop a.end s) ≡ operand_line a_name (ltb 0 n) s = rw d₁ at e₁.0 in rw (← f)

    module _ (y : List ℕ) (second : Option OperandLine) (e₂ : (operand_as second y (take (length s - a.end) (drop a.end s)) ≡ operand_line b_name (ltb 1 n) (take (length s - a.end) (drop a.end s))) × Within second (length (take (length s - a.end) (drop a.end s)))) where
      f₂ : operand_as second y (drop a.end s) ≡ operand_line b_name (ltb 1 n) (drop a.end s)
      f₂ = rw (rest_of_lem s a.end) at e₂.0

      pub wrong_b : second ≡ None → with_op op n s ≡ malformed
      wrong_b d = let f : wrong ≡ operand_line b_name (ltb 1 n) (drop a.end s) = rw d at f₂ in after_a ∙ rw (← f)

      module _ (b : OperandLine) (d₂ : second ≡ Some b) where
        pub inside_b : (b.count ≤ 256) × (0 < b.end) × (a.end + b.end ≤ length s)
        inside_b =
            let h : (b.count ≤ 256) × (0 < b.end) × (b.end ≤ length (take (length s - a.end) (drop a.end s))) = rw d₂ at e₂.1 in
            (h.0, h.1, omega (arith, h.1, h.2, inside_a.2, ap length (rest_of_lem s a.end), length-drop a.end s))

        after_b : with_op op n s ≡ with_c op a.value (take a.count x) b.value (take b.count y) (operand_line c_name (ltb 2 n) (drop (a.end + b.end) s))
        after_b =
            let f : value b.value (take b.count y) (drop b.end (drop a.end s)) ≡ operand_line b_name (ltb 1 n) (drop a.end s) = rw d₂ at f₂ in
            after_a ∙ rw (← f, drop-drop b.end a.end s)

        module _ (z : List ℕ) (third : Option OperandLine) (e₃ : (operand_as third z (take (length s - (a.end + b.end)) (drop (a.end + b.end) s)) ≡ operand_line c_name (ltb 2 n) (take (length s - (a.end + b.end)) (drop (a.end + b.end) s))) × Within third (length (take (length s - (a.end + b.end)) (drop (a.end + b.end) s)))) where
          f₃ : operand_as third z (drop (a.end + b.end) s) ≡ operand_line c_name (ltb 2 n) (drop (a.end + b.end) s)
          f₃ = rw (rest_of_lem s (a.end + b.end)) at e₃.0

          pub wrong_c : third ≡ None → with_op op n s ≡ malformed
          wrong_c d = let f : wrong ≡ operand_line c_name (ltb 2 n) (drop (a.end + b.end) s) = rw d at f₃ in after_b ∙ rw (← f)

          module _ (c : OperandLine) (d₃ : third ≡ Some c) where
            pub inside_c : (c.count ≤ 256) × (0 < c.end) × (a.end + b.end + c.end ≤ length s)
            inside_c =
                let h : (c.count ≤ 256) × (0 < c.end) × (c.end ≤ length (take (length s - (a.end + b.end)) (drop (a.end + b.end) s))) = rw d₃ at e₃.1 in
                (h.0, h.1, omega (arith, h.1, h.2, inside_b.2, ap length (rest_of_lem s (a.end + b.end)), length-drop (a.end + b.end) s))

            after_c : with_op op n s ≡ told (answer_of op a.value (take a.count x) b.value (take b.count y) c.value (take c.count z)) (drop c.end (drop (a.end + b.end) s))
            after_c =
                let f : value c.value (take c.count z) (drop c.end (drop (a.end + b.end) s)) ≡ operand_line c_name (ltb 2 n) (drop (a.end + b.end) s) = rw d₃ at f₃ in
                after_b ∙ rw (← f)

            pub operands_done : (old new : Answers) → Tells old (answer_of op a.value (take a.count x) b.value (take b.count y) c.value (take c.count z)) new
                → Stepped s old (with_op op n s) new (a.end + b.end + c.end)
            operands_done old new w =
                rw after_c
                (record { puts = w.puts; rest = sym (drop-drop c.end (a.end + b.end) s); some = omega (arith, inside_a.1); most = inside_c.2; bound = w.bound })

-- ---- the op's line
module _ (s : List ℕ) (r : Option ℕ) (e : (line_as r (length op_name) s ≡ next op_name s) × Inside r (length op_name) (length s)) where
  pub no_op : r ≡ None → job_of s ≡ malformed
  unfolding job_of
  no_op d = let f : no ≡ next op_name s = rw d at e.0 in rw (← f)

  module _ (n : ℕ) (d : r ≡ Some n) where
    pub op_inside : (3 ≤ n) × (n < length s)
    op_inside = rw d at e.1

    by_name_lem : job_of s ≡ by_name (row_of ops (take (n - 3) (drop 3 s))) (drop (n + 1) s)
    unfolding job_of
    by_name_lem = let f : named (take (n - 3) (drop 3 s)) (drop (n + 1) s) ≡ next op_name s = rw d at e.0 in rw (← f)

    module _ (found : Option (Op × ℕ)) (f : found ≡ row_of ops (take (n - 3) (drop 3 s))) where
      pub unknown : found ≡ None → job_of s ≡ malformed
      unknown g = by_name_lem ∙ rw (← f, g)

      module _ (op : Op) (m : ℕ) (g : found ≡ Some (op, m)) where
        with_op_lem : job_of s ≡ with_op op m (drop (n + 1) s)
        with_op_lem = by_name_lem ∙ rw (← f, g)

        pub job_malformed : with_op op m (take (length s - (n + 1)) (drop (n + 1) s)) ≡ malformed → job_of s ≡ malformed
        job_malformed h = with_op_lem ∙ (rw (rest_of_lem s (n + 1)) at h)

        pub job_done : (old new : Answers) (used : ℕ)
            → Stepped (take (length s - (n + 1)) (drop (n + 1) s)) old (with_op op m (take (length s - (n + 1)) (drop (n + 1) s))) new used
            → Stepped s old (job_of s) new (n + 1 + used)
        job_done old new used w =
            let v : Stepped (drop (n + 1) s) old (with_op op m (drop (n + 1) s)) new used = rw (rest_of_lem s (n + 1)) at w in
            rw with_op_lem
            (record {
              puts = v.puts;
              rest = sym (drop-drop used (n + 1) s) ∙ v.rest;
              some = omega arith;
              most = omega (arith, op_inside.1, v.most, length-drop (n + 1) s);
              bound = v.bound;
            })
