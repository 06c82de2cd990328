-- The run: each job uses some of the input, so any count that reaches is as good as another; what is written and what is left are together the whole.
-- Assumes nothing.
use mathlib.Core.Path.{◌≡◌, refl, sym, ap, ◌∙◌}
use mathlib.Core.Bool.{Bool, true, false}
use mathlib.Core.List.{List, [], ◌∷◌, ◌++◌}
use Prim.Native.Nat.{ℕ, zero, suc, ◌+◌, ◌-◌, ◌≤◌, ◌<◌}
use native.Mathlib.Omega.{arith}
use borrow.Author.Tests.{lt-ltb, le-ltb}
use lib.Dec.{ltb}
use lib.ListN.{length, take, drop, length-append, length-drop, drop_of_length-le}
use lib.Seq.{drop-drop}
use Rattle.types.specs.declared.refusal.Refusal.TheVariants as R
use Rattle.types.specs.declared.value.AmlValue.{AmlValue}
use Rattle.value.specs.Conversions.{given, into}
use Rattle.std.specs.Prelude.{Ok, Err, Option, Some, None}
use Rattle.value.proofs.Giving.{giving_short, giving_these}
use Rattle.text.specs.Written.{over}
use Rattle.text.proofs.Over.{over_append, over_none, over_past, over_front}
use Rattle.script.specs.Operands.{Operand, operand, unused, bad, operand_of}
use Rattle.script.specs.Ops.{ops, row_of}
use Rattle.script.specs.Runs.{Named, named, no, next, op_name, a_name, b_name, c_name, Read, value, wrong, fill, fill_named, operand_line, malformed, with_c, with_b, with_a, with_op, by_name, op_line, job_of, answers_to, output, script}
use Rattle.script.specs.Steps.{Put, Stepped}
use Rattle.script.specs.declared.written.Answers.{Answers}
use Rattle.script.specs.declared.op.Op.{Op}
use Rattle.script.proofs.Lines.{rest_of_lem, rest_of, shorter_next}

-- ---- what is left after a job is shorter

abbrev read_rest : Read → List ℕ
read_rest (value v l rest) = rest
read_rest wrong = []

shorter_fill : (u : Bool) (o : Operand) (rest : List ℕ) → length (read_rest (fill u o rest)) ≤ length rest
shorter_fill true (operand v l) rest = omega arith
shorter_fill true unused rest = omega arith
shorter_fill true bad rest = omega arith
shorter_fill false (operand v l) rest = omega arith
shorter_fill false unused rest = omega arith
shorter_fill false bad rest = omega arith

shorter_filled : (u : Bool) (x : Named) → length (read_rest (fill_named u x)) ≤ length (rest_of x)
shorter_filled u (named l rest) = shorter_fill u (operand_of l) rest
shorter_filled u no = omega arith

shorter_operand : (name : List ℕ) (u : Bool) (s : List ℕ) → length (read_rest (operand_line name u s)) ≤ length s
unfolding operand_line
shorter_operand name u s = omega (arith, shorter_filled u (next name s), shorter_next name s)

shorter_c : (op : Op) (a : AmlValue) (s : List ℕ) (b : AmlValue) (t : List ℕ) (r : Read) → length (with_c op a s b t r).rest ≤ length (read_rest r)
shorter_c op a s b t (value c u rest) = omega arith
shorter_c op a s b t wrong = omega arith

shorter_b : (op : Op) (n : ℕ) (a : AmlValue) (s : List ℕ) (r : Read) → length (with_b op n a s r).rest ≤ length (read_rest r)
shorter_b op n a s (value b t rest) = omega (arith, shorter_c op a s b t (operand_line c_name (ltb 2 n) rest), shorter_operand c_name (ltb 2 n) rest)
shorter_b op n a s wrong = omega arith

shorter_a : (op : Op) (n : ℕ) (r : Read) → length (with_a op n r).rest ≤ length (read_rest r)
shorter_a op n (value a s rest) = omega (arith, shorter_b op n a s (operand_line b_name (ltb 1 n) rest), shorter_operand b_name (ltb 1 n) rest)
shorter_a op n wrong = omega arith

shorter_op : (op : Op) (n : ℕ) (s : List ℕ) → length (with_op op n s).rest ≤ length s
unfolding with_op
shorter_op op n s = omega (arith, shorter_a op n (operand_line a_name (ltb 0 n) s), shorter_operand a_name (ltb 0 n) s)

shorter_name : (x : Option (Op × ℕ)) (rest : List ℕ) → length (by_name x rest).rest ≤ length rest
shorter_name (Some p) rest = shorter_op p.0 p.1 rest
shorter_name None rest = omega arith

shorter_line : (x : Named) → length (op_line x).rest ≤ length (rest_of x)
shorter_line (named l rest) = shorter_name (row_of ops l) rest
shorter_line no = omega arith

pub shorter : (s : List ℕ) → length (job_of s).rest ≤ length s - 1
unfolding job_of
shorter s = omega (arith, shorter_line (next op_name s), shorter_next op_name s)

-- ---- job after job

abbrev pub answers : List ℕ → List ℕ
answers s = answers_to (length s) s

pub none_left : (n : ℕ) → answers_to n [] ≡ []
unfolding answers_to
none_left zero = refl
none_left (suc n) = refl

no_jobs : (m : ℕ) (s : List ℕ) → length s ≤ 0 → answers_to m s ≡ []
no_jobs m [] h = none_left m
no_jobs m (c ∷ s) h = absurd (omega arith)

-- a count that reaches is as good as another
one_more : (n m : ℕ) → ((t : List ℕ) → length t ≤ n → length t ≤ m → answers_to n t ≡ answers_to m t)
    → (s : List ℕ) → length s ≤ suc n → length s ≤ suc m → answers_to (suc n) s ≡ answers_to (suc m) s
unfolding answers_to
one_more n m f [] h k = refl
one_more n m f (c ∷ s) h k =
    let l = shorter (c ∷ s) in
    ap (λ (x : List ℕ). (job_of (c ∷ s)).text ++ x) (f (job_of (c ∷ s)).rest (omega arith) (omega arith))

same_answers : (n m : ℕ) (s : List ℕ) → length s ≤ n → length s ≤ m → answers_to n s ≡ answers_to m s
same_answers zero m s h k = no_jobs zero s h ∙ sym (no_jobs m s h)
same_answers (suc n) zero s h k = no_jobs (suc n) s k ∙ sym (no_jobs zero s k)
same_answers (suc n) (suc m) s h k = one_more n m (same_answers n m) s h k

answers_more : (s : List ℕ) → 0 < length s → answers s ≡ (job_of s).text ++ answers (job_of s).rest
unfolding answers_to
answers_more [] h = absurd (omega arith)
answers_more (c ∷ s) h =
    let l = shorter (c ∷ s) in
    ap (λ (x : List ℕ). (job_of (c ∷ s)).text ++ x) (same_answers (length s) (length (job_of (c ∷ s)).rest) (job_of (c ∷ s)).rest (omega arith) (omega arith))

-- from and at are the places in the input and in the output: what is written so far and the answers to what is left are together the whole
abbrev pub Left : List ℕ → List ℕ → List ℕ → ℕ → ℕ → Type 0
Left input out₀ out from at =
    (over out at (answers (drop from input)) ≡ over out₀ 0 (answers input)) × (at + length (answers (drop from input)) ≡ length (answers input))

pub left_begin : (input out : List ℕ) → Left input out out 0 0
left_begin input out = (refl, omega arith)

module _ (input out₀ : List ℕ) (old : Answers) (from : ℕ) (l : Left input out₀ old.out.now from old.at) where
  pub left_step : from < length input → (new : Answers) (used : ℕ)
      → Stepped (take (length input - from) (drop from input)) old (job_of (take (length input - from) (drop from input))) new used
      → Left input out₀ new.out.now (from + used) new.at
  left_step h new used w =
      let v : Stepped (drop from input) old (job_of (drop from input)) new used = rw (rest_of_lem input from) at w in
      let t = (job_of (drop from input)).text in
      let r : (job_of (drop from input)).rest ≡ drop (from + used) input = sym v.rest ∙ drop-drop used from input in
      let m : answers (drop from input) ≡ t ++ answers (drop (from + used) input)
      = answers_more (drop from input) (omega (arith, length-drop from input)) ∙ ap (λ (x : List ℕ). t ++ answers x) r in
      let p = v.puts.put.place in (
        rw (v.puts.put.bytes, p) (sym (over_append old.out.now old.at t (answers (drop (from + used) input))) ∙ ap (over old.out.now old.at) (sym m) ∙ l.0),
        omega (arith, p, l.1, ap length m, length-append t (answers (drop (from + used) input))),
      )

  pub left_end : length input ≤ from → Put out₀ 0 (answers input) old.out.now old.at
  left_end h =
      let n : answers (drop from input) ≡ [] = ap answers (drop_of_length-le input h) ∙ none_left 0 in
      record {
        bytes = sym (over_none old.out.now old.at) ∙ ap (over old.out.now old.at) (sym n) ∙ l.0;
        place = omega (arith, l.1, ap length n);
      }

-- ---- the whole
pub written_as : (out : List ℕ) (at : ℕ) (text o after : List ℕ) (next : ℕ) → Put out at text o next → after ≡ o → Put out at text after next
written_as out at text o after next p e = rw e p

pub output_long : (s : List ℕ) → 65536 < length s → output s ≡ malformed.text
unfolding output
output_long s h = rw (lt-ltb 65536 (length s) h)

pub output_short : (s : List ℕ) → length s ≤ 65536 → output s ≡ answers_to (length s) s
unfolding output
output_short s h = rw (le-ltb 65536 (length s) h)

-- the answers are counted with nowhere to write them, and then written
module _ (s out after₀ : List ℕ) (n : ℕ) (p : Put [] 0 (output s) after₀ n) where
  counted : n ≡ length (output s)
  counted = omega (arith, p.place)

  kept : after₀ ++ out ≡ out
  kept = ap (λ (x : List ℕ). x ++ out) (p.bytes ∙ over_past [] 0 (output s) (omega arith))

  pub script_short : length (after₀ ++ out) < n → given (Err R.OutputTooShort) (after₀ ++ out) ≡ script s out
  unfolding script
  script_short h =
      let l : length (after₀ ++ out) ≡ length out = ap length kept in
      rw kept (sym (giving_short (output s) out (omega (arith, counted, l))))

  pub script_done : n ≤ length (after₀ ++ out) → (after : List ℕ) (m : ℕ) → Put (after₀ ++ out) 0 (output s) after m → given (Ok n) after ≡ script s out
  unfolding script
  script_done h after m q =
      let l : length (after₀ ++ out) ≡ length out = ap length kept in
      let f : length (output s) ≤ length out = omega (arith, counted, l) in
      let e : after ≡ into (output s) out = q.bytes ∙ ap (λ (x : List ℕ). over x 0 (output s)) kept ∙ over_front out (output s) f in
      rw (counted, e) (sym (giving_these (output s) out f))
