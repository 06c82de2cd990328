-- How long an output is: a job's answer is at most nine times as long as the job, and the answer to a malformed one has at most 36 bytes.
-- So 589,860 bytes are room for the output of any input.
-- Assumes nothing.
use mathlib.Core.Path.{◌≡◌, refl, ap, ◌∙◌}
use mathlib.Core.Bool.{Bool, true, false, cond}
use mathlib.Core.List.{List, [], ◌∷◌, ◌++◌}
use mathlib.Core.Logic.{◌⊎◌, inl, inr, ⊎_elim}
use Prim.Native.Nat.{ℕ, zero, suc, ◌+◌, ◌*◌, ◌≤◌}
use native.Mathlib.Omega.{arith}
use lib.Dec.{eqb, ltb, leb}
use lib.ListN.{length, drop, length-append, length-drop}
use Rattle.bits.proofs.Laws.{lt_cases}
use Rattle.types.specs.declared.refusal.Refusal.TheVariants as R
use Rattle.types.specs.declared.value.AmlValue.{AmlValue}
use Rattle.types.specs.declared.value.AmlValue.TheVariants as Val
use Rattle.text.specs.Lines.{Line, line, missing, line_of, begins}
use Rattle.text.specs.Pairs.{Pairs, pairs, none, pairs_of, within}
use Rattle.text.specs.Texts.{number_of}
use Rattle.text.specs.Written.{decimal_text, hex_text}
use Rattle.std.specs.declared.cmp.Ordering.TheVariants as Or
use Rattle.std.specs.declared.cmp.Ordering.{Ordering}
use Rattle.std.specs.Prelude.{Result, Ok, Err, Option, Some, None}
use Rattle.types.specs.declared.refusal.Refusal.{Refusal}
use Rattle.text.proofs.Decimals.{decimal_most}
use Rattle.text.proofs.FirstLines.{line_length, begins_length}
use Rattle.text.proofs.HexPairs.{pairs_length}
use Rattle.text.proofs.Hexes.{hex_length}
use Rattle.value.specs.Conversions as Conv
use Rattle.value.proofs.Giving.{giving_these}
use Rattle.expression.specs.Compare.{compare}
use Rattle.expression.specs.Mid.{mid, mid_part}
use Rattle.expression.specs.Concat.{Joined, a_buffer, a_string, refused, joined, join_resources}
use Rattle.script.specs.Operands.{Operand, operand, unused, bad, number_operand, bytes_operand, most, alone, operand_of}
use Rattle.script.specs.Ops.{Shown, refused_by, of_integer, of_compare, of_bytes, of_joined, buffer_letter, letter_of, number_op, answer_of, ops, row_of}
use Rattle.script.specs.Runs.{Named, named, no, named_line, next, op_name, a_name, b_name, c_name, Read, value, wrong, fill, fill_named, operand_line, status_text, value_text, status_line, answer_lines, Told, malformed, with_c, with_b, with_a, with_op, by_name, op_line, job_of, answers_to, output, script}
use Rattle.script.specs.declared.op.Op.{Op}
use Rattle.script.specs.declared.op.Op.TheVariants as O
use Rattle.script.proofs.Joining.{joined_bytes, joined_most, ended_most, mid_most}
use Rattle.script.proofs.Running.{none_left, output_long, output_short}

-- ---- an operand has no more bytes than half its text

abbrev operand_bytes : Operand → ℕ
operand_bytes (operand v l) = length l
operand_bytes unused = 0
operand_bytes bad = 0

either : (b : Bool) (x y : Operand) (n : ℕ) → 2 * operand_bytes x ≤ n → 2 * operand_bytes y ≤ n → 2 * operand_bytes (cond b x y) ≤ n
either true x y n h k = h
either false x y n h k = k

alone_size : (l : List ℕ) (o : Operand) (n : ℕ) → 2 * operand_bytes o ≤ n → 2 * operand_bytes (alone l o) ≤ n
alone_size [] o n h = h
alone_size (c ∷ l) o n h = omega arith

within_size : (v : AmlValue) (b : List ℕ) (c : Bool) → operand_bytes (bytes_operand v (cond c (pairs b) none)) ≤ length b
within_size v b true = omega arith
within_size v b false = omega arith

pairs_size : (v : AmlValue) (l : List ℕ) (p : Pairs) → pairs_of l ≡ p → 2 * operand_bytes (bytes_operand v (within most p)) ≤ length l
unfolding within
pairs_size v l (pairs b) e = omega (arith, within_size v b (leb (length b) most), pairs_length l b e)
pairs_size v l none e = omega arith

number_size : (m : Option ℕ) (n : ℕ) → 2 * operand_bytes (number_operand m) ≤ n
number_size (Some x) n = omega arith
number_size None n = omega arith

operand_size : (t : List ℕ) → 2 * operand_bytes (operand_of t) ≤ length t
unfolding operand_of
operand_size [] = omega arith
operand_size (c ∷ l) =
    let x = pairs_size Val.Buffer l (pairs_of l) refl in
    let s = pairs_size Val.String l (pairs_of l) refl in
    let n = length (c ∷ l) in
    either (eqb c 45) _ _ n (alone_size l unused n (omega arith))
    (either (eqb c 116) _ _ n (alone_size l (operand (Val.Boolean true) []) n (omega arith))
    (either (eqb c 102) _ _ n (alone_size l (operand (Val.Boolean false) []) n (omega arith))
    (either (eqb c 120) _ _ n (omega (arith, x)) (either (eqb c 115) _ _ n (omega (arith, s)) (number_size (number_of 10 (c ∷ l)) n)))))

-- ---- what a line takes of the text

abbrev pieces : ℕ → Named → ℕ
pieces k (named t rest) = length t + k + length rest
pieces k no = 0

named_size : (name l rest : List ℕ) (n : ℕ) (b : Bool) → begins name l ≡ b → n ≡ length l + 1 + length rest
    → pieces (length name + 1) (cond b (named (drop (length name) l) rest) no) ≤ n
named_size name l rest n true e h = omega (arith, length-drop (length name) l, begins_length name l e)
named_size name l rest n false e h = omega arith

line_size : (name s : List ℕ) (x : Line) → line_of s ≡ x → pieces (length name + 1) (named_line name x) ≤ length s
line_size name s missing e = omega arith
line_size name s (line l rest) e = named_size name l rest (length s) (begins name l) refl (line_length s l rest e)

next_size : (name s : List ℕ) → pieces (length name + 1) (next name s) ≤ length s
next_size name s = line_size name s (line_of s) refl

-- an operand's line takes two characters for each byte, and three
abbrev taken : Read → ℕ
taken (value v l rest) = 2 * length l + 3 + length rest
taken wrong = 0

fill_size : (u : Bool) (o : Operand) (rest : List ℕ) (n : ℕ) → 2 * operand_bytes o + 3 + length rest ≤ n → taken (fill u o rest) ≤ n
fill_size true (operand v l) rest n h = h
fill_size true unused rest n h = omega arith
fill_size true bad rest n h = omega arith
fill_size false (operand v l) rest n h = omega arith
fill_size false unused rest n h = omega arith
fill_size false bad rest n h = omega arith

filled_size : (u : Bool) (x : Named) → taken (fill_named u x) ≤ pieces 3 x
filled_size u (named t rest) = fill_size u (operand_of t) rest _ (omega (arith, operand_size t))
filled_size u no = omega arith

operand_line_size : (name : List ℕ) (u : Bool) (s : List ℕ) → length name ≡ 2 → taken (operand_line name u s) ≤ length s
unfolding operand_line
operand_line_size name u s e =
    let n : pieces (2 + 1) (next name s) ≤ length s = rw e at (next_size name s) in
    omega (arith, filled_size u (next name s), n)

-- ---- an answer

lines_size : (a : Shown) → length (answer_lines a) ≤ 35 + length a.text
unfolding answer_lines status_line
lines_size a =
    let d = decimal_text a.status in
    omega
    (arith, decimal_most a.status, length-append (status_text ++ (d ++ value_text)) (a.text ++ (10 ∷ [])), length-append status_text (d ++ value_text), length-append d value_text, length-append a.text (10 ∷ []))

integer_size : (x : Result ℕ Refusal) → length (of_integer x).text ≤ 20
integer_size (Ok n) = decimal_most n
integer_size (Err r) = omega arith

order_size : (x : Result Ordering Refusal) → length (of_compare x).text ≤ 1
order_size (Ok Or.Less) = omega arith
order_size (Ok Or.Equal) = omega arith
order_size (Ok Or.Greater) = omega arith
order_size (Err r) = omega arith

bytes_size : (letter : List ℕ) (x : Conv.Bytes) → length letter ≤ 1 → length (of_bytes letter x).text ≤ 1 + 2 * length (mid_part x)
bytes_size letter (Conv.these l) h = omega (arith, length-append letter (hex_text l), hex_length l)
bytes_size letter (Conv.none r) h = omega arith

joined_size : (j : Joined) → length (of_joined j).text ≤ 1 + 2 * length (joined_bytes j)
joined_size (a_buffer l) = omega (arith, hex_length l)
joined_size (a_string l) = omega (arith, hex_length l)
joined_size (refused r) = omega arith

letter_size : (v : AmlValue) → length (letter_of v) ≤ 1
letter_size Val.String = omega arith
letter_size Val.Buffer = omega arith
letter_size (Val.BufferField o n) = omega arith
letter_size (Val.Field f) = omega arith
letter_size (Val.Boolean b) = omega arith
letter_size (Val.Integer x) = omega arith
letter_size Val.OpRegion = omega arith
letter_size Val.Device = omega arith
letter_size Val.Method = omega arith
letter_size Val.Processor = omega arith
letter_size Val.Mutex = omega arith
letter_size Val.Package = omega arith
letter_size Val.PowerResource = omega arith
letter_size Val.ThermalZone = omega arith

module _ (a : AmlValue) (s : List ℕ) (b : AmlValue) (t : List ℕ) (c : AmlValue) (u : List ℕ) where
  answer_size : (op : Op) → length (answer_of op a s b t c u).text ≤ 73 + 2 * (length s + length t)
  unfolding answer_of
  answer_size (O.Number f) = omega (arith, integer_size (number_op f a s b t))
  answer_size O.Mid = omega (arith, bytes_size (letter_of a) (mid a s b t c u) (letter_size a), mid_most a s b t c u)
  answer_size O.Concat =
      omega (arith, joined_size (joined (Conv.held_by a s) (Conv.held_by b t)), joined_most (18 + length s) (18 + length t) (omega arith) (omega arith) a s b t (omega arith) (omega arith))
  answer_size O.ConcatRes =
      let j = join_resources (Conv.to_buffer (Conv.held_by a s)) (Conv.to_buffer (Conv.held_by b t)) in
      omega (arith, bytes_size buffer_letter j (omega arith), ended_most (18 + length s) (18 + length t) (omega arith) (omega arith) a s b t (omega arith) (omega arith))
  answer_size O.Compare = omega (arith, order_size (compare a s b t))

-- ---- a job of n bytes

abbrev Sized : Told → ℕ → Type 0
Sized t n = (length t.text + 9 * length t.rest ≤ 9 * n) ⊎ ((t.rest ≡ []) × (length t.text ≤ 36))

malformed_size : (n : ℕ) → Sized malformed n
malformed_size n = inr (refl, lines_size (refused_by R.MalformedJob))

with_c_lem : (op : Op) (a : AmlValue) (s : List ℕ) (b : AmlValue) (t : List ℕ) (n : ℕ) (r : Read) → 10 + 2 * length s + 2 * length t + taken r ≤ n → Sized (with_c op a s b t r) n
with_c_lem op a s b t n (value c u rest) h = inl (omega (arith, lines_size (answer_of op a s b t c u), answer_size a s b t c u op))
with_c_lem op a s b t n wrong h = malformed_size n

with_b_lem : (op : Op) (k : ℕ) (a : AmlValue) (s : List ℕ) (n : ℕ) (r : Read) → 7 + 2 * length s + taken r ≤ n → Sized (with_b op k a s r) n
with_b_lem op k a s n (value b t rest) h = with_c_lem op a s b t n (operand_line c_name (ltb 2 k) rest) (omega (arith, operand_line_size c_name (ltb 2 k) rest refl))
with_b_lem op k a s n wrong h = malformed_size n

with_a_lem : (op : Op) (k n : ℕ) (r : Read) → 4 + taken r ≤ n → Sized (with_a op k r) n
with_a_lem op k n (value a s rest) h = with_b_lem op k a s n (operand_line b_name (ltb 1 k) rest) (omega (arith, operand_line_size b_name (ltb 1 k) rest refl))
with_a_lem op k n wrong h = malformed_size n

with_op_lem : (op : Op) (k n : ℕ) (s : List ℕ) → 4 + length s ≤ n → Sized (with_op op k s) n
unfolding with_op
with_op_lem op k n s h = with_a_lem op k n (operand_line a_name (ltb 0 k) s) (omega (arith, operand_line_size a_name (ltb 0 k) s refl))

by_name_lem : (x : Option (Op × ℕ)) (rest : List ℕ) (n : ℕ) → 4 + length rest ≤ n → Sized (by_name x rest) n
by_name_lem (Some p) rest n h = with_op_lem p.0 p.1 n rest h
by_name_lem None rest n h = malformed_size n

op_line_lem : (x : Named) (n : ℕ) → pieces 4 x ≤ n → Sized (op_line x) n
op_line_lem (named l rest) n h = by_name_lem (row_of ops l) rest n (omega arith)
op_line_lem no n h = malformed_size n

job_size : (s : List ℕ) → Sized (job_of s) (length s)
unfolding job_of
job_size s = op_line_lem (next op_name s) (length s) (next_size op_name s)

-- ---- all jobs

one_more : (n : ℕ) → ((t : List ℕ) → length (answers_to n t) ≤ 9 * length t + 36) → (s : List ℕ) → length (answers_to (suc n) s) ≤ 9 * length s + 36
unfolding answers_to
one_more n f [] = omega arith
one_more n f (c ∷ s) =
    let t = (job_of (c ∷ s)).text in
    let r = (job_of (c ∷ s)).rest in
    let l = length-append t (answers_to n r) in
    ⊎_elim
    (λ h. omega (arith, f r))
    (λ h. let z : length (answers_to n r) ≡ 0 = ap (λ (x : List ℕ). length (answers_to n x)) h.0 ∙ ap length (none_left n) in omega (arith, h.1))
    (job_size (c ∷ s))

answers_size : (n : ℕ) (s : List ℕ) → length (answers_to n s) ≤ 9 * length s + 36
unfolding answers_to
answers_size zero s = omega arith
answers_size (suc n) s = one_more n (answers_size n) s

pub output_most : (s : List ℕ) → length (output s) ≤ 589860
output_most s =
    lt_cases 65536 (length s) (length (output s) ≤ 589860)
    (λ h. rw (output_long s h) (let m = lines_size (refused_by R.MalformedJob) in omega arith))
    (λ h. rw (output_short s h) (let m = answers_size (length s) s in omega arith))

-- 20 is never given to whoever lends as much
pub never_short : (s out : List ℕ) → 589860 ≤ length out → script s out ≡ Conv.given (Ok (length (output s))) (Conv.into (output s) out)
unfolding script
never_short s out h = let m = output_most s in giving_these (output s) out (omega arith)
