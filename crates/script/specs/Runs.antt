-- Document 01, "Script program": a job, its answer, the run.
-- Assumes nothing.
use Rattle.std.specs.Prelude.{ℕ, zero, suc, Bool, true, false, cond, List, [], ◌∷◌, ◌++◌, ltb, length, drop}
use Rattle.types.specs.declared.refusal.Refusal.TheVariants as R
use Rattle.types.specs.declared.value.AmlValue.{AmlValue}
use Rattle.types.specs.declared.value.AmlValue.TheVariants as Val
use Rattle.text.specs.Lines.{Line, line, missing, line_of, begins}
use Rattle.text.specs.Written.{decimal_text}
use Rattle.value.specs.Conversions.{Given, these, giving}
use Rattle.script.specs.Operands.{Operand, operand, unused, bad, operand_of}
use Rattle.script.specs.Ops.{Shown, refused_by, answer_of, ops, row_of}
use Rattle.script.specs.declared.op.Op.{Op}
use Rattle.std.specs.Prelude.{Option, Some, None}

-- ---- a line with its name

-- what stands behind the name, and what follows the line
pub data Named : Type 0 where
  named : List ℕ → List ℕ → Named
  no : Named

-- "a line is missing or misnamed"
abbrev pub named_line : List ℕ → Line → Named
named_line name (line l rest) = cond (begins name l) (named (drop (length name) l) rest) no
named_line name missing = no

abbrev pub next : List ℕ → List ℕ → Named
next name s = named_line name (line_of s)

-- `op=`, `a=`, `b=`, `c=`
abbrev pub op_name : List ℕ
op_name = 111 ∷ 112 ∷ 61 ∷ []

abbrev pub a_name : List ℕ
a_name = 97 ∷ 61 ∷ []

abbrev pub b_name : List ℕ
b_name = 98 ∷ 61 ∷ []

abbrev pub c_name : List ℕ
c_name = 99 ∷ 61 ∷ []

-- ---- an operand's line: a value with its bytes, and what follows the line
pub data Read : Type 0 where
  value : AmlValue → List ℕ → List ℕ → Read
  wrong : Read

-- "`-` stands for a used operand or something else for an unused one"; the place of an unused one is taken by an Integer that no op looks at
abbrev pub fill : Bool → Operand → List ℕ → Read
fill true (operand v l) rest = value v l rest
fill true unused rest = wrong
fill true bad rest = wrong
fill false (operand v l) rest = wrong
fill false unused rest = value (Val.Integer 0) [] rest
fill false bad rest = wrong

abbrev pub fill_named : Bool → Named → Read
fill_named used (named l rest) = fill used (operand_of l) rest
fill_named used no = wrong

unfoldable pub operand_line : List ℕ → Bool → List ℕ → Read
operand_line name used s = fill_named used (next name s)

-- ---- answers

-- `status=`; a line feed and `value=`
abbrev pub status_text : List ℕ
status_text = 115 ∷ 116 ∷ 97 ∷ 116 ∷ 117 ∷ 115 ∷ 61 ∷ []

abbrev pub value_text : List ℕ
value_text = 10 ∷ 118 ∷ 97 ∷ 108 ∷ 117 ∷ 101 ∷ 61 ∷ []

unfoldable pub status_line : ℕ → List ℕ
status_line n = status_text ++ (decimal_text n ++ value_text)

-- "Each answer is `status=` and `value=`", "every line (output too) ended by a line feed"
unfoldable pub answer_lines : Shown → List ℕ
answer_lines a = status_line a.status ++ (a.text ++ (10 ∷ []))

-- ---- a job: what is told, and what is left of the input

pub record Told : Type 0 where
  pub text : List ℕ
  pub rest : List ℕ

abbrev pub told : Shown → List ℕ → Told
told a rest = record { text = answer_lines a; rest = rest }

-- "It answers `status=40`, `value=-` and ends the run"
abbrev pub malformed : Told
malformed = told (refused_by R.MalformedJob) []

abbrev pub with_c : Op → AmlValue → List ℕ → AmlValue → List ℕ → Read → Told
with_c op a s b t (value c u rest) = told (answer_of op a s b t c u) rest
with_c op a s b t wrong = malformed

abbrev pub with_b : Op → ℕ → AmlValue → List ℕ → Read → Told
with_b op n a s (value b t rest) = with_c op a s b t (operand_line c_name (ltb 2 n) rest)
with_b op n a s wrong = malformed

abbrev pub with_a : Op → ℕ → Read → Told
with_a op n (value a s rest) = with_b op n a s (operand_line b_name (ltb 1 n) rest)
with_a op n wrong = malformed

-- the operands of an op that uses n of a, b, c
unfoldable pub with_op : Op → ℕ → List ℕ → Told
with_op op n s = with_a op n (operand_line a_name (ltb 0 n) s)

-- "the op unknown"
abbrev pub by_name : Option (Op × ℕ) → List ℕ → Told
by_name (Some p) rest = with_op p.0 p.1 rest
by_name None rest = malformed

abbrev pub op_line : Named → Told
op_line (named l rest) = by_name (row_of ops l) rest
op_line no = malformed

unfoldable pub job_of : List ℕ → Told
job_of s = op_line (next op_name s)

-- ---- the run

-- what the jobs in s are answered, of which there are at most n
unfoldable pub answers_to : ℕ → List ℕ → List ℕ
answers_to zero s = []
answers_to (suc n) [] = []
answers_to (suc n) (c ∷ s) = (job_of (c ∷ s)).text ++ answers_to n (job_of (c ∷ s)).rest

-- "so does input over 65,536 bytes, with no job answered before it"; "Empty input, empty output."
unfoldable pub output : List ℕ → List ℕ
output s = cond (ltb 65536 (length s)) malformed.text (answers_to (length s) s)

-- at the front of an output, which keeps what it has behind it; 20 where it is too short
unfoldable pub script : List ℕ → List ℕ → Given
script s out = giving (these (output s)) out
