-- What the functions of the program answer, said in the terms of the definitions: their contracts cite it.
-- Assumes nothing.
use Rattle.std.specs.Prelude.{ℕ, ◌+◌, ◌-◌, ◌≤◌, ◌<◌, min, ◌≡◌, Bool, true, false, List, [], ◌∷◌, length, take, drop}
use Rattle.types.specs.declared.value.AmlValue.TheVariants as Val
use Rattle.text.specs.Written.{over}
use Rattle.std.specs.Prelude.{Option, Some, None}
use Rattle.script.specs.Operands.{Operand, operand, unused, bad}
use Rattle.script.specs.Runs.{Named, named, no, Read, value, wrong, answer_lines, Told, malformed}
use Rattle.script.specs.declared.job.OperandLine.{OperandLine}
use Rattle.script.specs.declared.written.Answers.{Answers}
use Rattle.script.specs.Ops.{Shown}
use Rattle.script.specs.declared.operand.Operand as Op
use Rattle.script.specs.declared.operand.Operand.TheVariants as Vs

-- ---- an operand

-- what a reader answers: a value, and how many bytes of what it wrote are the value's
abbrev pub read_as : Option Op.Operand → List ℕ → Operand
read_as (Some (Vs.Value v n)) s = operand v (take n s)
read_as (Some Vs.Unused) s = unused
read_as None s = bad

abbrev pub count_of : Option Op.Operand → ℕ
count_of (Some (Vs.Value v n)) = n
count_of (Some Vs.Unused) = 0
count_of None = 0

-- an answer that stands alone, and a number's
abbrev pub alone_as : List ℕ → Option Op.Operand → Option Op.Operand
alone_as [] a = a
alone_as (c ∷ l) a = None

abbrev pub number_as : Option ℕ → Option Op.Operand
number_as (Some n) = Some (Vs.Value (Val.Integer n) 0)
number_as None = None

-- ---- a line

-- a line of n bytes, whose name has m
abbrev pub line_as : Option ℕ → ℕ → List ℕ → Named
line_as (Some n) m s = named (take (n - m) (drop m s)) (drop (n + 1) s)
line_as None m s = no

abbrev pub Inside : Option ℕ → ℕ → ℕ → Type 0
Inside (Some n) m k = (m ≤ n) × (n < k)
Inside None m k = 0 ≤ k

abbrev pub fill_as : Bool → Option Op.Operand → ℕ → Option OperandLine
fill_as true (Some (Vs.Value v n)) end = Some (record { value = v; count = n; end = end })
fill_as true (Some Vs.Unused) end = None
fill_as true None end = None
fill_as false (Some (Vs.Value v n)) end = None
fill_as false (Some Vs.Unused) end = Some (record { value = Val.Integer 0; count = 0; end = end })
fill_as false None end = None

abbrev pub operand_as : Option OperandLine → List ℕ → List ℕ → Read
operand_as (Some l) scratch s = value l.value (take l.count scratch) (drop l.end s)
operand_as None scratch s = wrong

abbrev pub Within : Option OperandLine → ℕ → Type 0
Within (Some l) k = (l.count ≤ 256) × (0 < l.end) × (l.end ≤ k)
Within None k = 0 ≤ k

-- ---- what is written

-- text is written into an output from a place on, and the next place is behind it
pub record Put (out : List ℕ) (at : ℕ) (text : List ℕ) (after : List ℕ) (next : ℕ) : Type 0 where
  pub bytes : after ≡ over out at text
  pub place : next ≡ at + length text

-- the same of an output with its place; the reference to the output is the same
pub record Puts (old : Answers) (text : List ℕ) (new : Answers) : Type 0 where
  pub same : new.out.ghost_name ≡ old.out.ghost_name
  pub put : Put old.out.now old.at text new.out.now new.at

-- an answer
pub record Tells (old : Answers) (a : Shown) (new : Answers) : Type 0 where
  pub puts : Puts old (answer_lines a) new
  pub bound : new.at ≤ old.at + 1060

-- a job that was answered: so many bytes of the input are used, at least one where there is one
pub record Stepped (s : List ℕ) (old : Answers) (t : Told) (new : Answers) (used : ℕ) : Type 0 where
  pub puts : Puts old t.text new
  pub rest : drop used s ≡ t.rest
  pub some : min 1 (length s) ≤ used
  pub most : used ≤ length s
  pub bound : new.at ≤ old.at + 1060

-- a job that was answered, or a malformed one, of which nothing is written
abbrev pub Answered : Option ℕ → List ℕ → Answers → Told → Answers → Type 0
Answered (Some used) s old t new = Stepped s old t new used
Answered None s old t new = (new ≡ old) × (t ≡ malformed)
