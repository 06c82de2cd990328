-- Document 01's whole case: "input `op=add`, `a=18446744073709551615`, `b=2`, `c=-`, output `status=0`, `value=1`. Empty input, empty output."
-- Both are what the definitions compute.
-- Assumes nothing.
use mathlib.Core.Path.{◌≡◌, refl}
use mathlib.Core.List.{List, [], ◌∷◌, ◌++◌}
use Prim.Native.Nat.{ℕ}
use Rattle.types.specs.Refusals.{first_of}
use Rattle.text.specs.Lines.{line_of, begins}
use Rattle.text.specs.Pairs.{pairs_of, within}
use Rattle.text.specs.Texts.{digit_of, all_digits, value_from, number_of}
use Rattle.text.specs.Written.{decimal_digits, decimal_text}
use Rattle.value.specs.Conversions.{to_integer}
use Rattle.expression.specs.Numbers.{operands, binary}
use Rattle.script.specs.Operands.{operand_of}
use Rattle.script.specs.Ops.{answer_of, row_of}
use Rattle.script.specs.Runs.{operand_line, status_line, answer_lines, with_op, job_of, answers_to, output}

abbrev pub whole_input : List ℕ
whole_input =
    (111 ∷ 112 ∷ 61 ∷ 97 ∷ 100 ∷ 100 ∷ 10 ∷ [])
    ++ (97 ∷ 61 ∷ 49 ∷ 56 ∷ 52 ∷ 52 ∷ 54 ∷ 55 ∷ 52 ∷ 52 ∷ 48 ∷ 55 ∷ 51 ∷ 55 ∷ 48 ∷ 57 ∷ 53 ∷ 53 ∷ 49 ∷ 54 ∷ 49 ∷ 53 ∷ 10 ∷ [])
    ++ (98 ∷ 61 ∷ 50 ∷ 10 ∷ [])
    ++ (99 ∷ 61 ∷ 45 ∷ 10 ∷ [])

abbrev pub whole_output : List ℕ
whole_output = (115 ∷ 116 ∷ 97 ∷ 116 ∷ 117 ∷ 115 ∷ 61 ∷ 48 ∷ 10 ∷ [])
    ++ (118 ∷ 97 ∷ 108 ∷ 117 ∷ 101 ∷ 61 ∷ 49 ∷ 10 ∷ [])

pub whole_case : output whole_input ≡ whole_output
unfolding first_of line_of begins pairs_of within digit_of all_digits value_from number_of decimal_digits decimal_text to_integer operands binary operand_of answer_of row_of operand_line status_line answer_lines with_op job_of answers_to output
whole_case = refl

pub empty_input : output [] ≡ []
unfolding answers_to output
empty_input = refl
