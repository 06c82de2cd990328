-- Document 01, "Script program": "Values: decimal Integer (leading zeros free), `t`, `f`, `x` or `s` with hex pairs of either case (at most 256
-- bytes), `-` for an unused one." A value "not of these forms or over 2^64 − 1" makes the job malformed.
-- Assumes nothing.
use Rattle.std.specs.Prelude.{ℕ, true, false, cond, List, [], ◌∷◌, eqb}
use Rattle.types.specs.declared.value.AmlValue.{AmlValue}
use Rattle.types.specs.declared.value.AmlValue.TheVariants as Val
use Rattle.text.specs.Texts.{number_of}
use Rattle.std.specs.Prelude.{Option, Some, None}
use Rattle.text.specs.Pairs.{Pairs, pairs, none, pairs_of, within}

-- a value with its bytes, `-`, or neither
pub data Operand : Type 0 where
  operand : AmlValue → List ℕ → Operand
  unused : Operand
  bad : Operand

abbrev pub number_operand : Option ℕ → Operand
number_operand (Some n) = operand (Val.Integer n) []
number_operand None = bad

abbrev pub bytes_operand : AmlValue → Pairs → Operand
bytes_operand v (pairs l) = operand v l
bytes_operand v none = bad

-- "at most 256 bytes"
abbrev pub most : ℕ
most = 256

-- `-`, `t` and `f` stand alone
abbrev pub alone : List ℕ → Operand → Operand
alone [] o = o
alone (c ∷ l) o = bad

-- by its first character: `-` 45, `t` 116, `f` 102, `x` 120, `s` 115; else a decimal number
unfoldable pub operand_of : List ℕ → Operand
operand_of [] = bad
operand_of (c ∷ l) =
    cond (eqb c 45) (alone l unused)
    (cond (eqb c 116) (alone l (operand (Val.Boolean true) []))
    (cond (eqb c 102) (alone l (operand (Val.Boolean false) []))
    (cond (eqb c 120) (bytes_operand Val.Buffer (within most (pairs_of l)))
    (cond (eqb c 115) (bytes_operand Val.String (within most (pairs_of l)))
    (number_operand (number_of 10 (c ∷ l)))))))
