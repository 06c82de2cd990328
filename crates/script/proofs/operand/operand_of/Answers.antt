-- `operand::operand_of` meets its contract: each return is a case of the first character.
-- Assumes nothing.
use Rattle.script.proofs.Reading.{no_text, dash, true_text, false_text, buffer_text, string_text, number_text}
use mathlib.Core.Path.{◌∙◌}
use borrow.Author.Rules.{rules}
use Rattle.script.proofs.operand.operand_of.Goals as goal

pub returns-in_err-first : goal.returns-in_err-first
returns-in_err-first c = rw c.from_residual.ensures (no_text _ c.args.scratch.now c.in_err-first.ensures.cases)

pub returns-in-45 : goal.returns-in-45
returns-in-45 c = rw (c.in_ok-first.ensures.cases.0, c.in-45.is) (dash _ _ _ c.alone.ensures)

pub returns-in-116 : goal.returns-in-116
returns-in-116 c = rw (c.in_ok-first.ensures.cases.0, c.in-116.is) (true_text _ _ _ c.alone-in-116.ensures)

pub returns-in-102 : goal.returns-in-102
returns-in-102 c = rw (c.in_ok-first.ensures.cases.0, c.in-102.is) (false_text _ _ _ c.alone-in-102.ensures)

pub returns-in-120 : goal.returns-in-120
returns-in-120 c = rw (c.in_ok-first.ensures.cases.0, c.in-120.is) (c.bytes_operand.ensures.0 ∙ buffer_text c.in_ok-first.rest.now, c.bytes_operand.ensures.1)

pub returns-in-115 : goal.returns-in-115
returns-in-115 c = rw (c.in_ok-first.ensures.cases.0, c.in-115.is) (c.bytes_operand-in-115.ensures.0 ∙ string_text c.in_ok-first.rest.now, c.bytes_operand-in-115.ensures.1)

pub returns-in_default : goal.returns-in_default
returns-in_default c =
    let e = c.in_ok-first.ensures.cases.0 in
    rw e (number_text c.in_ok-first.field-0-0.now _ _ _ (search rules) (search rules) (search rules) (search rules) (search rules) (rw e at c.number_operand.ensures))
