-- `compare::field_byte` meets its contract: eight bits, or as many as the field has left.
-- Assumes nothing.
use Rattle.expression.proofs.Comparing.{few_bits, eight_bits}
use Rattle.expression.proofs.compare.field_byte.Goals as goal

pub returns-then-left-lt8 : goal.returns-then-left-lt8
returns-then-left-lt8 c = search few_bits

pub returns : goal.returns
returns c = search eight_bits
