-- `text::in_base` meets its contract: at each turn, what is left of the text says from acc on what the whole says from 0.
-- Assumes nothing.
use Rattle.text.proofs.Digits.{Reading}
use Rattle.text.proofs.in_base.Given as goal

abbrev pub invariant-loop-c : goal.invariant-loop-c
invariant-loop-c l = Reading l.base l.s l.c-index l.acc
