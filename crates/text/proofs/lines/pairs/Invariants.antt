-- `text::lines::pairs` meets its contract: at each turn, the bytes of the pairs that are left, written from i on, give what all of them from the front give.
-- Assumes nothing.
use Rattle.text.proofs.HexPairs.{Filling}
use Rattle.text.proofs.lines.pairs.Given as goal

abbrev pub invariant-loop-i : goal.invariant-loop-i
invariant-loop-i l = Filling l.s l.out l.initial.out l.i
