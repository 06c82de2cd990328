-- `text::written::put_pairs` meets its contract: at each turn, what is left of the bytes, written as pairs from p on, gives what all of them from the start give.
-- Assumes nothing.
use mathlib.Core.Path.{◌≡◌}
use lib.ListN.{drop}
use Rattle.text.specs.Written.{over, hex_text}
use Rattle.text.proofs.written.put_pairs.Given as goal

abbrev pub invariant-loop-b : goal.invariant-loop-b
invariant-loop-b l = over l.out l.p (hex_text (drop l.b-index l.bytes)) ≡ over l.initial.out l.at (hex_text l.bytes)
