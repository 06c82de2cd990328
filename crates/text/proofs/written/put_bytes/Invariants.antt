-- `text::written::put_bytes` meets its contract: at each turn, what is left of the bytes, written from p on, gives what all of them from the start give.
-- Assumes nothing.
use mathlib.Core.Path.{◌≡◌}
use lib.ListN.{drop}
use Rattle.text.specs.Written.{over}
use Rattle.text.proofs.written.put_bytes.Given as goal

abbrev pub invariant-loop-b : goal.invariant-loop-b
invariant-loop-b l = over l.out l.p (drop l.b-index l.bytes) ≡ over l.initial.out l.at l.bytes
