-- The invariant: of the whole bytes those above the k lowest words and the odd bytes below them are written, so the bits below are still as they
-- were. A turn writes the word below (self_turn), and then come the odd bytes (self_rest). Above them go the bits that were taken first
-- (write_rest). Assumes nothing.
use mathlib.Core.Path.{◌≡◌}
use Prim.Native.Nat.{◌+◌, ◌*◌, ◌%◌}
use Rattle.bits.proofs.Turns.{upper}
use Rattle.bits.proofs.long.write_self.Given as goal

abbrev pub invariant-loop-k : goal.invariant-loop-k
invariant-loop-k l = l.s ≡ upper l.initial.s l.offset (8 * l.full) (8 * (l.full % 8 + 8 * l.k))
