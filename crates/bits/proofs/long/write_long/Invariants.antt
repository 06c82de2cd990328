-- The invariant: the k words from the run's first byte on are as they are to be, and so is what is carried into the next. A turn makes one
-- more so (write_turn, carry_next); then come the bits carried at last (write_carry) and what is left (write_rest). Assumes nothing.
use mathlib.Core.Path.{◌≡◌}
use Prim.Native.Nat.{◌+◌, ◌*◌, ◌/◌, ◌%◌}
use Rattle.bits.specs.Bits.{run}
use Rattle.bits.proofs.Turns.{goal, ahead}
use Rattle.bits.proofs.long.write_long.Given as goal

abbrev pub invariant-loop-k : goal.invariant-loop-k
invariant-loop-k l =
    (l.s ≡ ahead l.initial.s l.buf l.offset l.length (8 * l.k))
    × (l.carry ≡ run (goal l.initial.s l.buf l.offset l.length) (8 * (l.offset / 8 + 8 * l.k)) (l.offset % 8))
