-- The first k words are written.
use mathlib.Core.Path.{◌≡◌}
use Prim.Native.Nat.{◌*◌}
use Rattle.bits.specs.Bits.{run_bits, with_bits}
use Rattle.bits.proofs.long.read_long.Given as goal

abbrev pub invariant-loop-k : goal.invariant-loop-k
invariant-loop-k l = l.out ≡ with_bits l.initial.out 0 (8 * (8 * l.k)) (run_bits l.s l.offset l.length)
