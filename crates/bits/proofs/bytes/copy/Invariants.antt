-- The first i bytes are copied, and those behind them are as they were.
use Rattle.std.proofs.Common.{◌≡◌, ◌++◌, take, drop}
use Rattle.bits.proofs.bytes.copy.Given as goal

abbrev pub invariant-loop-i : goal.invariant-loop-i
invariant-loop-i l = l.dst ≡ take l.i l.src ++ drop l.i l.initial.dst
