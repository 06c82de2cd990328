-- `text::written::decimal_digits` meets its contract: at each turn, the digits of what is left of n and those that stand in the row are the digits of n.
-- Assumes nothing.
use mathlib.Core.Path.{◌≡◌}
use mathlib.Core.List.{◌++◌}
use Prim.Native.Nat.{◌^◌, ◌<◌, ◌≤◌}
use lib.ListN.{length, drop}
use Rattle.text.specs.Written.{decimal_digits, decimal_text}
use Rattle.text.proofs.written.decimal_digits.Given as goal

abbrev pub invariant-loop-k : goal.invariant-loop-k
invariant-loop-k l = record {
  place : 1 ≤ l.k;
  small : l.left < 10 ^ l.k;
  digits : decimal_digits l.k l.left ++ drop l.k l.d ≡ decimal_text l.n;
  row : length l.d ≡ 20;
}
