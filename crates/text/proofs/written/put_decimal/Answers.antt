-- `text::written::put_decimal` meets its contract: the digits stand at the end of a row of 20, and the part from their first on is written.
-- Assumes nothing.
use mathlib.Core.Path.{◌≡◌, ap, ◌∙◌}
use Prim.Native.Nat.{◌-◌}
use native.Mathlib.Omega.{arith}
use borrow.Author.Rules.{rules}
use lib.ListN.{length, drop, length-drop}
use lib.Seq.{take_all}
use Rattle.text.specs.Written.{over}
use Rattle.text.proofs.written.put_decimal.Goals as goal

pub returns : goal.returns
returns c =
    let a = c.args in
    let k = c.decimal_digits-k.result.1 in
    let row = c.decimal_digits-k.result.0 in
    let long : length row ≡ 20 = search rules in
    let l = length-drop k row in
    let e = c.decimal_digits-k.ensures.0 in
    (c.put_bytes.ensures ∙ ap (over a.out.now a.at) (take_all (20 - k) (drop k row) (omega arith) ∙ e), omega (arith, ap length e))
