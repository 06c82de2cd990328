-- `text::lines::are_pairs` meets its contract: no character is left over, and each is a digit.
-- Assumes nothing.
use Rattle.std.proofs.Common.{◌≡◌, ◌∙◌, ◌%◌, false, length, rules, arith}
use Rattle.std.proofs.lemmas.Bool.Decides.{nat_tests}
use Rattle.std.proofs.lemmas.Iterator.{YieldsList-from_slice}
use Rattle.std.proofs.lemmas.Iterator.Search.{all_from_yields_List}
use lib.Dec.{eqb}
use Rattle.text.proofs.HexPairs.{is_hex, pairs_all, pairs_odd}
use Rattle.text.proofs.lines.are_pairs.Goals as goal

pub returns-then-s-eq0 : goal.returns-then-s-eq0
returns-then-s-eq0 c =
    all_from_yields_List is_hex _ _ _ c.all.ensures.ran (YieldsList-from_slice c.args.s.now cc) (λ x b q k. search (rules, nat_tests)) ∙ pairs_all c.args.s.now (omega arith)

pub returns-else-s-eq0 : goal.returns-else-s-eq0
returns-else-s-eq0 c =
    let e : eqb (length c.args.s.now % 2) 0 ≡ false = grind (arith, nat_tests) in
    e ∙ pairs_odd c.args.s.now (omega arith)
