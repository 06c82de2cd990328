use Rattle.std.proofs.Common.{◌==◌, ◌∙◌, rules}
use Rattle.std.proofs.lemmas.Iterator.{YieldsList-from_slice}
use Rattle.std.proofs.lemmas.Iterator.Search.{position_from_yields_List}
use Rattle.text.proofs.FirstLines.{line_position}
use Rattle.text.proofs.lines.line_length.Goals as goal

pub returns : goal.returns
returns c =
    position_from_yields_List (λ x. x == 10) _ _ _ c.position.ensures.ran (YieldsList-from_slice c.args.s.now cc) (λ x b q k. search rules) ∙ line_position c.args.s.now
