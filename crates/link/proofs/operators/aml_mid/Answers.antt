-- `link::operators::aml_mid` meets its contract: the numbers of what `def_mid_place` answers, of kinds that there are.
-- Assumes nothing.
use mathlib.Core.Path.{sym, ap, ◌∙◌}
use Rattle.link.specs.Answers.{place_answer}
use Rattle.link.proofs.Known.{is_value, are_values}
use Rattle.link.proofs.operators.aml_mid.Goals as goal

pub returns : goal.returns
returns c =
    let a = c.args in
    c.place_answer.ensures
    ∙ ap (place_answer a.source.kind) c.def_mid_place-placed.ensures
    ∙ sym (is_value a.source _ _ c.value.ensures c.in-Some.is ∙ are_values a.index a.length _ _ c.value-2.ensures c.in-Some-value.is c.value-3.ensures c.in-Some-value-2.is)
