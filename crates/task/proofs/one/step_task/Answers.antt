-- `task::one::step_task` meets its contract: where its checks have passed, the task makes its next access, if one is left.
-- Assumes nothing.
use Rattle.std.proofs.Common.{◌<◌, ap, Ok}
use native.Mathlib.Omega.{arith}
use mathlib.Core.Path.{◌∙◌}
use Rattle.task.proofs.Answers.{step_passed, step_past, kept_past, step_left, step_made, region_made}
use Rattle.task.proofs.one.step_task.Goals as goal

pub returns-in_err-held : goal.returns-in_err-held
returns-in_err-held c = absurd (search (step_passed, c.in_ok-check_turn.was, c.in_err-held.was))

pub returns-in_default-2 : goal.returns-in_default-2
returns-in_default-2 c =
    let turn = c.in_ok-check_turn.was in
    let none = c.in_ok-held.was ∙ ap Ok c.in_default-2.is in
    (search step_past, search kept_past)

pub overflow_add-made : goal.overflow_add-made
overflow_add-made c =
    let turn = c.in_ok-check_turn.was in
    let some = c.in_ok-held.was ∙ ap Ok c.in-Some.is in
    let left : c.args.k.now.made < c.in-Ok.total = search step_left in
    omega arith

pub returns : goal.returns
returns c =
    let turn = c.in_ok-check_turn.was in
    let some = c.in_ok-held.was ∙ ap Ok c.in-Some.is in
    (search step_made, search region_made)
