-- `job::named_line` meets its contract: each return is a case of the first line.
-- Assumes nothing.
use mathlib.Core.Path.{ap}
use mathlib.Core.Bool.{not}
use lib.ListN.{length-take}
use native.Mathlib.Omega.{arith}
use Rattle.script.proofs.Lines.{misnamed, well_named}
use Rattle.text.proofs.FirstLines.{line_inside}
use Rattle.script.proofs.job.named_line.Goals as goal

pub slice_bounds-begins_with-end : goal.slice_bounds-begins_with-end
slice_bounds-begins_with-end c =
    let i = line_inside c.args.s.now _ c.line_length.ensures _ c.in_ok-n.was in
    simp length-take (omega arith)

pub returns-then-not-begins_with : goal.returns-then-not-begins_with
returns-then-not-begins_with c = misnamed _ _ _ c.line_length.ensures _ c.in_ok-n.was _ c.begins_with.ensures (ap not c.if-not-begins_with.true)

pub returns : goal.returns
returns c = well_named _ _ _ c.line_length.ensures _ c.in_ok-n.was _ c.begins_with.ensures (ap not c.if-not-begins_with.false)
