-- Flags that pass have a width.
-- Assumes nothing.
use mathlib.Core.Path.{sym, ◌∙◌}
use mathlib.Core.Bool.{◌&&◌}
use borrow.Author.Tests.{leb-false}
use lib.Dec.{leb, eqb}
use Rattle.types.specs.Flags.{access_bits, rule_bits}
use Rattle.types.proofs.Tests.{or_none}
use Rattle.types.proofs.Widths.{width_is}
use Rattle.field_unit.proofs.check.check_width.Goals as goal

pub check_place-requires : goal.check_place-requires
check_place-requires c =
    let f = c.args.field.flags.0 in
    let i = or_none (leb 6 (access_bits f)) (c.args.write && eqb (rule_bits f) 3) (sym c.bad_flags.ensures ∙ c.if-bad_flags.false) in
    (rw c.access_width-width.ensures (width_is f (leb-false 6 (access_bits f) i.0)), c.if-size-gt65536.false)
