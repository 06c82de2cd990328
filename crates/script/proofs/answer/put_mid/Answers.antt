-- `answer::put_mid` meets its contract: what Mid refuses, or the part behind its letter.
-- Assumes nothing.
use Rattle.expression.specs.Mid.{mid}
use Rattle.script.proofs.Joining.{mid_refused, mid_part_lem, mid_most, other_letter}
use lib.ListN.{length}
use native.Mathlib.Omega.{arith}
use mathlib.Core.Path.{ap}
use borrow.Author.Rules.{rules}
use Rattle.script.proofs.answer.put_mid.Goals as goal

pub returns-in-Err : goal.returns-in-Err
returns-in-Err c =
    let a = c.args in
    rw (mid_refused (mid a.a.value a.a.bytes.now a.b.value a.b.bytes.now a.c.value a.c.bytes.now) _ c.def_mid.ensures _ c.in-Err.is) c.put_refusal.ensures

pub put_hex-requires : goal.put_hex-requires
put_hex-requires c =
    let a = c.args in
    (c.requires, search rules, omega (arith, c.args.a.short, ap length c.def_mid_part-part.ensures, mid_most a.a.value a.a.bytes.now a.b.value a.b.bytes.now a.c.value a.c.bytes.now))

pub put_hex-requires-in_default-value : goal.put_hex-requires-in_default-value
put_hex-requires-in_default-value c =
    let a = c.args in
    (c.requires, search rules, omega (arith, c.args.a.short, ap length c.def_mid_part-part.ensures, mid_most a.a.value a.a.bytes.now a.b.value a.b.bytes.now a.c.value a.c.bytes.now))

pub returns-in-String : goal.returns-in-String
returns-in-String c =
    let a = c.args in
    rw (mid_part_lem (mid a.a.value a.a.bytes.now a.b.value a.b.bytes.now a.c.value a.c.bytes.now) _ c.def_mid.ensures c.in_default.is _ c.def_mid_part-part.ensures, c.in-String.is) c.put_hex.ensures

pub returns-in_default-value : goal.returns-in_default-value
returns-in_default-value c =
    let a = c.args in
    rw (mid_part_lem (mid a.a.value a.a.bytes.now a.b.value a.b.bytes.now a.c.value a.c.bytes.now) _ c.def_mid.ensures c.in_default.is _ c.def_mid_part-part.ensures, other_letter a.a.value c.in_default-value.not-String) c.put_hex-in_default-value.ensures
