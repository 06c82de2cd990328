use mathlib.Core.Path.{sym, ap, ◌∙◌}
use native.Mathlib.Omega.{arith}
use Rattle.field_unit.specs.Accesses.{Progress}
use Rattle.field_unit.specs.Calls.{plan_of}
use Rattle.field_unit.proofs.Closed.{read_closed}
use Rattle.field_unit.proofs.Joined.{joined_all, joining_start, joining_next}
use Rattle.field_unit.proofs.Kept.{ordered, begins, unit, over}
use Rattle.field_unit.proofs.checked.Checked.read.Goals as goal

pub loop-u-init : goal.loop-u-init
loop-u-init c =
    let s = c.args.self in
    let u = c.first-first.result in
    let e = c.first-first.ensures in
    let i = unit s u (omega (arith, e)) (omega (arith, e, ordered s)) in
    joining_start c.args.region.now s.width s.op.field.offset u _ s.wide.1 (begins s u e) i.0 c.fetch.ensures

pub loop-u-preserved : goal.loop-u-preserved
loop-u-preserved c =
    let s = c.args.self in
    let l = c.loop-u in
    let i = unit s l.u (omega (arith, l.auto.u, c.first-first.ensures)) (omega (arith, c.last-u-end.ensures, c.loop-u-test.true)) in
    joining_next _ _ _ _ _ _ _ l.invariant (omega (arith, i.1, s.fits, l.invariant.ends)) c.fetch-in-loop-u.ensures

pub returns : goal.returns
returns c =
    let s = c.args.self in
    let l = c.loop-u in
    let o = over s l.u (omega (arith, c.last-u-end.ensures, c.loop-u-test.false)) in
    c.low.ensures
    ∙ joined_all c.args.region.now s.op.field.offset l.value l.have s.op.field.length (omega (arith, o, l.invariant.ends)) s.fits.1 l.invariant.so_far_lem
    ∙ sym (ap (λ (p : Progress). p.held) (read_closed (plan_of s.op) c.requires c.args.region.now (rw (← s.width_is) (omega (arith, s.wide))) s.fits.0))
