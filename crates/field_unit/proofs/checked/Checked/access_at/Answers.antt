-- A read loads unit after unit. A write's accesses follow the units too, once a load of the first unit is set apart; past the last unit there is its store.
-- Assumes nothing.
use native.Mathlib.Omega.{arith}
use Rattle.std.proofs.lemmas.Bool.{not-true, not-false}
use Rattle.field_unit.proofs.Kept.{ordered, small}
use Rattle.field_unit.proofs.Which.{count_few, at_read, at_lead, at_last_store, at_last_load, at_covered, at_only, at_middle}
use Rattle.field_unit.proofs.checked.Checked.access_at.Goals as goal
use Rattle.field_unit.proofs.checked.Checked.access_at.Goals.{else-u-last-via-then-u-last+then-first-last+else-is_partly, else-u-last-via-then-u-last+else-first-last, else-u-last-via-else-u-last}

pub overflow_add-result : goal.overflow_add-result
overflow_add-result c =
    let s = c.args.self in
    omega (arith, ordered s, small s, count_few s, c.first-first.ensures, c.requires)

pub returns-then-not-self : goal.returns-then-not-self
returns-then-not-self c =
    at_read c.args.self c.first-first.ensures c.last-last.ensures c.args.k (not-true _ c.if-not-self.true) c.requires

pub returns-then-k-lead : goal.returns-then-k-lead
returns-then-k-lead c =
    at_lead c.args.self c.first-first.ensures c.last-last.ensures c.is_partly.ensures c.from-lead.ensures c.args.k c.if-k-lead.true

pub overflow_add-u : goal.overflow_add-u
overflow_add-u c =
    let s = c.args.self in
    omega (arith, ordered s, small s, count_few s, c.first-first.ensures, c.requires)

pub returns-then-last-u : goal.returns-then-last-u
returns-then-last-u c =
    at_last_store c.args.self c.first-first.ensures c.last-last.ensures c.is_partly.ensures c.from-lead.ensures c.args.k (not-false _ c.if-not-self.false) c.if-k-lead.false c.requires c.if-last-u.true

pub returns-then-is_partly : goal.returns-then-is_partly
returns-then-is_partly c =
    at_last_load c.args.self c.first-first.ensures c.last-last.ensures c.is_partly.ensures c.from-lead.ensures c.args.k (not-false _ c.if-not-self.false) c.if-k-lead.false c.if-u-last.true c.if-first-last.true c.is_partly-then-first-last.ensures c.if-is_partly.true

pub returns : goal.returns
returns c =
    let s = c.args.self in
    let w = not-false _ c.if-not-self.false in
    elim c.else-u-last.branch [
      | else-u-last-via-then-u-last+then-first-last+else-is_partly b ↦
          at_covered s c.first-first.ensures c.last-last.ensures c.is_partly.ensures c.from-lead.ensures c.args.k w c.if-k-lead.false b.if-u-last.true b.is_partly-then-first-last.ensures b.if-is_partly.false
      | else-u-last-via-then-u-last+else-first-last b ↦
          at_only s c.first-first.ensures c.last-last.ensures c.is_partly.ensures c.from-lead.ensures c.args.k w c.if-k-lead.false b.if-u-last.true b.if-first-last.false
      | else-u-last-via-else-u-last b ↦
          at_middle s c.first-first.ensures c.last-last.ensures c.is_partly.ensures c.from-lead.ensures c.args.k w c.if-k-lead.false c.if-last-u.false b.if-u-last.false
    ]
