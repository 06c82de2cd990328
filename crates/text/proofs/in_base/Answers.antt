use mathlib.Core.Path.{sym, refl}
use native.Mathlib.Nat.{le-div_iff_mul-le, div-lt_iff_lt-mul}
use native.Mathlib.Omega.{arith}
use borrow.Author.Rules.{rules}
use Rattle.text.proofs.Digits.{bad_empty, reading_more, reading_stops, reading_large, reading_ends}
use Rattle.text.proofs.in_base.Goals as goal

pub returns-then-is_empty : goal.returns-then-is_empty
returns-then-is_empty c = sym (bad_empty _ _ (search rules))

pub loop-c-init : goal.loop-c-init
loop-c-init c = record { value = refl; digits = refl; some = search rules; fits = search rules }

pub returns-then-base-d : goal.returns-then-base-d
returns-then-base-d c = sym (reading_stops _ _ _ _ c.loop-c.invariant (omega arith) (omega arith))

pub returns-then-d-base : goal.returns-then-d-base
returns-then-d-base c =
    let over = (div-lt_iff_lt-mul {k = c.args.base} (omega arith)).0 c.if-d-base.true in
    sym (reading_large _ _ _ _ c.loop-c.invariant (omega arith) (omega arith) (omega arith))

pub loop-c-preserved : goal.loop-c-preserved
loop-c-preserved c =
    let fits = (le-div_iff_mul-le {k = c.args.base} (omega arith)).0 c.if-d-base.false in
    reading_more _ _ _ _ c.loop-c.invariant (omega arith) _ (omega arith) (omega arith) (omega arith)

pub returns : goal.returns
returns c = sym (reading_ends _ _ _ _ c.loop-c.invariant (omega arith))
