use mathlib.Core.Path.{◌≡◌, ap, refl, ◌∙◌}
use Prim.Native.Nat.{ℕ, ◌+◌, ◌-◌, ◌%◌}
use native.Mathlib.Omega.{arith}
use lib.ListN.{set, drop, length-set}
use Rattle.text.proofs.Decimals.{digits_begin, digits_step, digits_end, tenth}
use Rattle.text.proofs.written.decimal_digits.Goals as goal

pub loop-k-init : goal.loop-k-init
loop-k-init c = record { place = omega arith; small = omega arith; digits = digits_begin c.args.n; row = refl }

pub returns-then-left-lt10 : goal.returns-then-left-lt10
returns-then-left-lt10 c =
    let l = c.loop-k in
    let e : l.k - 1 + 1 ≡ l.k = omega arith in
    let m : 48 + l.left % 10 ≡ 48 + l.left = omega arith in
    (ap (λ (x : ℕ). drop (l.k - 1) (set l.d (l.k - 1) x)) m ∙ digits_end l.d (l.k - 1) l.left (omega arith) (omega arith) ∙ rw e l.invariant.digits, omega arith)

pub loop-k-preserved : goal.loop-k-preserved
loop-k-preserved c =
    let l = c.loop-k in
    let e : l.k - 1 + 1 ≡ l.k = omega arith in
    record {
      place = omega arith;
      small = tenth (l.k - 1) l.left (rw e l.invariant.small);
      digits = digits_step l.d (l.k - 1) l.left (omega arith) (omega arith) ∙ rw e l.invariant.digits;
      row = length-set l.d (l.k - 1) (48 + l.left % 10) ∙ l.invariant.row;
    }

pub returns : goal.returns
returns c =
    let l = c.loop-k in
    let e : l.k ≡ 1 = omega arith in
    let s = rw e at l.invariant.small in
    let d = rw e at l.invariant.digits in
    (digits_end l.d 0 l.left (omega arith) (omega arith) ∙ d, omega arith)
