-- `concat::def_concat` meets its contract: 27 of either side, then each kind of the left.
-- Assumes nothing.
use mathlib.Core.Path.{sym, ap, ◌∙◌}
use Prim.Native.Nat.{ℕ}
use borrow.Enum.Refused.{opened}
use Rattle.std.specs.Prelude.{Result}
use Rattle.std.proofs.lemmas.Result.{err_from_is_err_and}
use Rattle.types.specs.declared.refusal.Refusal.{Refusal}
use Rattle.expression.specs.Concat.{join_operands, delivered}
use Rattle.expression.proofs.Joining.{concat_number, concat_buffer, concat_text}
use Rattle.expression.proofs.concat.def_concat.Goals as goal

pub returns-in_err-x-in-Boolean : goal.returns-in_err-x-in-Boolean
returns-in_err-x-in-Boolean c =
    let p = err_from_is_err_and c.from_residual.result c.from_residual.ensures.1 in
    let f = ap (λ (o : Result (ℕ × ℕ) Refusal). delivered (join_operands o) c.args.out.now) (sym c.in_err-x-in-Boolean.was) in
    rw (p.1, p.2) (concat_number _ _ _ _ _ c.if-left_bytes-gt65536.false c.if-right_bytes-gt65536.false _ _ _ c.both_operands.ensures f c.in-Boolean.is)

pub returns-in_ok-x-in-Boolean : goal.returns-in_ok-x-in-Boolean
returns-in_ok-x-in-Boolean c =
    let f = c.concat_numbers.ensures ∙ ap (λ (o : Result (ℕ × ℕ) Refusal). delivered (join_operands o) c.args.out.now) (sym c.in_ok-x-in-Boolean.was) in
    concat_number _ _ _ _ _ c.if-left_bytes-gt65536.false c.if-right_bytes-gt65536.false _ _ _ c.both_operands.ensures f c.in-Boolean.is

pub returns-in-Buffer : goal.returns-in-Buffer
returns-in-Buffer c =
    search concat_buffer

pub returns-in_default : goal.returns-in_default
returns-in_default c =
    search (concat_text, opened)
