-- `value::convert::buffer_field_buffer` meets its contract: by what counting its bytes answered.
-- Assumes nothing.
use Rattle.std.proofs.lemmas.Result.{err_from_is_err_and}
use mathlib.Core.Path.{sym, ap, ◌∙◌}
use Prim.Native.Nat.{ℕ}
use Rattle.std.specs.Prelude.{Result}
use Rattle.types.specs.declared.refusal.Refusal.{Refusal}
use Rattle.value.specs.Conversions.{given}
use Rattle.value.proofs.Fields.{counted_refused, counted_short, counted_given}
use Rattle.value.proofs.convert.buffer_field_buffer.Goals as goal

pub returns-in_err-n : goal.returns-in_err-n
returns-in_err-n c =
    let a = c.args in
    let p = err_from_is_err_and c.from_residual.result c.from_residual.ensures.1 in
    rw (p.1, p.2)
    (ap (λ (x : Result ℕ Refusal). given x a.out.now) (sym c.in_err-n.was)
    ∙ counted_refused a.bytes.now a.offset a.length a.out.now _ c.buffer_field_length.ensures _ c.in_err-n.was)

pub returns-then-out-n : goal.returns-then-out-n
returns-then-out-n c =
    let a = c.args in
    counted_short a.bytes.now a.offset a.length a.out.now _ c.buffer_field_length.ensures _ c.in_ok-n.was c.if-out-n.true

pub returns : goal.returns
returns c =
    let a = c.args in
    counted_given a.bytes.now a.offset a.length a.out.now _ c.buffer_field_length.ensures _
    c.in_ok-n.was
    c.if-out-n.false
    (λ j. (c.slice_known-1.given j).fits)
    _
    c.read_long.ensures
