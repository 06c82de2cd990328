-- `value::convert::as_type` meets its contract: each return is a case of the type wanted.
-- Assumes nothing.
use mathlib.Core.Path.{sym, ap, ◌∙◌}
use Prim.Native.Nat.{ℕ}
use borrow.Enum.Refused.{opened}
use Rattle.std.specs.Prelude.{Result}
use Rattle.std.proofs.lemmas.Result.{err_from_is_err_and}
use Rattle.types.specs.Values.{type_number_of}
use Rattle.types.specs.declared.refusal.Refusal.{Refusal}
use Rattle.value.specs.Conversions.{given_type, integer_type, length_type}
use Rattle.value.proofs.Lent.{as_type_long}
use Rattle.value.proofs.Named.{alike, unlike, no_integer_yet, type_same, type_integer, type_buffer, type_none}
use Rattle.value.proofs.convert.as_type.Goals as goal

pub returns-then-bytes-gt65536 : goal.returns-then-bytes-gt65536
returns-then-bytes-gt65536 c = sym (as_type_long _ _ c.if-bytes-gt65536.true _ _)

pub returns-then-eq : goal.returns-then-eq
returns-then-eq c =
    let a = c.args in
    sym
    (type_same _ _ c.if-bytes-gt65536.false _ _
    (ap type_number_of (sym c.type_of.ensures) ∙ alike c.type_of.result a.wanted (sym c.eq.ensures ∙ c.if-eq.true)))

pub content_integer-requires : goal.content_integer-requires
content_integer-requires c =
    let a = c.args in (
      c.if-bytes-gt65536.false,
      no_integer_yet a.value a.wanted
          (λ e. unlike c.type_of.result a.wanted (sym c.eq.ensures ∙ c.if-eq.false) (ap type_number_of c.type_of.ensures ∙ e)) c.in-Integer.is,
    )

pub returns-in_err-content_integer-in-Integer : goal.returns-in_err-content_integer-in-Integer
returns-in_err-content_integer-in-Integer c =
    let a = c.args in
    let p = err_from_is_err_and c.from_residual.result c.from_residual.ensures.1 in
    rw (p.1, p.2)
    (ap (λ (x : Result ℕ Refusal). given_type (integer_type x) a.out.now)
    (sym c.in_err-content_integer-in-Integer.was ∙ c.content_integer.ensures)
    ∙ sym
    (type_integer _ _ c.if-bytes-gt65536.false _ _
    (λ e. unlike c.type_of.result a.wanted (sym c.eq.ensures ∙ c.if-eq.false) (ap type_number_of c.type_of.ensures ∙ e)) c.in-Integer.is))

pub returns-in_ok-content_integer-in-Integer : goal.returns-in_ok-content_integer-in-Integer
returns-in_ok-content_integer-in-Integer c =
    let a = c.args in
    ap (λ (x : Result ℕ Refusal). given_type (integer_type x) a.out.now)
    (sym c.in_ok-content_integer-in-Integer.was ∙ c.content_integer.ensures)
    ∙ sym
    (type_integer _ _ c.if-bytes-gt65536.false _ _
    (λ e. unlike c.type_of.result a.wanted (sym c.eq.ensures ∙ c.if-eq.false) (ap type_number_of c.type_of.ensures ∙ e)) c.in-Integer.is)

pub returns-in_err-as_buffer-in-Buffer : goal.returns-in_err-as_buffer-in-Buffer
returns-in_err-as_buffer-in-Buffer c =
    let a = c.args in
    let r = c.from_residual-in_err-as_buffer-in-Buffer in
    let p = err_from_is_err_and r.result r.ensures.1 in
    rw (p.1, p.2)
    (ap (λ (x : Result ℕ Refusal). given_type (length_type x) c.as_buffer.new.out) (sym c.in_err-as_buffer-in-Buffer.was)
    ∙ type_buffer _ _ c.if-bytes-gt65536.false _ _
    (λ e. unlike c.type_of.result a.wanted (sym c.eq.ensures ∙ c.if-eq.false) (ap type_number_of c.type_of.ensures ∙ e)) c.in-Buffer.is _ _ c.as_buffer.ensures)

pub returns-in_ok-as_buffer-in-Buffer : goal.returns-in_ok-as_buffer-in-Buffer
returns-in_ok-as_buffer-in-Buffer c =
    let a = c.args in
    ap (λ (x : Result ℕ Refusal). given_type (length_type x) c.as_buffer.new.out) (sym c.in_ok-as_buffer-in-Buffer.was)
    ∙ type_buffer _ _ c.if-bytes-gt65536.false _ _
    (λ e. unlike c.type_of.result a.wanted (sym c.eq.ensures ∙ c.if-eq.false) (ap type_number_of c.type_of.ensures ∙ e)) c.in-Buffer.is _ _ c.as_buffer.ensures

pub returns-in_default : goal.returns-in_default
returns-in_default c =
    let a = c.args in
    rw (c.no.ensures, c.type_of-in_default.ensures)
    (sym
    (type_none a.value a.bytes.now c.if-bytes-gt65536.false a.wanted a.out.now
    (λ e. unlike c.type_of.result a.wanted (sym c.eq.ensures ∙ c.if-eq.false) (ap type_number_of c.type_of.ensures ∙ e))
    (opened c.in_default.in_default-own.keys3)))
