-- `buffer_field::read_buffer_field` meets its contract: by what checking the place answered, then by the length.
-- Assumes nothing.
use mathlib.Core.Path.{sym, ◌∙◌}
use native.Mathlib.Omega.{arith}
use Rattle.std.proofs.lemmas.Result.{err_from_is_err_and}
use mathlib.Core.Path.{◌≡◌}
use Rattle.bits.specs.Bits.{bytes_for}
use Rattle.buffer_field.proofs.Reading.{read_refused, read_integer, read_no_room, read_buffer}
use Rattle.buffer_field.proofs.read_buffer_field.Goals as goal

pub returns-in_err-check_buffer_field : goal.returns-in_err-check_buffer_field
returns-in_err-check_buffer_field c =
    let p = err_from_is_err_and c.from_residual.result c.from_residual.ensures.1 in
    rw (p.1, p.2) (read_refused _ _ _ _ _ (sym c.check_buffer_field.ensures ∙ c.in_err-check_buffer_field.was))

pub returns-then-length-le64 : goal.returns-then-length-le64
returns-then-length-le64 c =
    read_integer _ _ _ _ (sym c.check_buffer_field.ensures ∙ c.in_ok-check_buffer_field.was) c.if-length-le64.true _ c.get_bits.ensures

pub returns-then-out-n : goal.returns-then-out-n
returns-then-out-n c =
    let n : c.div_ceil-n.result ≡ bytes_for c.args.length = omega arith in
    read_no_room _ _ _ _ (sym c.check_buffer_field.ensures ∙ c.in_ok-check_buffer_field.was) c.if-length-le64.false (omega arith)

pub returns : goal.returns
returns c =
    let a = c.args in
    let n : c.div_ceil-n.result ≡ bytes_for a.length = omega arith in
    rw n (read_buffer a.buffer.now a.offset a.length a.out.now (sym c.check_buffer_field.ensures ∙ c.in_ok-check_buffer_field.was) c.if-length-le64.false (omega arith) _ c.read_long.ensures)
