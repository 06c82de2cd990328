-- `concat::concat_texts` meets its contract: the left text, then the right one, then 20, then both one behind the other.
-- Assumes nothing.
use Rattle.value.specs.Conversions.{held_by}
use Rattle.expression.specs.Concat.{text_of}
use Rattle.expression.proofs.Joining.{texts_left, texts_right, texts_short, texts_shorter, texts_fit, texts_fit_behind, texts_done}
use Rattle.std.proofs.lemmas.Result.{err_from_is_err_and}
use Rattle.expression.proofs.concat.concat_texts.Goals as goal

pub returns-in_err-n : goal.returns-in_err-n
returns-in_err-n c =
    let p = err_from_is_err_and c.from_residual.result c.from_residual.ensures.1 in
    let w = c.in_err-n.was in
    rw (p.1, p.2) (search texts_left)

pub returns-in_err-m : goal.returns-in_err-m
returns-in_err-m c =
    let p = err_from_is_err_and c.from_residual-in_err-m.result c.from_residual-in_err-m.ensures.1 in
    let w = c.in_err-m.was in
    let v = c.in_ok-n.was in
    rw (p.1, p.2) (search texts_right)

pub returns-then-out-n : goal.returns-then-out-n
returns-then-out-n c =
    let w0 = c.in_ok-n.was in
    let w1 = c.in_ok-m.was in
    search texts_short

pub returns-then-out-n-2 : goal.returns-then-out-n-2
returns-then-out-n-2 c =
    let w0 = c.in_ok-n.was in
    let w1 = c.in_ok-m.was in
    search texts_shorter

pub put_text-requires : goal.put_text-requires
put_text-requires c =
    let a = c.args in
    texts_fit (text_of (held_by a.left a.left_bytes.now)) (text_of (held_by a.right a.right_bytes.now)) a.out.now _ c.text_length.ensures _ c.in_ok-n.was _ c.text_length-2.ensures _ c.in_ok-m.was c.if-out-n.false c.if-out-n-2.false

pub put_text-requires-2 : goal.put_text-requires-2
put_text-requires-2 c =
    let a = c.args in
    texts_fit_behind (text_of (held_by a.left a.left_bytes.now)) (text_of (held_by a.right a.right_bytes.now)) a.out.now _ c.text_length.ensures _ c.in_ok-n.was _ c.text_length-2.ensures _ c.in_ok-m.was c.if-out-n.false c.if-out-n-2.false _ c.put_text.ensures

pub returns : goal.returns
returns c =
    let w0 = c.in_ok-n.was in
    let w1 = c.in_ok-m.was in
    search texts_done
