-- `answer::put_concat` meets its contract: what is at the front of the room, or what was refused.
-- Assumes nothing.
use Rattle.script.proofs.Joining.{concat_buffer, concat_string, concat_refused}
use lib.ListN.{length-take}
use native.Mathlib.Omega.{arith}
use mathlib.Core.Path.{refl}
use borrow.Author.Rules.{rules}
use Rattle.script.proofs.answer.put_concat.Goals as goal

pub slice_bounds-room-end : goal.slice_bounds-room-end
slice_bounds-room-end c = (concat_buffer _ _ _ _ c.args.a.short c.args.b.short _ _ refl _ c.def_concat-answer.ensures _ (rw (rw c.in-Ok-Buffer.is at c.in-Ok-Buffer.field-0-is) at c.in-Ok-Buffer.is)).2

pub slice_bounds-put_hex-end-in-Ok-Buffer : goal.slice_bounds-put_hex-end-in-Ok-Buffer
slice_bounds-put_hex-end-in-Ok-Buffer c =
    let i = concat_buffer _ _ _ _ c.args.a.short c.args.b.short _ _ refl _ c.def_concat-answer.ensures _ (rw (rw c.in-Ok-Buffer.is at c.in-Ok-Buffer.field-0-is) at c.in-Ok-Buffer.is) in
    simp length-take (omega arith)

pub slice_bounds-put_hex-end-in-Ok-String-2 : goal.slice_bounds-put_hex-end-in-Ok-String-2
slice_bounds-put_hex-end-in-Ok-String-2 c =
    let i = concat_string _ _ _ _ c.args.a.short c.args.b.short _ _ refl _ c.def_concat-answer.ensures _ (rw (rw c.in-Ok-String.is at c.in-Ok-String.field-0-is) at c.in-Ok-String.is) in
    simp length-take (omega arith)

pub put_hex-requires : goal.put_hex-requires
put_hex-requires c =
    let i = concat_buffer _ _ _ _ c.args.a.short c.args.b.short _ _ refl _ c.def_concat-answer.ensures _ (rw (rw c.in-Ok-Buffer.is at c.in-Ok-Buffer.field-0-is) at c.in-Ok-Buffer.is) in
    (c.requires, search rules, simp length-take (omega arith))

pub slice_bounds-room-end-in-Ok-String : goal.slice_bounds-room-end-in-Ok-String
slice_bounds-room-end-in-Ok-String c = (concat_string _ _ _ _ c.args.a.short c.args.b.short _ _ refl _ c.def_concat-answer.ensures _ (rw (rw c.in-Ok-String.is at c.in-Ok-String.field-0-is) at c.in-Ok-String.is)).2

pub put_hex-requires-in-Ok-String : goal.put_hex-requires-in-Ok-String
put_hex-requires-in-Ok-String c =
    let i = concat_string _ _ _ _ c.args.a.short c.args.b.short _ _ refl _ c.def_concat-answer.ensures _ (rw (rw c.in-Ok-String.is at c.in-Ok-String.field-0-is) at c.in-Ok-String.is) in
    (c.requires, search rules, simp length-take (omega arith))

pub returns-in-Ok-Buffer : goal.returns-in-Ok-Buffer
returns-in-Ok-Buffer c = rw (concat_buffer _ _ _ _ c.args.a.short c.args.b.short _ _ refl _ c.def_concat-answer.ensures _ (rw (rw c.in-Ok-Buffer.is at c.in-Ok-Buffer.field-0-is) at c.in-Ok-Buffer.is)).0 c.put_hex.ensures

pub returns-in-Ok-String : goal.returns-in-Ok-String
returns-in-Ok-String c = rw (concat_string _ _ _ _ c.args.a.short c.args.b.short _ _ refl _ c.def_concat-answer.ensures _ (rw (rw c.in-Ok-String.is at c.in-Ok-String.field-0-is) at c.in-Ok-String.is)).0 c.put_hex-in-Ok-String.ensures

pub returns-in-Err : goal.returns-in-Err
returns-in-Err c = rw (concat_refused _ _ _ _ c.args.a.short c.args.b.short _ _ refl _ c.def_concat-answer.ensures _ c.in-Err.is) c.put_refusal.ensures
