-- `answer::put_concat_res` meets its contract: what is at the front of the room, or what was refused.
-- Assumes nothing.
use Rattle.script.proofs.Joining.{resources_bytes, resources_refused}
use lib.ListN.{length-take}
use native.Mathlib.Omega.{arith}
use mathlib.Core.Path.{refl}
use borrow.Author.Rules.{rules}
use Rattle.script.proofs.answer.put_concat_res.Goals as goal

pub slice_bounds-room-end : goal.slice_bounds-room-end
slice_bounds-room-end c = (resources_bytes _ _ _ _ c.args.a.short c.args.b.short _ _ refl _ c.def_concat_res-answer.ensures _ c.in-Ok.is).2

pub slice_bounds-put_hex-end-in-Ok : goal.slice_bounds-put_hex-end-in-Ok
slice_bounds-put_hex-end-in-Ok c =
    let i = resources_bytes _ _ _ _ c.args.a.short c.args.b.short _ _ refl _ c.def_concat_res-answer.ensures _ c.in-Ok.is in
    simp length-take (omega arith)

pub put_hex-requires : goal.put_hex-requires
put_hex-requires c =
    let i = resources_bytes _ _ _ _ c.args.a.short c.args.b.short _ _ refl _ c.def_concat_res-answer.ensures _ c.in-Ok.is in
    (c.requires, search rules, simp length-take (omega arith))

pub returns-in-Ok : goal.returns-in-Ok
returns-in-Ok c = rw (resources_bytes _ _ _ _ c.args.a.short c.args.b.short _ _ refl _ c.def_concat_res-answer.ensures _ c.in-Ok.is).0 c.put_hex.ensures

pub returns-in-Err : goal.returns-in-Err
returns-in-Err c = rw (resources_refused _ _ _ _ c.args.a.short c.args.b.short _ _ refl _ c.def_concat_res-answer.ensures _ c.in-Err.is) c.put_refusal.ensures
