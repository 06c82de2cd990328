-- `mid::def_mid_part` meets its contract: empty where Mid is refused; else the bytes at the place.
-- Assumes nothing.
use native.Mathlib.Nat.{add-sub_cancel_left}
use Rattle.expression.proofs.Slicing.{place_within, place_part}
use Rattle.std.proofs.Common.{rules}
use Rattle.expression.proofs.mid.def_mid_part.Goals as goal

pub overflow_add-end : goal.overflow_add-end
overflow_add-end c =
    let a = c.args in
    let w = place_within a.source a.source_bytes.now a.index a.index_bytes.now a.length a.length_bytes.now _ c.def_mid_place-found.ensures _ c.in-Ok.is in
    search rules

pub returns : goal.returns
returns c =
    rw add-sub_cancel_left (search place_part)

pub slice_bounds-result-end-2 : goal.slice_bounds-result-end-2
slice_bounds-result-end-2 c =
    search place_within
