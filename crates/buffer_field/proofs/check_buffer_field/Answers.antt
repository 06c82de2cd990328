-- `buffer_field::check_buffer_field` meets its contract: each return is a case of the checks, by the tests on the way to it.
-- Assumes nothing.
use Rattle.buffer_field.proofs.Bounds.{bounds_too_long, bounds_outside, bounds_done}
use Rattle.buffer_field.proofs.check_buffer_field.Goals as goal

pub returns-then-size-gt65536 : goal.returns-then-size-gt65536
returns-then-size-gt65536 c = search bounds_too_long

pub returns-then-out_of_bounds : goal.returns-then-out_of_bounds
returns-then-out_of_bounds c = search bounds_outside

pub returns : goal.returns
returns c = search bounds_done
