-- `buffer_field::out_of_bounds` meets its contract: the sum exceeds the bits there are exactly when one of the two tests holds.
-- Assumes nothing.
use Prim.Native.Nat.{◌*◌}
use Rattle.buffer_field.proofs.Bounds.{long_outside, far_outside}
use Rattle.buffer_field.proofs.out_of_bounds.Goals as goal

pub returns-then-bits-length : goal.returns-then-bits-length
returns-then-bits-length c = long_outside (8 * c.args.size) c.args.offset c.args.length c.if-bits-length.true

pub returns : goal.returns
returns c = far_outside (8 * c.args.size) c.args.offset c.args.length c.if-bits-length.false
