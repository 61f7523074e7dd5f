-- `bits_of` meets its contract: what differs from itself is NaN, and its bits are those that `to_bits` writes. Assumes nothing.
use Rattle.laws.proofs.Floats.{nan_bits_lem, self_same}
use Rattle.bits.proofs.bits_of.Goals as goal

pub returns-then-x : goal.returns-then-x
returns-then-x c = nan_bits_lem c.args.x c.if-x.true

pub float_to_bits-result : goal.float_to_bits-result
float_to_bits-result c = self_same c.args.x c.if-x.false
