-- `roots::near::near_digits` meets its contract: no pattern here is a NaN. Assumes nothing.
use native.Mathlib.Omega.{arith}
use Rattle.laws.proofs.Floats.{self_same}
use Rattle.laws.proofs.Patterns.{below_nan}
use Rattle.roots.proofs.near.near_digits.Goals as goal

pub float_from_bits-x : goal.float_from_bits-x
float_from_bits-x c = below_nan _ (omega arith)

pub float_to_bits-f : goal.float_to_bits-f
float_to_bits-f c = self_same _ c.if-h.false
