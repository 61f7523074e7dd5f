-- `roots::near::inverse` meets its contract: no pattern here is a NaN. Assumes nothing.
use native.Mathlib.Omega.{arith}
use Rattle.laws.proofs.Patterns.{below_nan}
use Rattle.roots.proofs.near.inverse.Goals as goal

pub float_from_bits-r0 : goal.float_from_bits-r0
float_from_bits-r0 c = below_nan _ (omega arith)
