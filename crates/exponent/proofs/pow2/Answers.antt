-- `pow2` meets its contract: the pattern lies below the infinity's, so it is no NaN's. Assumes nothing.
use Rattle.std.proofs.Common.{arith}
use Rattle.laws.proofs.Patterns.{below_nan}
use Rattle.exponent.proofs.pow2.Goals as goal

pub float_from_bits-result : goal.float_from_bits-result
float_from_bits-result c = below_nan _ (omega arith)
