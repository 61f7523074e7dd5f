-- `digits` meets its contract: the patterns that it makes lie below the infinity's, so none is a NaN's. Assumes nothing.
use Rattle.std.proofs.Common.{arith}
use Rattle.laws.proofs.Patterns.{below_nan}
use Rattle.exponent.proofs.digits.Goals as goal

pub float_from_bits-result : goal.float_from_bits-result
float_from_bits-result c = below_nan _ (omega arith)
