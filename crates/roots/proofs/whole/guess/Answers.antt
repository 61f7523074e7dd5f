-- `roots::whole::guess` meets its contract: no pattern here is a NaN. Assumes nothing.
use native.Mathlib.Omega.{arith}
use Rattle.laws.proofs.Floats.{self_same}
use Rattle.laws.proofs.Patterns.{below_nan}
use Rattle.laws.proofs.Values.{whole_no_nan}
use Rattle.roots.proofs.whole.guess.Goals as goal

pub float_to_bits-r0 : goal.float_to_bits-r0
float_to_bits-r0 c = whole_no_nan _

pub float_from_bits-r0 : goal.float_from_bits-r0
float_from_bits-r0 c = below_nan _ (omega arith)

pub float_to_bits-result : goal.float_to_bits-result
float_to_bits-result c = self_same _ c.if-y.false
