-- `bits::is_finite` meets its contract. Assumes nothing.
use Rattle.laws.proofs.Floats.{between_infinities}
use lib.Ieee.{of_bits, div, neg}
use Rattle.bits.proofs.is_finite.Goals as goal

pub returns : goal.returns
unfolding of_bits div neg
returns c = between_infinities _
