-- `bits::min` meets its contract. Assumes nothing.
use Rattle.laws.specs.Floats.{min_of}
use Rattle.bits.proofs.min.Goals as goal

pub returns : goal.returns
unfolding min_of
returns c = c.pick.ensures
