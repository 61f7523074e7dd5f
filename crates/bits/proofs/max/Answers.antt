-- `bits::max` meets its contract. Assumes nothing.
use Rattle.laws.specs.Floats.{max_of}
use Rattle.bits.proofs.max.Goals as goal

pub returns : goal.returns
unfolding max_of
returns c = c.pick.ensures
