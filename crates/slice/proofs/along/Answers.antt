-- `slice::along` meets its contract. Assumes nothing.
use Rattle.slice.specs.Slice.{along_of}
use Rattle.slice.proofs.along.Goals as goal

pub returns : goal.returns
unfolding along_of
returns c = cc
