-- `slice::values_at` meets its contract. Assumes nothing.
use Rattle.slice.specs.Slice.{values_of, values_at}
use Rattle.slice.proofs.values_at.Goals as goal

pub returns : goal.returns
unfolding values_of values_at
returns c = cc
