-- `slice::lowest` meets its contract. Assumes nothing.
use Rattle.slice.specs.Slice.{lowest_of}
use Rattle.slice.proofs.lowest.Goals as goal

pub returns : goal.returns
unfolding lowest_of
returns c = cc
