-- `search::counted` meets its contract. Assumes nothing.
use Rattle.search.specs.Search.{counted_of}
use Rattle.search.proofs.counted.Goals as goal

pub returns : goal.returns
unfolding counted_of
returns c = cc
