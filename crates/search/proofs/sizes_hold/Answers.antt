-- `search::sizes_hold` meets its contract. Assumes nothing.
use Rattle.search.specs.Run.{plan_sizes_hold}
use Rattle.search.proofs.sizes_hold.Goals as goal

pub returns : goal.returns
unfolding plan_sizes_hold
returns c = cc
