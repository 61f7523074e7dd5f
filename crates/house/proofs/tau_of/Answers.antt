-- `house::tau_of` meets its contract. Assumes nothing.
use Rattle.house.specs.File.{tau_of}
use Rattle.house.proofs.tau_of.Goals as goal

pub returns : goal.returns
unfolding tau_of
returns c = cc
