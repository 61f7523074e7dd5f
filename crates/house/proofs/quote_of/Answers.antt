-- `house::quote_of` meets its contract. Assumes nothing.
use Rattle.house.specs.File.{quote_at}
use Rattle.house.proofs.quote_of.Goals as goal

pub returns : goal.returns
unfolding quote_at
returns c = cc
