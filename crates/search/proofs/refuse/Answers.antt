-- `search::refuse` meets its contract. Assumes nothing.
use Rattle.search.specs.Search.{search_refused}
use Rattle.search.proofs.refuse.Goals as goal

pub returns : goal.returns
unfolding search_refused
returns c = cc
